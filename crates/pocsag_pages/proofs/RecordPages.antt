-- The page of a record breaks no rule.
use Rattle.pocsag_pages.proofs.Prelude.{◌≡◌, ℕ, ◌^◌, ◌<◌, ◌≤◌, false, List, [], ◌∷◌, length, All, nat_le, refl, arith, None, list_any, nat_tests, All-head, All-tail, item_limit, PageKind, last_address, is_bad_payload, is_reserved, page_fault_of, IsTone, function_of, not_above, and_false}
use Rattle.pocsag_pages.specs.declared.record.PageKind.TheVariants as kind

below_mark : (limit n : ℕ) → n < limit → nat_le limit n ≡ false
below_mark limit n h = grind (arith, nat_tests)

no_large : (items : List ℕ) → All (λ item. item < 2 ^ 20) items → list_any (nat_le (2 ^ 20)) items ≡ false
no_large [] small = refl
no_large (x ∷ items) small =
    rw (below_mark (2 ^ 20) x (All-head (λ item. item < 2 ^ 20) x items small))
    (no_large items (All-tail (λ item. item < 2 ^ 20) x items small))

good_payload : (k : PageKind) (items : List ℕ) → function_of k < 4 → (IsTone k → items ≡ []) → length items ≤ item_limit →
    All (λ item. item < 2 ^ 20) items → is_bad_payload (function_of k) items ≡ false
unfolding is_bad_payload
good_payload (kind.Tone f) items known silent few small = rw (silent tt, not_above 3 f (omega arith), and_false) refl
good_payload kind.Numeric items known silent few small = rw (not_above item_limit (length items) few, no_large items small) refl
good_payload kind.Alpha items known silent few small = rw (not_above item_limit (length items) few, no_large items small) refl

pub good_record : (a : ℕ) (k : PageKind) (items : List ℕ) → a ≤ last_address → is_reserved a ≡ false → function_of k < 4 →
    (IsTone k → items ≡ []) → length items ≤ item_limit → All (λ item. item < 2 ^ 20) items →
    page_fault_of (record { address = a; function = function_of k; payload = items }) ≡ None
good_record a k items low unreserved known silent few small =
    rw (not_above last_address a low, unreserved, good_payload k items known silent few small) refl
