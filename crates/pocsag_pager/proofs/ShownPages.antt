-- What is shown is one list, of pages that may be listed.
use Rattle.pocsag_pager.proofs.Prelude.{◌≡◌, ℕ, ◌+◌, ◌/◌, ◌%◌, ◌^◌, ◌<◌, Bool, true, false, cond, nat_eq, List, [], ◌∷◌, map, All, sym, ap, subst, ◌∙◌, arith, Option, Some, None, All-cons, All-nil, Kind, Page, unsynced, AreShown, is_ours, page_called, run_of, said, shown_from, nat_lt, Idle, Address, Message}
use Rattle.pocsag_pages.specs.Listable.{IsListable}
use Rattle.pocsag_pager.proofs.Mended.{all_mended_same}

pub one_list : (words : List ℕ) (a : ℕ) (ps qs : List Page) → AreShown words a ps → AreShown words a qs → ps ≡ qs
one_list words a ps qs h k =
    h.holds
    ∙ ap (λ (ms : List (Option ℕ)). shown_from a 0 (map said ms)) (all_mended_same (unsynced 0 words) h.mended k.mended h.each k.each)
    ∙ sym k.holds

-- a function of two bits, or 20 message bits
abbrev IsSmall : Option Kind → Type 0
IsSmall None = Unit {0}
IsSmall (Some Idle) = Unit {0}
IsSmall (Some (Address high function)) = function < 4
IsSmall (Some (Message bits)) = bits < 2 ^ 20

abbrev AllSmall : List (Option Kind) → Type 0
AllSmall [] = Unit {0}
AllSmall (m ∷ ms) = IsSmall m × AllSmall ms

small_kind : (b c : Bool) (d : ℕ) → IsSmall (Some (cond b Idle (cond c (Address (d / 4) (d % 4)) (Message (d % 2 ^ 20)))))
small_kind true c d = tt
small_kind false true d = omega arith
small_kind false false d = omega arith

all_small : (ms : List (Option ℕ)) → AllSmall (map said ms)
all_small [] = tt
all_small (None ∷ ms) = (tt, all_small ms)
all_small (Some w ∷ ms) = (small_kind (nat_eq w 0x7a89c197) (nat_lt (w / 2048) (2 ^ 20)) (w / 2048), all_small ms)

run_small : (ms : List (Option Kind)) → AllSmall ms → All (λ item. item < 2 ^ 20) (run_of ms)
run_small [] h = All-nil _
run_small (None ∷ ms) h = All-nil _
run_small (Some Idle ∷ ms) h = All-nil _
run_small (Some (Address high function) ∷ ms) h = All-nil _
run_small (Some (Message bits) ∷ ms) h = All-cons (λ item. item < 2 ^ 20) bits (run_of ms) h.0 (run_small ms h.1)

listed : (b : Bool) (p : Page) (ps : List Page) → IsListable p → All IsListable ps → All IsListable (cond b (p ∷ ps) ps)
listed true p ps here rest = All-cons IsListable p ps here rest
listed false p ps here rest = rest

listable : (a i : ℕ) (ms : List (Option Kind)) → AllSmall ms → All IsListable (shown_from a i ms)
listable a i [] h = All-nil _
listable a i (None ∷ ms) h = listable a (i + 1) ms h.1
listable a i (Some Idle ∷ ms) h = listable a (i + 1) ms h.1
listable a i (Some (Address high function) ∷ ms) h =
    listed (is_ours a i high) (page_called a function ms) (shown_from a (i + 1) ms) (record { function = h.0; items = run_small ms h.1 })
    (listable a (i + 1) ms h.1)
listable a i (Some (Message bits) ∷ ms) h = listable a (i + 1) ms h.1

pub shown_listable : (words : List ℕ) (a : ℕ) (ps : List Page) → AreShown words a ps → All IsListable ps
shown_listable words a ps h = subst (All IsListable) (sym h.holds) (listable a 0 (map said h.mended) (all_small h.mended))
