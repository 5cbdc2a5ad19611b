-- A damaged transmission is heard as it was sent.
use Rattle.pocsag_pager.proofs.Prelude.{◌≡◌, ◌≢◌, ℕ, ◌+◌, ◌*◌, ◌-◌, ◌/◌, ◌%◌, ◌<◌, ◌≤◌, Bool, true, false, cond, nat_eq, List, [], ◌∷◌, length, map, drop, filter, All, refl, sym, ap, ap₂, subst, ◌∙◌, inl, inr, arith, eqb-true, Option, Some, None, AllZip, cases_eq, ne_eqb, length-map, All-head, All-tail, IsCodeword, IsNear, Kind, Page, unsynced, words_of, AreApart, frame_at, IsMended, AreShown, is_ours, page_called, run_of, said, shown_from, ◌↔◌, le-ltb, length-drop, kind_of, Idle, Address, Message, after_preamble, body_bytes, bytes_of, leading, sync_word, synced, IsLegalList, Reads, body_length, synced_count, synced_small, words_again}
use Rattle.std.proofs.Common.{eq-eqb}
use Rattle.std.proofs.lemmas.Bool.Decides.{nat_tests}
use Rattle.pocsag_words.specs.declared.ending.End.{End}
use Rattle.pocsag_pages.specs.Plain.{HasNoOrphan, items_of, pages_from}
use Rattle.pocsag_pager.specs.Damage.{IsDamaged}
use Rattle.pocsag_pager.specs.Faults.{bytes_fault}
use Rattle.pocsag_pager.proofs.Chosen.{calls, chosen}
use Rattle.pocsag_pager.proofs.Mended.{mended_back}

-- ---- the front of a transmission's bytes

leading_is : (T : List ℕ) → 0 < length T → leading (bytes_of T) ≡ 72
unfolding bytes_of
leading_is [] some = absurd (omega arith)
leading_is (w ∷ T) some = refl

after_is : (T : List ℕ) → 0 < length T → after_preamble (bytes_of T) ≡ body_bytes T
unfolding bytes_of
after_is [] some = absurd (omega arith)
after_is (w ∷ T) some = refl

-- ---- no fault

no_fault_case : (n m : ℕ) → 72 ≤ n → m ≢ 0 → m % 68 ≡ 0 → (Y : List ℕ) → leading Y ≡ n → length (after_preamble Y) ≡ m
    → bytes_fault Y ≡ None
unfolding bytes_fault
no_fault_case n m long some whole Y e h = rw (h, e, le-ltb _ _ long, ne_eqb _ _ some, eq-eqb _ _ whole) refl

pub no_fault : (end : End) (T : List ℕ) (batches : ℕ) (R : List Page) (Y : List ℕ) → IsLegalList end T batches R → IsDamaged (bytes_of T) Y
    → bytes_fault Y ≡ None
no_fault end T batches R Y legal damaged =
    let long : length T ≡ 16 * batches = sym (length-map T kind_of) ∙ legal.1.0.whole.1 in
    let some : 0 < batches = legal.1.0.whole.0 in
    let front : leading Y ≡ 72 = sym damaged.preamble ∙ leading_is T (omega arith) in
    let body : length (body_bytes T) ≡ 4 * length (synced 0 T) = body_length (synced 0 T) in
    let sent : length (drop (leading (bytes_of T)) (bytes_of T)) ≡ length (body_bytes T) = ap length (after_is T (omega arith)) in
    let same : length (after_preamble Y) ≡ length (body_bytes T) =
    length-drop (leading Y) Y ∙ ap₂ ◌-◌ (sym damaged.long) (sym damaged.preamble) ∙ sym (length-drop (leading (bytes_of T)) (bytes_of T))
    ∙ sent in
    let words : length (synced 0 T) ≡ 17 * batches = omega (arith, synced_count 0 T) in
    no_fault_case 72 (68 * batches) (omega arith) (omega arith) (omega arith) Y front (omega arith)

-- ---- what holds of each word and the one received, where synchronisation codewords are left out

module _ (R : ℕ → ℕ → Type 0) where
  first_word : (i j w : ℕ) (T ys : List ℕ) → j ≡ i + (i + 15) / 16 → i % 16 ≡ 0 → AllZip R (sync_word ∷ w ∷ synced (i + 1) T) ys
      → ((zs : List ℕ) → AllZip R (synced (i + 1) T) zs → AllZip R T (unsynced (j + 2) zs)) → AllZip R (w ∷ T) (unsynced j ys)
  first_word i j w T [] e first each more = absurd each
  first_word i j w T (y ∷ []) e first each more = absurd (each.1)
  first_word i j w T (y ∷ z ∷ zs) e first each more =
      let here : j % 17 ≡ 0 = omega arith in
      let next : (j + 1) % 17 ≢ 0 = λ wrong. absurd (omega arith) in
      let two : j + 1 + 1 ≡ j + 2 = omega arith in
      rw (eq-eqb _ _ here, ne_eqb _ _ next, two) (each.1.0, more zs each.1.1)

  next_word : (i j w : ℕ) (T ys : List ℕ) → j ≡ i + (i + 15) / 16 → i % 16 ≢ 0 → AllZip R (w ∷ synced (i + 1) T) ys
      → ((zs : List ℕ) → AllZip R (synced (i + 1) T) zs → AllZip R T (unsynced (j + 1) zs)) → AllZip R (w ∷ T) (unsynced j ys)
  next_word i j w T [] e n each more = absurd each
  next_word i j w T (y ∷ ys) e n each more =
      let here : j % 17 ≢ 0 = λ wrong. absurd (omega arith) in
      rw (ne_eqb _ _ here) (each.0, more ys each.1)

  pub zip_unsynced : (i j : ℕ) (T ys : List ℕ) → j ≡ i + (i + 15) / 16 → AllZip R (synced i T) ys → AllZip R T (unsynced j ys)
  zip_unsynced i j [] [] e each = tt
  zip_unsynced i j [] (y ∷ ys) e each = absurd each
  zip_unsynced i j (w ∷ T) ys e each =
      elim (cases_eq (i % 16) 0) [
        | inl first ↦ first_word i j w T ys e first (rw (eq-eqb _ _ first) at each) (λ zs. zip_unsynced (i + 1) (j + 2) T zs (omega arith))
        | inr n ↦ next_word i j w T ys e n (rw (ne_eqb _ _ n) at each) (λ zs. zip_unsynced (i + 1) (j + 1) T zs (omega arith))
      ]

-- ---- what is shown of codewords that are all repaired

all_back : (T ys : List ℕ) (ms : List (Option ℕ)) → All IsCodeword T → AllZip IsNear T ys → AllZip IsMended ys ms
    → map said ms ≡ map Some (map kind_of T)
all_back [] [] [] codewords near mended = refl
all_back [] [] (m ∷ ms) codewords near mended = absurd mended
all_back [] (y ∷ ys) ms codewords near mended = absurd near
all_back (t ∷ T) [] ms codewords near mended = absurd near
all_back (t ∷ T) (y ∷ ys) [] codewords near mended = absurd mended
all_back (t ∷ T) (y ∷ ys) (m ∷ ms) codewords near mended =
    ap₂ ◌∷◌ (ap said (mended_back t y m (All-head IsCodeword t T codewords) near.0 mended.0))
    (all_back T ys ms (All-tail IsCodeword t T codewords) near.1 mended.1)

run_is : (ks : List Kind) → run_of (map Some ks) ≡ items_of ks
run_is [] = refl
run_is (Idle ∷ ks) = refl
run_is (Address high function ∷ ks) = refl
run_is (Message bits ∷ ks) = ap (λ xs. bits ∷ xs) (run_is ks)

ours_is : (a i high : ℕ) → is_ours a i high ≡ nat_eq (8 * high + frame_at i) a
unfolding is_ours
ours_is a i high = grind (arith, nat_tests)

page_case : (b : Bool) (p q : Page) (ps qs : List Page) → (b ≡ true → p ≡ q) → ps ≡ qs → cond b (p ∷ ps) ps ≡ cond b (q ∷ qs) qs
page_case true p q ps qs here rest = ap₂ ◌∷◌ (here refl) rest
page_case false p q ps qs here rest = rest

pub shown_is_chosen : (a i : ℕ) (ks : List Kind) → shown_from a i (map Some ks) ≡ filter (calls a) (pages_from i ks)
shown_is_chosen a i [] = refl
shown_is_chosen a i (Idle ∷ ks) = shown_is_chosen a (i + 1) ks
shown_is_chosen a i (Address high function ∷ ks) =
    let q : Page = record { address = 8 * high + frame_at i; function = function; payload = items_of ks } in
    ap (λ b. cond b (page_called a function (map Some ks) ∷ shown_from a (i + 1) (map Some ks)) (shown_from a (i + 1) (map Some ks)))
    (ours_is a i high)
    ∙ page_case (nat_eq (8 * high + frame_at i) a) (page_called a function (map Some ks)) q (shown_from a (i + 1) (map Some ks))
    (filter (calls a) (pages_from (i + 1) ks))
    (λ ours. ap₂ (λ (address : ℕ) (items : List ℕ). (record { address = address; function = function; payload = items }))
    (sym (eqb-true _ _ ours)) (run_is ks))
    (shown_is_chosen a (i + 1) ks)
shown_is_chosen a i (Message bits ∷ ks) = shown_is_chosen a (i + 1) ks

-- that readings are plain, by the law of that name
abbrev pub ArePlain : Type 0
ArePlain = (ws : List Kind) (i : ℕ) (ps : List Page) → Reads ws i ps ↔ (HasNoOrphan false ws × (ps ≡ pages_from i ws))

pub repaired : ArePlain → (end : End) (T : List ℕ) (batches : ℕ) (R : List Page) (Y : List ℕ) (a : ℕ) (ps : List Page) → AreApart R
    → IsLegalList end T batches R → IsDamaged (bytes_of T) Y → AreShown (words_of (after_preamble Y)) a ps → ps ≡ filter (calls a) R
repaired law end T batches R Y a ps apart legal damaged h =
    let read = legal.1.0 in
    let long : length T ≡ 16 * batches = sym (length-map T kind_of) ∙ read.whole.1 in
    let some : 0 < batches = read.whole.0 in
    let sent : words_of (after_preamble (bytes_of T)) ≡ synced 0 T =
    ap words_of (after_is T (omega arith)) ∙ words_again (synced 0 T) (synced_small 0 T legal.0) in
    let near : AllZip IsNear (synced 0 T) (words_of (after_preamble Y)) =
    subst (λ (xs : List ℕ). AllZip IsNear xs (words_of (after_preamble Y))) sent damaged.words in
    let kinds = all_back T (unsynced 0 (words_of (after_preamble Y))) h.mended legal.0
    (zip_unsynced IsNear 0 0 T (words_of (after_preamble Y)) (omega arith) near) h.each in
    let plain = (law (map kind_of T) 0 read.ps).0 read.reads in
    h.holds ∙ ap (shown_from a 0) kinds ∙ shown_is_chosen a 0 (map kind_of T) ∙ ap (filter (calls a)) (sym (plain.1))
    ∙ chosen a R read.ps apart read.as_many read.each
