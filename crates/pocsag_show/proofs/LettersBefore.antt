-- The letters one by one are those at the indices.
use Rattle.pocsag_show.proofs.Prelude.{◌≡◌, ℕ, zero, suc, ◌+◌, ◌-◌, ◌*◌, ◌<◌, Bool, true, false, IsTrue, List, [], ◌∷◌, length, map, take, drop, get_or, slice_index, refl, ap, sym, ◌∙◌, arith, cond, sum_by-cons, Kind, Page, HasNoOrphan, pages_from, is_address, letter_after, letter_at, pages_in, letters_with, capital, small}
use Rattle.pocsag_words.specs.declared.codeword.Kind.TheVariants.{Idle, Address, Message}
use Rattle.pocsag_pages.specs.Reading.{frame_at}

pages_in-cons : (k : Kind) (ks : List Kind) → pages_in (k ∷ ks) ≡ cond (is_address k) 1 0 + pages_in ks
pages_in-cons k ks = sum_by-cons (λ (k : Kind). cond (is_address k) 1 0) k ks

-- what stands first behind so many, and what behind it
pub first_of : {X : Type 0} (xs ys : List X) (y d : X) (k : ℕ) → drop k xs ≡ y ∷ ys → (get_or xs k d ≡ y) × (drop (k + 1) xs ≡ ys)
first_of [] ys y d zero e = absurd (cc)
first_of [] ys y d (suc k) e = absurd (cc)
first_of (x ∷ xs) ys y d zero e = (cc, cc)
first_of (x ∷ xs) ys y d (suc k) e =
    let n : suc k + 1 ≡ suc (k + 1) = omega arith in
    let h = first_of xs ys y d k e in
    (h.0, ap (λ (m : ℕ). drop m (x ∷ xs)) n ∙ h.1)

module _ (number_of : ℕ → ℕ) (numbers : List ℕ) where
  abbrev number : Page → ℕ
  number p = number_of p.address

  pub letters_are : (ks : List Kind) (i pages last : ℕ) (in_page : Bool) → map number (pages_from i ks) ≡ drop pages numbers
      → HasNoOrphan in_page ks → (IsTrue in_page → last ≡ slice_index numbers (pages - 1)) → (j : ℕ) → j < length ks
      → get_or (letters_with number_of i last ks) j 0 ≡ letter_after numbers (pages + pages_in (take j ks)) (get_or ks j Idle)
  letters_are [] i pages last in_page e none h j within = absurd (omega arith)
  letters_are (Idle ∷ ks) i pages last in_page e none h zero within = refl
  letters_are (Address high function ∷ ks) i pages last in_page e none h zero within =
      let here = first_of numbers (map number (pages_from (i + 1) ks)) (number_of (8 * high + frame_at i)) 0 pages (sym e) in
      ap capital (sym here.0 ∙ ap (slice_index numbers) (omega arith))
  letters_are (Message bits ∷ ks) i pages last in_page e none h zero within = ap small (h none.0 ∙ ap (slice_index numbers) (omega arith))
  letters_are (Idle ∷ ks) i pages last in_page e none h (suc j) within =
      let n : pages + pages_in (take j ks) ≡ pages + pages_in (Idle ∷ take j ks) = omega (arith, pages_in-cons Idle (take j ks)) in
      letters_are ks (i + 1) pages last false e none (λ t. absurd (cc)) j (omega arith)
      ∙ ap (λ (n : ℕ). letter_after numbers n (get_or ks j Idle)) n
  letters_are (Address high function ∷ ks) i pages last in_page e none h (suc j) within =
      let here = first_of numbers (map number (pages_from (i + 1) ks)) (number_of (8 * high + frame_at i)) 0 pages (sym e) in
      let n : pages + 1 + pages_in (take j ks) ≡ pages + pages_in (Address high function ∷ take j ks) =
      omega (arith, pages_in-cons (Address high function) (take j ks)) in
      letters_are ks (i + 1) (pages + 1) (number_of (8 * high + frame_at i)) true (sym here.1) none
      (λ t. sym here.0 ∙ ap (slice_index numbers) (omega arith)) j (omega arith)
      ∙ ap (λ (n : ℕ). letter_after numbers n (get_or ks j Idle)) n
  letters_are (Message bits ∷ ks) i pages last in_page e none h (suc j) within =
      let n : pages + pages_in (take j ks) ≡ pages + pages_in (Message bits ∷ take j ks) =
      omega (arith, pages_in-cons (Message bits) (take j ks)) in
      letters_are ks (i + 1) pages last true e none.1 (λ t. h none.0) j (omega arith)
      ∙ ap (λ (n : ℕ). letter_after numbers n (get_or ks j Idle)) n

  pub length-letters_with : (ks : List Kind) (i last : ℕ) → length (letters_with number_of i last ks) ≡ length ks
  length-letters_with [] i last = refl
  length-letters_with (Idle ∷ ks) i last = ap suc (length-letters_with ks (i + 1) last)
  length-letters_with (Address high function ∷ ks) i last = ap suc (length-letters_with ks (i + 1) (number_of (8 * high + frame_at i)))
  length-letters_with (Message bits ∷ ks) i last = ap suc (length-letters_with ks (i + 1) last)

  pub letters_at : (ks : List Kind) → map number (pages_from 0 ks) ≡ numbers → HasNoOrphan false ks → (i : ℕ) → i < length ks
      → slice_index (letters_with number_of 0 0 ks) i ≡ letter_at numbers ks i
  unfolding letter_at
  letters_at ks e none i within =
      letters_are ks 0 0 0 false e none (λ t. absurd (cc)) i within ∙ ap (λ (n : ℕ). letter_after numbers n (get_or ks i Idle)) (omega arith)

-- one letter more
pub letter_more : (number_of : ℕ → ℕ) (index after last number letter : ℕ) (k : Kind) (ks left : List Kind) → left ≡ k ∷ ks
    → after ≡ index + 1 → letter ∷ letters_with number_of (index + 1) number ks ≡ letters_with number_of index last (k ∷ ks)
    → letter ∷ letters_with number_of after number ks ≡ letters_with number_of index last left
letter_more number_of index after last number letter k ks left first next same =
    ap (λ (i : ℕ). letter ∷ letters_with number_of i number ks) next ∙ (same ∙ sym (ap (letters_with number_of index last) first))
