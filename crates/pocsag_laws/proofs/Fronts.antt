-- The first pages of a list need no more batches than more of them.
use Rattle.pocsag_laws.proofs.Prelude.{◌≡◌, ℕ, ◌≤◌, List, [], ◌∷◌, ◌++◌, take, drop, get_or, sym, ap, subst, ◌∙◌, ◌≢◌, arith, length-append, append_snoc, append-nil, get_or_append_left, take-append-drop, take-take, End, Page, AreApart, IsLegalList}
use Rattle.pocsag_laws.proofs.PagesTakenOut.{page_taken_out}

apart_front : (R S : List Page) → AreApart (R ++ S) → AreApart R
apart_front R S apart = λ j k d below within.
    subst (λ (p : Page). p.address ≢ (get_or R k d).address) (get_or_append_left R S d j (omega arith))
    (subst (λ (p : Page). (get_or (R ++ S) j d).address ≢ p.address) (get_or_append_left R S d k within)
    (apart j k d below (omega (arith, length-append R S))))

-- the last page of a list, taken out again and again
front_alone : (end : End) (T : List ℕ) (b : ℕ) (S R : List Page) → AreApart (R ++ S) → IsLegalList end T b (R ++ S) →
    (U : List ℕ) × IsLegalList end U b R
front_alone end T b [] R apart legal = (T, subst (IsLegalList end T b) (append-nil R) legal)
front_alone end T b (s ∷ S) R apart legal =
    let whole : R ++ s ∷ S ≡ (R ++ s ∷ []) ++ S = sym (append_snoc R s S) in
    let apart_still : AreApart ((R ++ s ∷ []) ++ S) = subst AreApart whole apart in
    let more = front_alone end T b S (R ++ s ∷ []) apart_still (subst (IsLegalList end T b) whole legal) in
    let less = page_taken_out end more.0 b R [] s (apart_front (R ++ s ∷ []) S apart_still) more.1 in
    (less.0, subst (IsLegalList end less.0 b) (append-nil R) less.1)

fewer_first : (R : List Page) (j k : ℕ) → j ≤ k → take k R ≡ take j R ++ drop j (take k R)
fewer_first R j k h = sym (take-append-drop j (take k R)) ∙ ap (λ v. v ++ drop j (take k R)) (take-take j k R h)

pub front_of_front : (end : End) (T : List ℕ) (b : ℕ) (R : List Page) (j k : ℕ) → AreApart R → j ≤ k → IsLegalList end T b (take k R) →
    (U : List ℕ) × IsLegalList end U b (take j R)
front_of_front end T b R j k apart h legal =
    let first : AreApart (take k R) = apart_front (take k R) (drop k R) (subst AreApart (sym (take-append-drop k R)) apart) in
    let parts : take k R ≡ take j R ++ drop j (take k R) = fewer_first R j k h in
    front_alone end T b (drop j (take k R)) (take j R) (subst AreApart parts first) (subst (IsLegalList end T b) parts legal)
