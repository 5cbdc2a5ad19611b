-- The marks of the pages of a round, as the pages that were sent are compared.
use Rattle.pocsag_centre.proofs.Prelude.{◌≡◌, ◌≢◌, ℕ, ◌+◌, ◌<◌, ◌≤◌, ◌==◌, ◌&&◌, Bool, true, false, not, eq-eqb, tests, List, [], ◌∷◌, ◌++◌, length, get_or, replicate, refl, sym, ap, ◌∙◌, subst, inl, inr, arith, Some, None, Contains, All-nil, IsPermutation, nat_cmp, ordering_index, IsNonDecreasingBy, bytes_eq-Decides, cases_Bool, cases_eq, cases_lt, append-nil, append_assoc, get_or_default, length-append, Contains-permutation, ◌↔◌, Page, AreApart}
use Rattle.std.specs.Prelude.{Option, IsTrue, MatchOption}
use Rattle.std.proofs.Common.{set}
use Rattle.std.specs.Cmp.Lexicographic.{pointwise}
use Rattle.std.specs.List.{IsAnyAnswer}
use Rattle.std.specs.declared.cmp.Ordering.TheVariants.{Less, Equal, Greater}
use Rattle.std.proofs.lemmas.List.{get_or-replicate, get_or-set_other, get_or-set_same, length-replicate, length-set}
use Rattle.std.proofs.lemmas.List.Elements.{All-push, Contains-append_left, Contains-push, Contains-push_cases}
use Rattle.std.proofs.lemmas.List.Sorted.{All-permutation}
use Rattle.pocsag_decode.specs.PageReaders.{pages_left}
use Rattle.pocsag_decode.specs.declared.page_reader.PageReader.{PageReader}
use Rattle.pocsag_centre.specs.SentMarks.{AreSentMarks, ArePlacesOf, HasAddress, HoldPlaces, IsPlaceIn}
use Rattle.pocsag_centre.specs.Verification.{AreAmong}
use Rattle.pocsag_centre.specs.declared.sent_marks.AddressPlace.{AddressPlace}

-- no place of no pages
pub no_places : (R : List Page) → HoldPlaces R 0 []
no_places R = record { each = All-nil (IsPlaceIn R); all = λ k d low. absurd (omega arith) }

-- the place of one more page
pub one_more_place : (R : List Page) (i : ℕ) (p : Page) (places : List AddressPlace) (it : AddressPlace) → i < length R → p ≡ get_or R i p →
    it.place ≡ i → it.address ≡ p.address → HoldPlaces R i places → HoldPlaces R (i + 1) (places ++ it ∷ [])
one_more_place R i p places it within here at_i of_p so_far =
    let same : (d : Page) → (get_or R i d).address ≡ it.address =
    λ d. ap (λ (q : Page). q.address) (get_or_default R i d p within ∙ sym here) ∙ sym of_p in
    record {
      each = All-push (IsPlaceIn R) places it so_far.each
          (record { within = omega (arith, at_i); same = λ d. ap (λ (n : ℕ). (get_or R n d).address) at_i ∙ same d });
      all = λ k d low. elim (cases_lt k i) [
        | inl before ↦
            let earlier = so_far.all k d before in
            record { one = earlier.one; there = Contains-append_left places (it ∷ []) earlier.one earlier.there; same = earlier.same }
        | inr after ↦
            let last : k ≡ i = omega arith in
            record {
              one = it;
              there = Contains-push places it;
              same = sym (ap (λ (n : ℕ). (get_or R n d).address) last ∙ same d);
            }
      ];
    }

-- places that were sorted are the same places
pub moved_places : (R : List Page) (n : ℕ) (places sorted : List AddressPlace) → IsPermutation places sorted → HoldPlaces R n places →
    HoldPlaces R n sorted
moved_places R n places sorted moved hold = record {
  each = All-permutation (IsPlaceIn R) places sorted moved hold.each;
  all = λ k d low.
      let found = hold.all k d low in
      record { one = found.one; there = Contains-permutation places sorted found.one moved found.there; same = found.same };
}

-- where the addresses rise, so does how they compare with one of them
comparing : (a b x : ℕ) → a ≤ b → ordering_index (nat_cmp a x) ≤ ordering_index (nat_cmp b x)
comparing a b x le = grind (arith, tests)

equal_to_itself : (x : ℕ) → nat_cmp x x ≡ Equal
equal_to_itself x = grind (arith, tests)

pub rising : (places : List AddressPlace) (x : ℕ) → IsNonDecreasingBy (λ it. it.address) places →
    IsNonDecreasingBy (λ it. ordering_index (nat_cmp it.address x)) places
rising places x order = λ i j d low high. comparing (get_or places i d).address (get_or places j d).address x (order i j d low high)

-- an address that is in none of two parts is of no page of the round
pub not_there : (R : List Page) (places : List AddressPlace) (p : Page) (i : ℕ) → ArePlacesOf R places →
    ((k : ℕ) (d : AddressPlace) → 0 ≤ k → k < i → nat_cmp (get_or places k d).address p.address ≡ Less) →
    ((k : ℕ) (d : AddressPlace) → i ≤ k → k < length places → nat_cmp (get_or places k d).address p.address ≡ Greater) → ¬ Contains R p
not_there R places p i are below above there =
    let x : ℕ = p.address in
    let has : HasAddress places x = subst (λ (q : Page). HasAddress places q.address) there.2 (are.hold.all there.0 p there.1) in
    let k : ℕ = has.there.0 in
    let here : nat_cmp (get_or places k has.one).address x ≡ Equal =
    ap (λ (it : AddressPlace). nat_cmp it.address x) has.there.2 ∙ ap (λ (a : ℕ). nat_cmp a x) has.same ∙ equal_to_itself x in
    elim (cases_lt k i) [
      | inl low ↦ cc (below k has.one (omega arith) low)
      | inr high ↦ cc (above k has.one high has.there.1)
    ]

-- pages that the test of their fields distinguishes differ
told_apart : (q p : Page) (b : Bool) → b ≡ (q.address == p.address && (q.function == p.function && pointwise ◌==◌ q.payload p.payload)) →
    b ≡ false → q ≢ p
told_apart q p b tested apart same =
    let all : b ≡ (p.address == p.address && (p.function == p.function && pointwise ◌==◌ p.payload p.payload)) =
    subst (λ (r : Page). b ≡ (r.address == p.address && (r.function == p.function && pointwise ◌==◌ r.payload p.payload))) same tested in
    let yes : b ≡ true =
    all ∙ (rw (eq-eqb p.address p.address refl, eq-eqb p.function p.function refl, (bytes_eq-Decides p.payload p.payload).1 refl) refl) in
    cc

-- pages of a round with one address stand at one place
one_place : (R : List Page) (j k : ℕ) (d : Page) → AreApart R → j < length R → k < length R →
    (get_or R j d).address ≡ (get_or R k d).address → j ≡ k
one_place R j k d apart within there same = grind (arith, apart j k d, apart k j d)

-- nor is a page there where another stands at the place of its address
pub other_there : (R : List Page) (j : ℕ) (q p : Page) (b : Bool) → AreApart R → j < length R → q ≡ get_or R j q →
    ((d : Page) → (get_or R j d).address ≡ p.address) →
    b ≡ (q.address == p.address && (q.function == p.function && pointwise ◌==◌ q.payload p.payload)) → b ≡ false → ¬ Contains R p
other_there R j q p b apart within here same tested fails there =
    let one : j ≡ there.0 = one_place R j there.0 p apart within there.1 (same p ∙ sym (ap (λ (r : Page). r.address) there.2)) in
    told_apart q p b tested fails
    (here ∙ get_or_default R j q p within ∙ ap (λ (n : ℕ). get_or R n p) one ∙ there.2)

-- no page was sent yet,
no_marks : (R : List Page) → AreSentMarks R [] (replicate (length R) false)
no_marks R = record {
  as_many = length-replicate (length R) false;
  each = λ k d low. (λ yes. cc (get_or-replicate (length R) k false false low), λ there. absurd (omega (arith, there.1)));
}

-- then one that is at this place of the round,
pub marked : (R sent : List Page) (marks : List Bool) (p : Page) (place : ℕ) → AreApart R → place < length R → get_or R place p ≡ p →
    AreSentMarks R sent marks → AreSentMarks R (sent ++ p ∷ []) (set marks place true)
marked R sent marks p place apart within here so_far = record {
  as_many = length-set marks place true ∙ so_far.as_many;
  each = λ k d low. elim (cases_eq k place) [
    | inl e ↦
        let is : p ≡ get_or R k d = sym here ∙ get_or_default R place p d within ∙ ap (λ (n : ℕ). get_or R n d) (sym e) in (
          λ yes. subst (λ (q : Page). Contains (sent ++ p ∷ []) q) is (Contains-push sent p),
          λ there. rw e (get_or-set_same marks place true false (omega (arith, so_far.as_many))),
        )
    | inr other ↦
        let kept = get_or-set_other marks place k true false other in (
          λ yes. Contains-append_left sent (p ∷ []) (get_or R k d) ((so_far.each k d low).0 (sym kept ∙ yes)),
          λ there. elim (Contains-push_cases sent p (get_or R k d) there) [
            | inl before ↦ kept ∙ (so_far.each k d low).1 before
            | inr is ↦
                absurd
                (other
                (one_place R k place d apart low within
                (ap (λ (q : Page). q.address) (sym is ∙ sym here ∙ get_or_default R place p d within))))
          ],
        )
  ];
}

-- or one that is not of the round
pub unmarked : (R sent : List Page) (marks : List Bool) (p : Page) → ¬ Contains R p → AreSentMarks R sent marks → AreSentMarks R (sent ++ p ∷ []) marks
unmarked R sent marks p none so_far = record {
  as_many = so_far.as_many;
  each = λ k d low. (
    λ yes. Contains-append_left sent (p ∷ []) (get_or R k d) ((so_far.each k d low).0 yes),
    λ there. elim (Contains-push_cases sent p (get_or R k d) there) [
      | inl before ↦ (so_far.each k d low).1 before
      | inr is ↦ absurd (none (k, low, get_or_default R k p d low ∙ sym is))
    ],
  );
}

-- with all pages sent, none is missing where no mark is
all_marked : (R sent : List Page) (marks : List Bool) (E : Bool → Bool → Bool) → E false false ≡ true → E true false ≡ false →
    AreSentMarks R sent marks → length sent ≡ length R → (b : Bool) → IsAnyAnswer (λ y t. E y false ≡ t) marks b → IsTrue (not b) ↔ AreAmong sent R
all_marked [] sent marks E same other are long true some = absurd (omega (arith, some.1, are.as_many))
all_marked (p ∷ R) sent marks E same other are long true some = (
  λ yes. cc,
  λ among.
      let k : ℕ = some.0 in
      let low : k < length (p ∷ R) = omega (arith, some.1, are.as_many) in
      let yes : get_or marks k false ≡ true = (are.each k p low).1 (among.each k p low) in
      let no : E (get_or marks k false) false ≡ true = some.2 false in
      cc (ap (λ (m : Bool). E m false) yes),
)
all_marked R sent marks E same other are long false none = (
  λ yes. record {
    as_many = long;
    each = λ k d low.
        let no : E (get_or marks k false) false ≡ false = none k false (omega arith) (omega (arith, are.as_many)) in
        (are.each k d low).0
        (elim (cases_Bool (get_or marks k false)) [
          | inl is ↦ is
          | inr is ↦ cc (ap (λ (m : Bool). E m false) is)
        ]);
  },
  λ among. refl,
)

-- So many of the pages that were sent are compared, and the next one is at hand.
pub record AreCompared (R sent : List Page) (next : Option Page) (reader : PageReader) (count : ℕ) (marks : List Bool) : Type 0 where
  pub before : List Page
  pub left : List Page
  pub parts : sent ≡ before ++ left
  pub many : length before ≡ count
  pub at_hand : MatchOption next (left ≡ []) (λ p. left ≡ p ∷ pages_left reader)
  pub marked : AreSentMarks R before marks

module _ (R sent : List Page) where
  pub none_compared : (first : Page) (reader : PageReader) → sent ≡ first ∷ pages_left reader →
      AreCompared R sent (Some first) reader 0 (replicate (length R) false)
  none_compared first reader is = record { before = []; left = sent; parts = refl; many = refl; at_hand = is; marked = no_marks R }

  pub one_more_compared : (p : Page) (next : Option Page) (reader reader' : PageReader) (n : ℕ) (marks marks' : List Bool) →
      MatchOption next (pages_left reader ≡ []) (λ q. pages_left reader ≡ q ∷ pages_left reader') →
      ((before : List Page) → AreSentMarks R before marks → AreSentMarks R (before ++ p ∷ []) marks') →
      AreCompared R sent (Some p) reader n marks → AreCompared R sent next reader' (n + 1) marks'
  one_more_compared p next reader reader' n marks marks' follows mark so_far = record {
    before = so_far.before ++ p ∷ [];
    left = pages_left reader;
    parts = so_far.parts ∙ ap (λ (left : List Page). so_far.before ++ left) so_far.at_hand
        ∙ sym (append_assoc so_far.before (p ∷ []) (pages_left reader));
    many = omega (arith, length-append so_far.before (p ∷ []), so_far.many);
    at_hand = follows;
    marked = mark so_far.before so_far.marked;
  }

  module _ (reader : PageReader) (n : ℕ) (marks : List Bool) where
    no_more : (done : AreCompared R sent None reader n marks) → sent ≡ done.before
    no_more done = done.parts ∙ ap (λ (left : List Page). done.before ++ left) done.at_hand ∙ append-nil done.before

    pub too_few : AreCompared R sent None reader n marks → n < length R → ¬ AreAmong sent R
    too_few done few among = omega (arith, ap length (no_more done), done.many, among.as_many)

    pub too_many : (p : Page) → AreCompared R sent (Some p) reader n marks → length R ≤ n → ¬ AreAmong sent R
    too_many p done many among =
        omega (arith, ap length done.parts, length-append done.before done.left, ap length done.at_hand, done.many, among.as_many)

    pub all_compared : AreCompared R sent None reader n marks → n ≡ length R →
        (E : Bool → Bool → Bool) → E false false ≡ true → E true false ≡ false → (b : Bool) → IsAnyAnswer (λ y t. E y false ≡ t) marks b →
        IsTrue (not b) ↔ AreAmong sent R
    all_compared done many E same other b answer =
        let all = no_more done in
        all_marked R sent marks E same other (subst (λ (ps : List Page). AreSentMarks R ps marks) (sym all) done.marked)
        (ap length all ∙ done.many ∙ many) b answer
