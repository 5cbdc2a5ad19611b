-- Codewords that in order say what the steps of a tour lay out.
use Rattle.pocsag_slots.proofs.Prelude.{◌≡◌, ℕ, ◌/◌, ◌^◌, ◌<◌, false, List, [], ◌∷◌, ◌++◌, map, ap, ◌∙◌, All, arith, refl, nat_tests, All-cons, All-head, All-nil, All-tail, IsCodeword, kind_of, Kind, End, Page, IsGoodPage, IsRound, IsLegalList, page_words, Classes, Step, first_of, without_first, laid, AreClassesOf, IsTour, All-permutation, address_kind, Idle, Address, Message, is_reserved, good_pages}
use Rattle.pocsag_slots.specs.declared.step.Step.TheVariants.{Idle as Stay, Run}
use Rattle.pocsag_slots.specs.Meanings.{IsSayable}
use Rattle.pocsag_slots.proofs.Fewest.{laid_list_legal}
use Rattle.pocsag_slots.proofs.LaidSteps.{IsServed, served_left, served_tour, some_left}
use Rattle.pocsag_slots.proofs.FirstOfClass.{taken}
use Rattle.pocsag_words.proofs.KindLemmas.{address_has_codeword, message_has_codeword}

-- each address with a function, and each message, has a codeword
pub record HaveCodewords : Type 0 where
  pub address : (high function : ℕ) → high < 2 ^ 18 → function < 4 → (w : ℕ) × IsCodeword w × (kind_of w ≡ address_kind high function)
  pub message : (bits : ℕ) → bits < 2 ^ 20 → (w : ℕ) × IsCodeword w × (kind_of w ≡ Message bits)

pub none_sayable : IsSayable []
none_sayable = ([], record { codewords = All-nil IsCodeword; kinds = refl })

more_sayable : (k : Kind) (said : List Kind) (w : ℕ) → IsCodeword w → kind_of w ≡ k → IsSayable said → IsSayable (k ∷ said)
more_sayable k said w is kind (ws, say) = (
  w ∷ ws,
  record {
    codewords =
        All-cons IsCodeword w ws is say.codewords;
    kinds = ap (λ (j : Kind). j ∷ map kind_of ws) kind
        ∙ ap (λ (v : List Kind). k ∷ v) say.kinds;
  },
)

pub items_sayable : HaveCodewords → (items : List ℕ) (said : List Kind) → All (λ item. item < 2 ^ 20) items → IsSayable said →
    IsSayable (map Message items ++ said)
items_sayable have [] said small rest = rest
items_sayable have (i ∷ items) said small rest =
    let found = have.message i (small 0 0 (omega arith)) in
    more_sayable (Message i) (map Message items ++ said) found.0 found.1 found.2
    (items_sayable have items said (All-tail (λ (item : ℕ). item < 2 ^ 20) i items small) rest)

pub idle_sayable : HaveCodewords → (said : List Kind) → IsSayable said → IsSayable (Idle ∷ said)
idle_sayable have said rest =
    let found = have.address 250958 0 (omega arith) (omega arith) in
    more_sayable Idle said found.0 found.1 found.2 rest

-- an address that is not reserved never makes the idle codeword
pub kind_unreserved : (a f : ℕ) → a < 2 ^ 21 → f < 4 → is_reserved a ≡ false → address_kind (a / 8) f ≡ Address (a / 8) f
unfolding is_reserved
kind_unreserved a f small function free = grind (arith, nat_tests)

pub page_sayable : HaveCodewords → (p : Page) (said : List Kind) → IsGoodPage p → IsSayable said → IsSayable (page_words p ++ said)
page_sayable have p said good rest =
    let high : p.address / 8 < 2 ^ 18 = omega (arith, good.address) in
    let found = have.address (p.address / 8) p.function high good.function in
    let kind : kind_of found.0 ≡ Address (p.address / 8) p.function =
    found.2 ∙ kind_unreserved p.address p.function good.address good.function good.unreserved in
    more_sayable (Address (p.address / 8) p.function) (map Message p.payload ++ said) found.0 found.1 kind
    (items_sayable have p.payload said good.small rest)

laid_sayable : HaveCodewords → (end : End) (R : List Page) (steps : List Step) → All IsGoodPage R → IsServed end R steps →
    IsSayable (laid end R steps)
laid_sayable have end R [] good s = none_sayable
laid_sayable have end R (Stay ∷ ss) good s = idle_sayable have (laid end R ss) (laid_sayable have end R ss good (record { each = s.each }))
laid_sayable have end R (Run c e ∷ ss) good s =
    let p = first_of end c R in
    let left = without_first end c R in
    let t = taken end c R (some_left end R c e ss s) in
    let both : All IsGoodPage (p ∷ left) = All-permutation IsGoodPage R (p ∷ left) t.moved good in
    page_sayable have p (laid end left ss) (All-head IsGoodPage p left both)
    (laid_sayable have end left ss (All-tail IsGoodPage p left both) (served_left end R c e ss p left s t))

pub tour_said : HaveCodewords → (k : Classes) (end : End) (choice : ℕ → ℕ) (b : ℕ) (steps : List Step) (R : List Page) → 0 < b → IsRound R →
    AreClassesOf k end R → IsTour k end choice b steps → (U : List ℕ) × (map kind_of U ≡ laid end R steps) × IsLegalList end U b R
tour_said have k end choice b steps R some round classes tour =
    let said : IsSayable (laid end R steps) =
    laid_sayable have end R steps (good_pages R round.good) (served_tour k end choice b steps R classes tour) in
    (said.0, said.1.kinds, laid_list_legal k end choice b steps R said.0 some classes tour said.1.codewords said.1.kinds)

pub tour_worded : (k : Classes) (end : End) (choice : ℕ → ℕ) (b : ℕ) (steps : List Step) (R : List Page) → 0 < b → IsRound R →
    AreClassesOf k end R → IsTour k end choice b steps → (U : List ℕ) × (map kind_of U ≡ laid end R steps) × IsLegalList end U b R
tour_worded = tour_said (record { address = address_has_codeword; message = message_has_codeword })
