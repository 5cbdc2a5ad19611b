-- What a legal transmission says of its count of batches.
use Rattle.pocsag_slots.proofs.Prelude.{◌≡◌, ℕ, ◌<◌, ◌≤◌, List, All, map, sym, subst, arith, IsCodeword, kind_of, Kind, End, Page, AreApart, IsLegalFor, IsLegalList, Classes, Step, early_in, laid, AreClassesOf, IsChoice, load, IsTour, IsLeast}
use Rattle.pocsag_slots.proofs.LaidSteps.{laid_legal}
use Rattle.pocsag_slots.proofs.ToursOfLists.{toured}

pub early_choice : (k : Classes) (end : End) (T : List Kind) (R : List Page) (b : ℕ) → AreApart R → AreClassesOf k end R →
    IsLegalFor end T b R → IsChoice k (early_in end T)
early_choice k end T R b apart classes legal c h =
    let tour = toured k end T R b apart classes legal in
    omega (arith, tour.late c h)

pub loads_carried : (k : Classes) (end : End) (T : List Kind) (R : List Page) (b : ℕ) → AreApart R → AreClassesOf k end R →
    IsLegalFor end T b R → (slot : ℕ) → slot < 16 → load k (early_in end T) slot ≤ b
loads_carried k end T R b apart classes legal slot h =
    let tour = toured k end T R b apart classes legal in
    omega (arith, tour.idle slot h)

pub fewest : (k : Classes) (end : End) (T : List Kind) (R : List Page) (a b : ℕ) → AreApart R → AreClassesOf k end R → IsLeast k a →
    IsLegalFor end T b R → a ≤ b
fewest k end T R a b apart classes least legal =
    least.least b
    (record {
      choice = early_in end T;
      among = early_choice k end T R b apart classes legal;
      loads = loads_carried k end T R b apart classes legal;
    })

pub laid_list_legal : (k : Classes) (end : End) (choice : ℕ → ℕ) (b : ℕ) (steps : List Step) (R : List Page) (U : List ℕ) → 0 < b →
    AreClassesOf k end R → IsTour k end choice b steps → All IsCodeword U → map kind_of U ≡ laid end R steps → IsLegalList end U b R
laid_list_legal k end choice b steps R U some classes tour words same =
    (words, subst (λ (ks : List Kind). IsLegalFor end ks b R) (sym same) (laid_legal k end choice b steps R some classes tour).0)
