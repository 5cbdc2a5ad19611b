-- Codewords that in order say what a layout says.
use Rattle.pocsag_batch.proofs.Prelude.{◌≡◌, ℕ, ◌^◌, ◌<◌, List, [], ◌∷◌, ◌++◌, length, map, subst, All, Kind, Page, IsGoodPage, Step, HavePlaces, laid_by, page_at, Message, HaveCodewords, idle_sayable, items_sayable, none_sayable, page_sayable}
use Rattle.pocsag_slots.specs.Meanings.{IsSayable}
use Rattle.pocsag_slots.specs.declared.step.Step.TheVariants.{Idle as Stay, Run}

laid_sayable : HaveCodewords → (R : List Page) (order : List ℕ) (steps : List Step) → All IsGoodPage R → HavePlaces (length R) order steps →
    IsSayable (laid_by R order steps)
laid_sayable have R order [] good places = none_sayable
laid_sayable have R order (Stay ∷ ss) good places =
    idle_sayable have (laid_by R order ss) (laid_sayable have R order ss good places)
laid_sayable have R [] (Run c e ∷ ss) good places = none_sayable
laid_sayable have R (k ∷ order) (Run c e ∷ ss) good places =
    page_sayable have (page_at R k) (laid_by R order ss) (good k (record { address = 0; function = 0; payload = [] }) places.0)
    (laid_sayable have R order ss good places.1)

pub left_sayable : HaveCodewords → (R : List Page) (order items : List ℕ) (steps : List Step) (said : List Kind) →
    map Message items ++ laid_by R order steps ≡ said → All IsGoodPage R → All (λ item. item < 2 ^ 20) items
    → HavePlaces (length R) order steps → IsSayable said
left_sayable have R order items steps said view good small places =
    subst IsSayable view (items_sayable have items (laid_by R order steps) small (laid_sayable have R order steps good places))
