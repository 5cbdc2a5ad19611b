-- The record of a page behind a page file.
use Rattle.pocsag_c.proofs.Prelude.{◌≡◌, ◌∙◌, ℕ, List, [], ◌∷◌, ◌++◌, All, Ok, ap, All-push, verdict, IsRound, Page, IsSpellable, page_file, page_record}
use Rattle.std.proofs.lemmas.List.{flat_map_more}
use Rattle.csv.specs.Writing.{default_writer, row_text}
use Rattle.pocsag_decode.specs.Listing.{header}

module _ (p : Page) (text : List ℕ) (written : text ≡ row_text default_writer (page_record p)) where
  behind : (ps : List Page) → page_file ps ++ text ≡ page_file (ps ++ p ∷ [])
  unfolding page_file
  behind ps =
      ap (λ (t : List ℕ). page_file ps ++ t) written
      ∙ flat_map_more (λ (q : Page). row_text default_writer (page_record q)) (row_text default_writer header) ps p

  pub read_behind : IsSpellable p → ((R : List Page) → IsRound R → All IsSpellable R → verdict (page_file R) ≡ Ok R) →
      (R : List Page) → IsRound (R ++ p ∷ []) → All IsSpellable R → verdict (page_file R ++ text) ≡ Ok (R ++ p ∷ [])
  read_behind spellable read_back R round each =
      ap verdict (behind R) ∙ read_back (R ++ p ∷ []) round (All-push IsSpellable R p each spellable)
