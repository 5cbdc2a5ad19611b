-- What `pocsag_write_page` promises.
use Rattle.std.specs.Prelude.{◌≡◌, ◌⊎◌, ℕ, All, ◌==◌, if◌then◌else◌, List, [], ◌∷◌, ◌++◌, Ok, Err, IsOk, codes}
use Rattle.std.specs.Fmt.{decimal}
use Rattle.csv.specs.Writing.{default_writer, row_text}
use Rattle.pocsag_pages.specs.declared.fault.FieldFault.{FieldFault}
use Rattle.pocsag_pages.specs.declared.fault.FieldFault.TheVariants as field
use Rattle.pocsag_pages.specs.declared.page.Page.{Page}
use Rattle.pocsag_pages.specs.Pages.{IsRound}
use Rattle.pocsag_pages.specs.PageFile.{page_of_fields, verdict}
use Rattle.pocsag_decode.specs.PageFiles.{IsSpellable, page_file, page_record}

-- The kind of a number: 0 to 3 for a tone, 4 for numeric, 5 for alpha; no other number has one.
abbrev pub word_of_kind : ℕ → List ℕ
word_of_kind number =
    if number == 0 then codes "tone0"
    else if number == 1 then codes "tone1"
    else if number == 2 then codes "tone2"
    else if number == 3 then codes "tone3"
    else if number == 4 then codes "numeric"
    else if number == 5 then codes "alpha"
    else []

-- The text is the record, in a page file, of the page that the address, the kind and the message spell: behind the page file of
-- a round it makes a page file that is read as the round with this page behind it, where that is a round.
pub record IsRecordOf (address kind : ℕ) (message text : List ℕ) : Type 0 where
  pub page : Page
  pub spelled : page_of_fields (decimal address) (word_of_kind kind) message ≡ Ok page
  pub written : text ≡ row_text default_writer (page_record page)
  pub read_behind : (R : List Page) → IsRound (R ++ page ∷ []) → All IsSpellable R → verdict (page_file R ++ text) ≡ Ok (R ++ page ∷ [])

-- Why there is no record: what is given spells no page, by this fault; or it spells one, and memory is wanting.
abbrev pub ExplainsNoRecord : (address kind : ℕ) → (message : List ℕ) → FieldFault → Type 0
ExplainsNoRecord address kind message f =
    (page_of_fields (decimal address) (word_of_kind kind) message ≡ Err f)
    ⊎ ((f ≡ field.OutOfMemory) × IsOk (page_of_fields (decimal address) (word_of_kind kind) message))
