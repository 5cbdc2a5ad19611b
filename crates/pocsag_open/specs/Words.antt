-- In what words a line of an open round is refused (this project's own).
use Rattle.std.specs.Prelude.{ℕ, List, ◌++◌, codes}
use Rattle.std.specs.Fmt.{decimal}
use Rattle.pocsag_pages.specs.declared.fault.FieldFault.{FieldFault}
use Rattle.pocsag_pages.specs.declared.fault.FieldFault.TheVariants as field
use Rattle.pocsag_pages.specs.declared.fault.PageFault.TheVariants as page
use Rattle.pocsag_plan.specs.declared.refusal.AddFault.{AddFault}
use Rattle.pocsag_plan.specs.declared.refusal.AddFault.TheVariants as adding
use Rattle.pocsag_shell.specs.declared.fault.FileFault.{FileFault}
use Rattle.pocsag_shell.specs.declared.fault.FileFault.TheVariants as file
use Rattle.pocsag_journal.specs.declared.refusal.Refusal.{Refusal}
use Rattle.pocsag_journal.specs.declared.refusal.Refusal.TheVariants as refusal
use Rattle.pocsag_journal.specs.declared.refusal.UndoneFault.{UndoneFault}
use Rattle.pocsag_journal.specs.declared.refusal.UndoneFault.TheVariants as undone

-- The words for fields that spell no page.
abbrev pub field_words : FieldFault → List ℕ
field_words field.BadAddress = codes "bad address"
field_words field.ReservedAddress = codes "reserved address"
field_words field.BadKind = codes "unknown kind"
field_words field.MessageForTone = codes "a tone page has no message"
field_words field.EmptyMessage = codes "the message is empty"
field_words (field.BadCharacter place) = codes "bad character at " ++ decimal place
field_words field.TooLong = codes "the message is too long"
field_words field.OutOfMemory = codes "out of memory"

-- Those for a page that may stand in no round, or may not follow the others.
abbrev pub adding_words : AddFault → List ℕ
adding_words (adding.Page page.BadAddress) = codes "bad address"
adding_words (adding.Page page.ReservedAddress) = codes "reserved address"
adding_words (adding.Page page.BadPayload) = codes "bad payload"
adding_words adding.DuplicateAddress = codes "the address is already there"
adding_words adding.Full = codes "too many pages"
adding_words adding.OutOfMemory = codes "out of memory"

-- Those for a file.
abbrev pub file_words : FileFault → List ℕ
file_words file.EqualPaths = codes "the same file is named twice"
file_words file.Device = codes "cannot read or open a file"
file_words file.Write = codes "cannot write"
file_words file.Owner = codes "the new file cannot be given the owner, group and mode of the old one"
file_words file.TooLarge = codes "the file is too large"
file_words file.OutOfMemory = codes "out of memory"

-- Those for what a line asks for beside an edit.
abbrev pub undone_words : UndoneFault → List ℕ
undone_words (undone.File f) = file_words f
undone_words undone.NoPages = codes "there are no pages"
undone_words (undone.SearchLimit least found) =
    codes "search limit reached: at least " ++ (decimal least ++ (codes " batches, " ++ (decimal found ++ codes " would do")))
undone_words (undone.FirstPage needed) = codes "page 1 needs " ++ (decimal needed ++ codes " batches")
undone_words undone.OutOfMemory = codes "out of memory"

-- *Words of a refusal*.
abbrev pub refusal_words : Refusal → List ℕ
refusal_words refusal.Unknown = codes "unknown edit"
refusal_words refusal.InQuotes = codes "the line ends inside quotes"
refusal_words refusal.StrayQuote = codes "a quote is out of place"
refusal_words (refusal.Field f) = field_words f
refusal_words (refusal.Add f) = adding_words f
refusal_words (refusal.Cancel absent) = codes "no such page"
refusal_words (refusal.Undone f) = undone_words f

-- The words hold a number.
abbrev pub HaveNumber : Refusal → Type 0
HaveNumber (refusal.Field (field.BadCharacter place)) = Unit {0}
HaveNumber (refusal.Undone (undone.SearchLimit least found)) = Unit {0}
HaveNumber (refusal.Undone (undone.FirstPage needed)) = Unit {0}
HaveNumber _ = ⊥
