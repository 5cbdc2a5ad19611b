-- What keeps the edits of an open round promises (this project's own).
use Rattle.std.specs.Prelude.{◌≡◌, ◌⊎◌, ℕ, ◌+◌, ◌<◌, List, length}
use Rattle.pocsag_words.specs.Devices.{HasFailed}
use Rattle.pocsag_pages.specs.declared.page.Page.{Page}
use Rattle.pocsag_shell.specs.declared.fault.FileFault.{FileFault}
use Rattle.pocsag_shell.specs.declared.fault.FileFault.TheVariants as file
use Rattle.pocsag_journal.specs.LineTexts.{IsWholeLine}

-- The bytes are read as one of two lists of pages: those before an edit, or those after it.
abbrev pub ReadsAsEither : (reads_as : List ℕ → List Page → Type 0) → (before after : List Page) → List ℕ → Type 0
ReadsAsEither reads_as before after bytes = reads_as bytes before ⊎ reads_as bytes after

-- Why an edit is not kept: memory was wanting; or what keeps it failed, between these two counts of failures; or its text
-- does not fit behind what was taken, and nothing of it was; or it is no line.
abbrev pub ExplainsKeeping : (most : ℕ) (taken later text : List ℕ) (failures_before failures_after : ℕ) → FileFault → Type 0
ExplainsKeeping most taken later text before after file.OutOfMemory = Unit {0}
ExplainsKeeping most taken later text before after file.Write =
    HasFailed before after ⊎ ((later ≡ taken) × (most < length taken + length text)) ⊎ (¬ IsWholeLine text)
ExplainsKeeping most taken later text before after _ = ⊥
