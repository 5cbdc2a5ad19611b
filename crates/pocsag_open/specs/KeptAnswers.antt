-- What an answer to an edit stands on, where the edits of an open round are kept (this project's own).
use Rattle.std.specs.Prelude.{◌≡◌, ◌⊎◌, ℕ, List, ◌++◌, length}
use Rattle.csv.specs.Writing.{default_writer, row_text}
use Rattle.pocsag_pages.specs.PageFile.{Row}
use Rattle.pocsag_pages.specs.declared.page.Page.{Page}
use Rattle.pocsag_journal.specs.Moments.{IsSafe}
use Rattle.pocsag_journal.specs.Runs.{IsEdit}
use Rattle.pocsag_shell.specs.declared.fault.FileFault.{FileFault}
use Rattle.pocsag_shell.specs.declared.fault.FileFault.TheVariants as file
use Rattle.pocsag_open.specs.Answers.{pages_answer}

-- The edit of the record was accepted, and it is kept: the text of its record was taken, no more, and no crash takes away
-- any of what was taken.
pub record IsKept (row : Row) (before after : List Page) (taken_before taken_after : List ℕ) (may_leave : List ℕ → Type 0) : Type 0 where
  pub edit : IsEdit row before after
  pub text : taken_after ≡ taken_before ++ row_text default_writer row
  pub for_good : IsSafe taken_after may_leave

-- Nothing was changed and nothing taken.
pub record IsUntouched (before after : List Page) (taken_before taken_after : List ℕ) : Type 0 where
  pub pages : after ≡ before
  pub taken : taken_after ≡ taken_before

-- What is so once an edit is answered: it was accepted and is kept, and is answered by the number of pages; or nothing
-- was touched.
abbrev pub IsAnswered : (row : Row) → (before after : List Page) → (taken_before taken_after : List ℕ) → (may_leave : List ℕ → Type 0) → (out_before out_after : List ℕ) → Type 0
IsAnswered row before after taken_before taken_after may_leave out_before out_after =
    (IsKept row before after taken_before taken_after may_leave × (out_after ≡ out_before ++ pages_answer (length after)))
    ⊎ IsUntouched before after taken_before taken_after

-- Where the answer was lost: nothing was answered, or the edit is kept, or nothing was touched.
abbrev pub IsLost : (row : Row) → (before after : List Page) → (taken_before taken_after : List ℕ) → (may_leave : List ℕ → Type 0) → (out_before out_after : List ℕ) → Type 0
IsLost row before after taken_before taken_after may_leave out_before out_after =
    (out_after ≡ out_before) ⊎ IsKept row before after taken_before taken_after may_leave ⊎ IsUntouched before after taken_before taken_after

-- Why an edit is not answered: the output failed; or the edit was made, and it is not kept for this reason.
abbrev pub ExplainsUnanswered : (output_failed edit : Type 0) → (keeping : FileFault → Type 0) → FileFault → Type 0
ExplainsUnanswered output_failed edit keeping file.Write = output_failed ⊎ (edit × keeping file.Write)
ExplainsUnanswered output_failed edit keeping f = edit × keeping f
