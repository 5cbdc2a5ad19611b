-- A writer of csv over bytes in memory.
use Rattle.std.specs.Prelude.{◌≡◌, ℕ, List, ◌++◌, false, Vec, Result, OnOk}
use Rattle.std.specs.Global.{Global}
use Rattle.csv.specs.declared.writer.Writer.{Writer}
use Rattle.csv.specs.Writing.{writer_under, writer_pending, writer_setup, fields_written, has_written, default_writer, row_text}

-- What was written.
abbrev pub text_in : Writer (Vec ℕ Global) → List ℕ
text_in w = (writer_under w).items ++ writer_pending w

-- It writes as csv does by default, and stands before a record.
pub record IsReady (w : Writer (Vec ℕ Global)) : Type 0 where
  pub fields : fields_written w ≡ 0
  pub clean : has_written w ≡ false
  pub setup : writer_setup w ≡ default_writer

-- Where the call answers, one record more was written, and the writer stands before the next.
abbrev pub PutsRow : {T E : Type 0} → Result T E → (before after : Writer (Vec ℕ Global)) → List (List ℕ) → Type 0
PutsRow result before after fields =
    OnOk result (IsReady after) × OnOk result (text_in after ≡ text_in before ++ row_text default_writer fields)
