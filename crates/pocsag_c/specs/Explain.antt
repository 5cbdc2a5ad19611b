-- What `pocsag_explain` promises.
use Rattle.std.specs.Prelude.{◌≡◌, ◌≢◌, ℕ, Bool, List}
use Rattle.pocsag_findings.specs.Beginnings.{GivesVerdict}
use Rattle.pocsag_findings.specs.declared.format.Format.{Format}
use Rattle.pocsag_findings.specs.declared.format.Format.TheVariants as formats
use Rattle.pocsag_c.specs.Answers.{IsSoOfEnd}
use Rattle.pocsag_c.specs.declared.check.CheckInfo.{CheckInfo}

-- The number of no form: 0 is an indented list in words, 1 is JSON.
abbrev pub IsNoForm : ℕ → Type 0
IsNoForm form = (form ≢ 0) × (form ≢ 1)

-- There is no verdict, though the form is one.
abbrev pub IsWithoutVerdict : (status : ℕ) → Type 0
IsWithoutVerdict status = (status ≢ 0) × (status ≢ 1) × (status ≢ 10) × (status ≢ 11)

-- The form of this number, for nodes no deeper than this.
abbrev pub IsNumberOfForm : (form depth : ℕ) → Format → Type 0
IsNumberOfForm form depth (formats.Lines deepest) = (form ≡ 0) × (deepest ≡ depth)
IsNumberOfForm form depth (formats.Json deepest) = (form ≡ 1) × (deepest ≡ depth)
IsNumberOfForm form depth formats.Drawing = ⊥

-- A text of the form of this number, which begins with the verdict on the end and the batches that are reported.
abbrev pub IsVerdictText : (form depth : ℕ) → CheckInfo → (is_shown : Bool) → (text : List ℕ) → Type 0
IsVerdictText form depth info is_shown text = IsSoOfEnd info.end (λ end.
    (format : Format) × IsNumberOfForm form depth format × GivesVerdict format is_shown end info.batches text)

-- The same with one verdict or the other.
abbrev pub IsTextOfVerdict : (form depth : ℕ) → CheckInfo → (text : List ℕ) → Type 0
IsTextOfVerdict form depth info text = (is_shown : Bool) × IsVerdictText form depth info is_shown text
