-- What `--repair` changes: which bytes `decode` and `show` read.
use Rattle.std.specs.Prelude.{◌≡◌, ℕ, Bool, true, false, List}
use Rattle.pocsag_decode.specs.Repairs.{IsRepairOf}

-- The bytes that are read of a file: its own or, with repair, their repair.
abbrev pub AreReadOf : (file : List ℕ) → (repair : Bool) → (bytes : List ℕ) → Type 0
AreReadOf file false bytes = bytes ≡ file
AreReadOf file true bytes = IsRepairOf file bytes

-- This is so of the bytes that are read of a file.
pub record IsSoOfRead (file : List ℕ) (repair : Bool) (P : List ℕ → Type 0) : Type 0 where
  pub bytes : List ℕ
  pub read : AreReadOf file repair bytes
  pub holds : P bytes
