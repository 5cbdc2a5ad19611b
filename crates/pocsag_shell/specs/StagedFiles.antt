-- The files that a run makes beside a place (this project's own).
use Rattle.std.specs.Prelude.{◌≡◌, ℕ, ◌^◌, ◌<◌, List, ◌++◌, codes}
use Rattle.std.specs.Fmt.{decimal}

-- The name that the process of a number gives to a file which it makes beside a place: `NAME.NUMBER` and an ending, `.new`, or
-- `.old` for what stood there before.
pub record IsStagedName (name : List ℕ) (number : ℕ) (ending file : List ℕ) : Type 0 where
  pub some : 0 < number
  pub small : number < 2 ^ 32
  pub named : file ≡ name ++ (codes "." ++ (decimal number ++ ending))

-- The name of the lock of a place: `PLACE.pocsag.lock`.
pub record IsLockName (file : List ℕ) : Type 0 where
  pub place : List ℕ
  pub named : file ≡ place ++ codes ".pocsag.lock"

-- *Made*: the name that the process of a number gives to a file which it makes beside any place, `PLACE.pocsag.NUMBER.new`.
pub record IsMadeName (number : ℕ) (file : List ℕ) : Type 0 where
  pub place : List ℕ
  pub named : IsStagedName (place ++ codes ".pocsag") number (codes ".new") file
