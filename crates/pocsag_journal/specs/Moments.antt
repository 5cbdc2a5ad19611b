-- What a crash leaves of bytes that are kept, now and at each moment since an earlier one (this project's own).
use Rattle.std.specs.Prelude.{◌≡◌, ◌⊎◌, ℕ, ◌≤◌, List}

-- A crash leaves these bytes and nothing else.
abbrev pub IsSafe : List ℕ → (may_leave : List ℕ → Type 0) → Type 0
IsSafe bytes may_leave = (left : List ℕ) → may_leave left → left ≡ bytes

-- Time goes on: what a crash since a moment might have left, it might have left before or may leave now; and what it might
-- have left, it still might.
pub record Elapses (before now : ℕ) (past since : ℕ → List ℕ → Type 0) (may_leave : List ℕ → Type 0) : Type 0 where
  pub later : before ≤ now
  pub nothing_else : (t : ℕ) (left : List ℕ) → t ≤ before → since t left → past t left ⊎ may_leave left
  pub keeps : (t : ℕ) (left : List ℕ) → t ≤ before → past t left → since t left

-- *At any moment*: a crash at any moment from `old` to `new` leaves bytes of which this is so.
pub record LeavesOnly {D : Type 0} (moment : D → ℕ) (left_since : D → ℕ → List ℕ → Type 0) (old new : D) (Holds : List ℕ → Type 0) : Type 0 where
  pub later : moment old ≤ moment new
  pub each : (left : List ℕ) → left_since new (moment old) left → Holds left
  -- for what began earlier
  pub before : (t : ℕ) (left : List ℕ) → t ≤ moment old → left_since new t left → left_since old t left ⊎ Holds left
