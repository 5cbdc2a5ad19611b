-- What contracts say of readers and writers (this project's own).
use Rattle.std.specs.Prelude.{◌≡◌, ◌⊎◌, ℕ, ◌+◌, ◌-◌, ◌^◌, ◌<◌, ◌≤◌, Bool, true, false, List, ◌++◌, length, take, nat_lt, if◌then◌else◌, Result, OnOk, OnErr}

-- One call more, in a count that stays at its greatest value.
abbrev pub one_more : ℕ → ℕ
one_more n = if nat_lt n (2 ^ 64 - 1) then n + 1 else n

-- A device failed between the two counts of failures: the count rose, or it could not rise.
abbrev pub HasFailed : ℕ → ℕ → Type 0
HasFailed before after = before < 2 ^ 64 - 1 → before < after

-- A fault that reading what may be cut returns: it was not read only if it is cut; where it is cut, it was not read or is too large.
pub record IsOfCut {E : Type 0} (not_read too_large : E) (is_cut : Bool) (e : E) : Type 0 where
  pub cut : e ≡ not_read → is_cut ≡ true
  pub whole : (e ≡ not_read) ⊎ (e ≡ too_large) ⊎ (is_cut ≡ false)

-- There was at most one call for each byte that was due, and so none where none was.
abbrev pub CallsPerByte : (before after : ℕ) → (due : List ℕ) → Type 0
CallsPerByte before after due = after ≤ before + length due

-- What was taken after is what was taken before and a prefix of what was due.
abbrev pub TookPrefix : (before after due : List ℕ) → Type 0
TookPrefix before after due = (length before ≤ length after) × (take (length after) (before ++ due) ≡ after)

-- Where the call answers, no call of the device failed, and its count stands; where it does not, one failed.
abbrev pub CountsFailures : {X E : Type 0} → Result X E → (before after : ℕ) → Type 0
CountsFailures result before after = OnOk result (after ≡ before) × OnErr result (HasFailed before after)

-- Where the call answers, a writer took all that was due; where it does not, a prefix of that.
abbrev pub Delivers : {X E : Type 0} → Result X E → (before after due : List ℕ) → Type 0
Delivers result before after due = OnOk result (after ≡ before ++ due) × OnErr result (TookPrefix before after due)
