-- Which boundaries are named of a cut (this project's own).
use Rattle.std.specs.Prelude.{ℕ, ◌-◌, ◌==◌, ◌&&◌, nat_lt, not, if◌then◌else◌, List, [], codes}
use Rattle.pocsag_slots.specs.Sums.{sum_over}

-- The boundaries that are named of a cut: those of its set, or the others where these are fewer and there are any.
abbrev pub named_side : (set : ℕ) → ℕ
named_side set = if nat_lt 8 (sum_over set (λ _. 1)) && not (set == 65535) then 65535 - set else set

-- What stands behind them: that they are the smaller side of the cut, where they are not its set.
abbrev pub side_note : (set : ℕ) → List ℕ
side_note set = if named_side set == set then [] else codes ", the smaller side of the cut"
