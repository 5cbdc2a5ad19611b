-- What a planner is asked for where nothing is named.
use Rattle.std.specs.Prelude.{ℕ}

-- The node limit of a search for which no other is named (this project's own).
abbrev pub default_limit : ℕ
default_limit = 100000
