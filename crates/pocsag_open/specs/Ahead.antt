-- What contracts see of a reader of lines.
use Rattle.std.specs.Prelude.{ℕ, List, drop, take}
use Rattle.pocsag_open.specs.declared.lines.Lines.{Lines}

-- What it has read ahead of the lines.
abbrev pub ahead_of : Lines → List ℕ
ahead_of lines = drop lines.start (take lines.end lines.piece)
