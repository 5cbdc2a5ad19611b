-- What a walk finds from its place on.
use Rattle.std.specs.Prelude.{List}
use Rattle.pocsag_findings.specs.declared.walk.Walk.{Walk}
use Rattle.pocsag_findings.specs.Views.{Stated}
use Rattle.pocsag_findings.specs.Walks.{levels_left}

-- What is left to be found, in order.
abbrev pub findings_left : Walk → List Stated
findings_left w = levels_left w.context.classes.now w.context.end w.context.batches w.context.depth w.levels.items
