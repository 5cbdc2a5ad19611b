use Rattle.pocsag_slots.proofs.Prelude.{take}
use Rattle.pocsag_slots.proofs.CountLemmas.{AreCounted}
use Rattle.pocsag_slots.proofs.count.classes_of.Given as goal

abbrev pub invariant-loop-page : goal.invariant-loop-page
invariant-loop-page l = AreCounted l.count l.turns l.end (take l.page-index l.page-items)
