use Rattle.pocsag_words.proofs.Prelude.{◌+◌, TellFirst}
use Rattle.pocsag_words.proofs.lanes.mark_block.Given as goal

abbrev pub invariant-loop-i : goal.invariant-loop-i
invariant-loop-i l = TellFirst (l.start + l.i) l.numbers l.flags
