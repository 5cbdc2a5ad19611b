use Rattle.pocsag_text.proofs.Prelude.{◌++◌, high_first}
use Rattle.pocsag_text.proofs.Unpacks.{IsTaking}
use Rattle.pocsag_text.proofs.unpacker.Unpacker.with.Given as goal

abbrev pub invariant-loop-count : goal.invariant-loop-count
invariant-loop-count g l =
    IsTaking g.row.W l.codes.items l.count l.held (l.fn.self ++ high_first 20 l.item)

abbrev pub decreases-loop-count : goal.decreases-loop-count
decreases-loop-count g l = l.count
