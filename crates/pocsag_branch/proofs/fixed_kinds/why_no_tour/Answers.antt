use Rattle.pocsag_branch.proofs.Prelude.{slice_index, arith, at_start}
use Rattle.pocsag_branch.proofs.OpenWays.{closing_fall}
use Rattle.pocsag_branch.proofs.fixed_kinds.why_no_tour.Goals as goal

pub returns-in-Err-Unclosed-clause-no_tour : goal.returns-in-Err-Unclosed-clause-no_tour
returns-in-Err-Unclosed-clause-no_tour c =
    let refused = rw c.in-Err-Unclosed.field-0-is at c.in-Err-Unclosed.ensures.refused in (
      refused.0,
      refused.1,
      closing_fall c.args.node.now.classes.now c.args.node.now.task.batches c.args.node.now.limits
          (slice_index c.args.choice.now.early) c.args.node.now.within c.requires
          c.args.node.now.task.end refused.1 c.args.node.now.task.some,
    )

pub invariant_of-result : goal.invariant_of-result
invariant_of-result c =
    let refused = rw c.in-Err-Apart.field-0-is at c.in-Err-Apart.ensures.refused in
    record { zero = rw c.in-Err-Apart.field-0-is ((refused.exact 0 (omega arith)).1 at_start) }
