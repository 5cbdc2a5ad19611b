use Rattle.pocsag_branch.proofs.Prelude.{slice_index}
use Rattle.pocsag_branch.proofs.OpenWays.{ways_fall}
use Rattle.pocsag_branch.proofs.fixed_kinds.kind_at.Goals as goal

pub returns-in-Some-clause-kind : goal.returns-in-Some-clause-kind
returns-in-Some-clause-kind c = (
  c.in-Some.ensures.certain,
  ways_fall c.args.node.now.classes.now c.args.node.now.task.batches c.args.node.now.limits
      (slice_index c.args.choice.now.early) c.args.node.now.within c.requires.admitted
      c.args.set.members c.requires.apart c.args.node.now.task.some,
)
