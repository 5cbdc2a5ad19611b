use Rattle.pocsag_branch.proofs.Prelude.{arith, slice_index, refl, ◌≡◌, true, false, count_few, at_one, at_count}
use Rattle.pocsag_branch.proofs.OpenWays.{splits_outside}
use Rattle.pocsag_branch.proofs.fixed_kinds.split_point.Goals as goal

pub returns-then-has_run_outside-clause-kind : goal.returns-then-has_run_outside-clause-kind
returns-then-has_run_outside-clause-kind c =
    splits_outside c.args.node.now.classes.now c.args.node.now.task.batches c.args.node.now.limits
    (slice_index c.args.choice.now.early) c.args.node.now.within c.requires.admitted
    c.args.set.members c.loop-class.class 1 c.requires.uncertain (at_one (c.if-has_run_outside.ensures.0 refl) refl)

pub overflow_cast-result-then-has_run_outside-2 : goal.overflow_cast-result-then-has_run_outside-2
overflow_cast-result-then-has_run_outside-2 c = omega (arith, count_few c.args.node.now.classes.now c.loop-class.class c.loop-class-test.true)

pub returns-then-has_run_outside-2-clause-kind : goal.returns-then-has_run_outside-2-clause-kind
returns-then-has_run_outside-2-clause-kind c =
    splits_outside c.args.node.now.classes.now c.args.node.now.task.batches c.args.node.now.limits
    (slice_index c.args.choice.now.early) c.args.node.now.within c.requires.admitted
    c.args.set.members c.loop-class.class (slice_index c.args.node.now.classes.now.count c.loop-class.class) c.requires.uncertain
    (at_count (λ h. let held : c.has_run_outside.result ≡ true = c.has_run_outside.ensures.1 h in
    let lost : c.has_run_outside.result ≡ false = c.if-has_run_outside.false in absurd (cc))
    (c.if-has_run_outside-2.ensures.0 refl) refl)
