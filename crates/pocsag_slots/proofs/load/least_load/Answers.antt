use Rattle.pocsag_slots.proofs.Prelude.{arith, sym, ◌≡◌}
use Rattle.pocsag_slots.proofs.LeastLemmas.{least_few, least_is}
use Rattle.pocsag_slots.proofs.SumLemmas.{sum_below_none, summed}
use Rattle.pocsag_slots.proofs.load.least_load.Goals as goal

pub loop-number-init : goal.loop-number-init
loop-number-init c = (sym (sum_below_none _), omega arith)

pub loop-number-preserved : goal.loop-number-preserved
loop-number-preserved c = (
  summed _ _ _ _ c.loop-number.invariant.0 c.class_least-least.ensures.value,
  omega (arith, c.loop-number.invariant.1, c.class_least-least.ensures.bound),
)

least : goal.returns-clause-least
least c =
    let all : c.loop-number.number ≡ 136 = omega arith in
    rw (c.loop-number.invariant.0, all) (least_is c.args.classes.now c.args.limits.now c.args.set c.requires)

pub returns-clause-least : goal.returns-clause-least
returns-clause-least c = least c

pub returns-clause-bound : goal.returns-clause-bound
returns-clause-bound c =
    least_few c.args.classes.now c.args.limits.now c.args.set c.loop-number.least c.requires (least c)
