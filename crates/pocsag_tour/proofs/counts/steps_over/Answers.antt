use Rattle.pocsag_tour.proofs.Prelude.{◌≡◌, arith, sym, slice_index, rules, sum_below_more, sum_below_none}
use Rattle.pocsag_tour.proofs.counts.steps_over.Goals as goal

pub loop-arc-init : goal.loop-arc-init
loop-arc-init c = record { sum = sym (sum_below_none (slice_index c.args.counts.now)); few = omega arith }

pub loop-arc-preserved : goal.loop-arc-preserved
loop-arc-preserved c = record {
  sum = omega (arith, c.loop-arc.invariant.sum, sum_below_more c.loop-arc.arc (slice_index c.args.counts.now));
  few = search rules;
}

pub returns : goal.returns
returns c =
    let all : c.loop-arc.arc ≡ 288 = omega arith in
    rw all at c.loop-arc.invariant.sum
