use Rattle.pocsag_slots.proofs.Prelude.{◌≡◌, ◌∙◌, arith, load, sym, slice_index, ends_at, starts_at}
use Rattle.pocsag_slots.proofs.SumLemmas.{sum_below_none}
use Rattle.pocsag_slots.proofs.edge.edges_of.Goals as goal
use Rattle.pocsag_slots.proofs.EdgeLemmas.{sixteen_zeros}

pub loop-number-init : goal.loop-number-init
loop-number-init c = record {
  starts = λ p h. sixteen_zeros p h ∙ sym (sum_below_none (starts_at c.args.classes.now (slice_index c.args.choice.now.early) p));
  ends = λ p h. sixteen_zeros p h ∙ sym (sum_below_none (ends_at c.args.classes.now (slice_index c.args.choice.now.early) p));
  first = sym (sum_below_none _);
}

whole : goal.returns-clause-first
unfolding load
whole c =
    let all : c.loop-number.number ≡ 136 = omega arith in
    rw all at c.loop-number.invariant.first

pub returns-clause-first : goal.returns-clause-first
returns-clause-first c = whole c
