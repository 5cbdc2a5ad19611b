use Rattle.pocsag_slots.proofs.Prelude.{arith, sym, true, false, ◌≡◌, cond, holds, sum_over}
use Rattle.pocsag_slots.proofs.SumLemmas.{sum_below_more, sum_below_none}
use Rattle.pocsag_slots.proofs.set.size.Goals as goal
use Rattle.pocsag_slots.proofs.set.size.Goals.{then-holds, else-holds}

pub loop-member-init : goal.loop-member-init
loop-member-init c = (sym (sum_below_none _), omega arith)

pub loop-member-preserved : goal.loop-member-preserved
loop-member-preserved c =
    let more = sum_below_more c.loop-member.member (λ i. cond (holds c.args.set i) 1 0) in
    elim c.if-holds.branch [
      | then-holds w ↦
          let held : holds c.args.set c.loop-member.member ≡ true = cc in
          let next = rw held at more in
          (omega (arith, c.loop-member.invariant.0), omega (arith, c.loop-member.invariant.1))
      | else-holds w ↦
          let held : holds c.args.set c.loop-member.member ≡ false = cc in
          let next = rw held at more in
          (omega (arith, c.loop-member.invariant.0), omega (arith, c.loop-member.invariant.1))
    ]

pub returns-clause-members : goal.returns-clause-members
unfolding sum_over
returns-clause-members c =
    let all : c.loop-member.member ≡ 16 = omega arith in
    rw all at c.loop-member.invariant.0
