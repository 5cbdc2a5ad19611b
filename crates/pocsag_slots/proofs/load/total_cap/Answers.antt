use Rattle.pocsag_slots.proofs.Prelude.{ℕ, true, false, cond, refl, arith, sym, ◌≡◌, slice_index, holds, sum_over}
use Rattle.pocsag_slots.proofs.SumLemmas.{sum_below_none, summed}
use Rattle.pocsag_slots.proofs.load.total_cap.Goals as goal
use Rattle.pocsag_slots.proofs.load.total_cap.Goals.{then-holds, else-holds}

pub loop-slot-init : goal.loop-slot-init
loop-slot-init c = (sym (sum_below_none _), omega arith)

pub loop-slot-preserved : goal.loop-slot-preserved
loop-slot-preserved c =
    let f : ℕ → ℕ = λ s. cond (holds c.args.set s) (slice_index c.args.limits.now.cap s) 0 in
    elim c.if-holds.branch [
      | then-holds w ↦
          let held : holds c.args.set c.loop-slot.slot ≡ true = cc in
          (rw w.total-is (summed f _ _ _ c.loop-slot.invariant.0 (rw held w.from-total.ensures)), omega arith)
      | else-holds w ↦
          let apart : holds c.args.set c.loop-slot.slot ≡ false = cc in
          (omega (arith, summed f _ _ 0 c.loop-slot.invariant.0 (rw apart refl)), omega arith)
    ]

pub returns : goal.returns
unfolding sum_over
returns c =
    let all : c.loop-slot.slot ≡ 16 = omega arith in
    rw all at c.loop-slot.invariant.0
