use Rattle.pocsag_slots.proofs.Prelude.{arith, sym, true, false, ◌+◌, ◌≡◌, ◌%◌, holds}
use Rattle.pocsag_slots.proofs.LeastLemmas.{members_more, members_none}
use Rattle.pocsag_slots.proofs.load.members_covered.Goals as goal
use Rattle.pocsag_slots.proofs.load.members_covered.Goals.{then-holds, else-holds}

pub loop-place-init : goal.loop-place-init
loop-place-init c = (sym (members_none c.args.set c.args.first), omega arith)

pub loop-place-preserved : goal.loop-place-preserved
loop-place-preserved c =
    let more = members_more c.args.set c.args.first c.loop-place.place in
    elim c.if-holds.branch [
      | then-holds w ↦
          let held : holds c.args.set ((c.args.first + c.loop-place.place) % 16) ≡ true = cc in
          let next = rw held at more in
          (omega (arith, c.loop-place.invariant.0), omega (arith, c.loop-place.invariant.1))
      | else-holds w ↦
          let held : holds c.args.set ((c.args.first + c.loop-place.place) % 16) ≡ false = cc in
          let next = rw held at more in
          (omega (arith, c.loop-place.invariant.0), omega (arith, c.loop-place.invariant.1))
    ]
