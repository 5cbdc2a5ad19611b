use Rattle.pocsag_receiver.proofs.Prelude.{◌≡◌, ◌<◌, ◌∙◌, false, true, Some, length, ap, arith, sym, most_behind}
use Rattle.pocsag_receiver.proofs.CaptureRows.{behind_apart, fewer_behind, left_of, none_handed, one_handed}
use Rattle.pocsag_receiver.proofs.captured.CaptureRowsRowSource.next_row.Goals as goal

pub returns-in_default-next-clause-handed : goal.returns-in_default-next-clause-handed
returns-in_default-next-clause-handed c = λ rs told l.
    let loop = c.loop-begun in
    let is : loop.self.current ≡ Some c.in-Some.begun = sym c.take.ensures.value ∙ c.in-Some.is in
    let left = none_handed c.in-Some.begun (behind_apart loop.self l) c.in_default-next.ensures.handed in
    (rs, loop.invariant.left rs told (left_of is left))

pub loop-begun-preserved-in_default-found : goal.loop-begun-preserved-in_default-found
loop-begun-preserved-in_default-found c =
    let loop = c.loop-begun in
    let is : loop.self.current ≡ Some c.in-Some.begun = sym c.take.ensures.value ∙ c.in-Some.is in
    let within : loop.self.place < length loop.self.found.now = (rw is at loop.invariant.can.begun).1 in
    record {
      can = c.end.ensures.can;
      left = λ rows heard l.
          let behind = behind_apart loop.self (c.end.ensures.over (rw c.in_default-found.is at c.in-Ok.ensures.over) rows heard l) in
          loop.invariant.left rows heard (left_of is (none_handed c.in-Some.begun behind (rw c.in_default-found.is at c.in-Ok.ensures.handed)));
      fewer = omega (arith, fewer_behind loop.self c.end.new.self c.end.ensures.place c.end.ensures.found within c.end.ensures.can, loop.invariant.fewer);
    }

pub returns-then-is_picked-clause-handed : goal.returns-then-is_picked-clause-handed
returns-then-is_picked-clause-handed c = λ rs told l.
    let loop = c.loop-begun in
    let is : loop.self.current ≡ Some c.in-Some.begun = sym c.take.ensures.value ∙ c.in-Some.is in
    loop.invariant.left _ told (left_of is (one_handed c.in-Some.begun (behind_apart loop.self l) c.in-Some-found.captured true
    (sym c.is_picked.ensures ∙ c.if-is_picked.true) (rw c.in-Some-found.is at c.in-Ok.ensures.handed)))

pub loop-begun-preserved : goal.loop-begun-preserved
loop-begun-preserved c =
    let loop = c.loop-begun in
    let is : loop.self.current ≡ Some c.in-Some.begun = sym c.take.ensures.value ∙ c.in-Some.is in
    let can = loop.invariant.can in
    let within : loop.self.place < length loop.self.found.now = (rw is at can.begun).1 in
    let one = rw c.in-Some-found.is at c.in-Ok.ensures.fewer in
    record {
      can = record { few = can.few; ends = can.ends; room = can.room; within = can.within; begun = (c.in-Ok.ensures.can, within) };
      left = λ rows heard l.
          loop.invariant.left rows heard (left_of is (one_handed c.in-Some.begun (behind_apart loop.self l) c.in-Some-found.captured false
          (sym c.is_picked.ensures ∙ c.if-is_picked.false) (rw c.in-Some-found.is at c.in-Ok.ensures.handed)));
      fewer = omega (arith, one, ap most_behind is, loop.invariant.fewer);
    }
