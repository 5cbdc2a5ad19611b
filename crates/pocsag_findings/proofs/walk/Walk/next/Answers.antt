use Rattle.pocsag_findings.proofs.Prelude.{sym, ◌∙◌, ◌+◌, arith, Some, All-pop, Level, IsSound}
use Rattle.pocsag_findings.proofs.Levels.{all_pushed, child_taken, level_passed}
use Rattle.pocsag_findings.proofs.walk.Walk.next.Goals as goal

pub invariant_of-self : goal.invariant_of-self
invariant_of-self c =
    let P : Level → Type 0 = IsSound c.loop-level.self.context in
    let popped = All-pop P _ _ (Some c.in-Some.level) c.in-Some.ensures.items c.loop-level.self.sound in
    record {
      sound =
          rw c.push.ensures.items (all_pushed P _ _ (record c.in-Some.level { next = c.in-Some.level.next + 1 }) popped.0
          (record { ordered = popped.1.ordered; above = popped.1.above; allowed = popped.1.allowed }));
    }

pub enter-requires-clause-above : goal.enter-requires-clause-above
enter-requires-clause-above c =
    let P : Level → Type 0 = IsSound c.loop-level.self.context in
    let popped = All-pop P _ _ (Some c.in-Some.level) c.in-Some.ensures.items c.loop-level.self.sound in
    rw c.position-place.ensures.above popped.1.above

pub returns-then-level-len : goal.returns-then-level-len
returns-then-level-len c =
    sym c.loop-level.invariant
    ∙ child_taken c.loop-level.self.context.classes.now c.loop-level.self.context.end c.loop-level.self.context.batches
    c.loop-level.self.context.depth _ _ _ c.in-Some.level c.index.result.now _ c.in-Some.ensures.items c.in_ok-push.ensures.items
    (omega arith) c.index.ensures (rw c.position-place.ensures.place at c.in_ok-enter.ensures)

pub loop-level-preserved : goal.loop-level-preserved
loop-level-preserved c =
    level_passed c.loop-level.self.context.classes.now c.loop-level.self.context.end c.loop-level.self.context.batches
    c.loop-level.self.context.depth _ _ c.in-Some.level c.in-Some.ensures.items (omega arith) ∙ c.loop-level.invariant
