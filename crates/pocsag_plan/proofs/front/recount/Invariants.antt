use Rattle.pocsag_plan.proofs.Prelude.{◌-◌, ◌≤◌, length, take, AreClassesOf}
use Rattle.pocsag_plan.proofs.front.recount.Given as goal

abbrev pub invariant-loop-counted : goal.invariant-loop-counted
invariant-loop-counted l = record { among : l.counted ≤ length l.pages; counted : AreClassesOf l.classes l.end (take l.counted l.pages) }

abbrev pub decreases-loop-counted : goal.decreases-loop-counted
decreases-loop-counted l = l.to - l.counted

abbrev pub invariant-loop-counted-2 : goal.invariant-loop-counted-2
invariant-loop-counted-2 l =
    record { among : l.counted ≤ length l.pages; above : l.to ≤ l.counted; counted : AreClassesOf l.classes l.end (take l.counted l.pages) }

abbrev pub decreases-loop-counted-2 : goal.decreases-loop-counted-2
decreases-loop-counted-2 l = l.counted - l.to
