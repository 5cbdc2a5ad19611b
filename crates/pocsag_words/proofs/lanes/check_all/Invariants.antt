use Rattle.pocsag_words.proofs.Prelude.{◌-◌, ◌≤◌, length, TellFirst}
use Rattle.pocsag_words.proofs.lanes.check_all.Given as goal

abbrev pub invariant-loop-start : goal.invariant-loop-start
invariant-loop-start l = (l.start ≤ length l.numbers) × TellFirst l.start l.numbers l.flags

abbrev pub decreases-loop-start : goal.decreases-loop-start
decreases-loop-start l = length l.numbers - l.start

abbrev pub invariant-loop-i : goal.invariant-loop-i
invariant-loop-i l = TellFirst l.i l.numbers l.flags
