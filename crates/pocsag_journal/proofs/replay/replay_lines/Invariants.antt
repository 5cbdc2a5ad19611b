use Rattle.pocsag_journal.proofs.Prelude.{length}
use Rattle.pocsag_journal.proofs.Replays.{Replaying}
use Rattle.pocsag_journal.proofs.replay.replay_lines.Given as goal

-- the lines so far were made
abbrev pub invariant-loop-parts : goal.invariant-loop-parts
invariant-loop-parts l = Replaying l.reader l.bytes l.rest l.edits l.draft

abbrev pub decreases-loop-parts : goal.decreases-loop-parts
decreases-loop-parts l = length l.rest
