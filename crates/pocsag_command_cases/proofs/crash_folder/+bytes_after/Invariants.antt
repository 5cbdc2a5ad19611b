use Rattle.pocsag_command_cases.proofs.Prelude.{length}
use Rattle.pocsag_command_cases.proofs.crash_folder.+bytes_after.Given as goal

abbrev pub decreases-bytes_after : goal.decreases-bytes_after
decreases-bytes_after l = length l.changes.now
