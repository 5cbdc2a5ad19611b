use Rattle.pocsag_shell.proofs.Prelude.{length}
use Rattle.pocsag_shell.proofs.placement.+remove_kept.Given as goal

abbrev pub decreases-remove_kept : goal.decreases-remove_kept
decreases-remove_kept g l = length l.files.now
