use Rattle.pocsag_shell.proofs.Prelude.{length}
use Rattle.pocsag_shell.proofs.placement.+put_rest.Given as goal

abbrev pub decreases-put_rest : goal.decreases-put_rest
decreases-put_rest g l = length l.files.now
