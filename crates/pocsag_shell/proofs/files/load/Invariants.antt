use Rattle.pocsag_shell.proofs.Prelude.{◌-◌, length}
use Rattle.pocsag_shell.proofs.files.load.Given as goal

-- each read takes one byte at least of those that may still be read
abbrev pub decreases-loop-piece : goal.decreases-loop-piece
decreases-loop-piece g l = l.limit - length l.bytes.items
