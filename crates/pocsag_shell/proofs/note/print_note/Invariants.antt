use Rattle.pocsag_shell.proofs.Prelude.{◌≡◌, ◌++◌, take, map, plain}
use Rattle.std.proofs.Common.{codes}
use Rattle.pocsag_shell.proofs.note.print_note.Given as goal

-- the line is its front and the bytes so far
abbrev pub invariant-loop-byte : goal.invariant-loop-byte
invariant-loop-byte g l = l.line.items ≡ codes "pocsag: " ++ map plain (take l.byte-index l.text)
