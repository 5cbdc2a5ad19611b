use Rattle.pocsag_text.proofs.Prelude.{◌≡◌, take, list_any, is_bad_byte}
use Rattle.pocsag_text.proofs.pack.has_bad_byte.Given as goal

abbrev pub invariant-loop-byte : goal.invariant-loop-byte
invariant-loop-byte l = l.has_bad ≡ list_any is_bad_byte (take l.byte-index l.text)
