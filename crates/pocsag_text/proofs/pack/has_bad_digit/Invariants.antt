use Rattle.pocsag_text.proofs.Prelude.{◌≡◌, take, list_any, is_bad_digit}
use Rattle.pocsag_text.proofs.pack.has_bad_digit.Given as goal

abbrev pub invariant-loop-byte : goal.invariant-loop-byte
invariant-loop-byte l = l.has_bad ≡ list_any is_bad_digit (take l.byte-index l.text)
