use Rattle.pocsag_decode.proofs.Prelude.{◌≡◌, length, map, take, from_be_bytes, w32}
use Rattle.pocsag_decode.proofs.judge.words_in.Given as goal

abbrev pub invariant-loop-i : goal.invariant-loop-i
invariant-loop-i l = (length l.numbers ≡ 17) × (take l.i l.numbers ≡ map (from_be_bytes w32) (take l.i l.words))
