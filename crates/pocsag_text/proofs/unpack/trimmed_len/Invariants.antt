use Rattle.pocsag_text.proofs.Prelude.{◌≡◌, ◌≤◌, length, take, trim_end}
use Rattle.pocsag_text.proofs.unpack.trimmed_len.Given as goal

abbrev pub invariant-loop-len : goal.invariant-loop-len
invariant-loop-len l =
    (l.len ≤ length l.text) × (trim_end l.unwanted (take l.len l.text) ≡ trim_end l.unwanted l.text)

abbrev pub decreases-loop-len : goal.decreases-loop-len
decreases-loop-len l = l.len
