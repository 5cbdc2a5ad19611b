use Rattle.pocsag_centre.proofs.Prelude.{◌≡◌, ℕ, ◌-◌, take, drop, length, sym, ap, ◌∙◌, arith, lt-ltb, ltb-true, length-drop, take_all, bytes_eq-Decides}
use Rattle.pocsag_centre.proofs.Endings.{idle_bytes, idle_end, last_four, whole_end}
use Rattle.pocsag_centre.proofs.readback.ends_as.Goals as goal

pub returns-then-bytes-ge4 : goal.returns-then-bytes-ge4
returns-then-bytes-ge4 c = λ codewords sent.
    let ends = whole_end c.args.bytes.now codewords sent in
    rw c.in-Closed.is (λ low. ends.0 (ltb-true _ 128 low), λ whole. lt-ltb _ 128 (ends.1 whole))

pub returns-in-Idle : goal.returns-in-Idle
returns-in-Idle c = λ codewords sent.
    let bytes = c.args.bytes.now in
    let from : ℕ = c.saturating_sub-from.result in
    let all : take (length bytes - from) (drop from bytes) ≡ drop from bytes =
    take_all (length bytes - from) (drop from bytes) (omega (arith, length-drop from bytes)) in
    let last : drop from bytes ≡ last_four bytes = ap (λ (n : ℕ). drop n bytes) c.saturating_sub-from.ensures in
    rw c.in-Idle.is (
      λ yes.
          let four : take (length bytes - from) (drop from bytes) ≡ idle_bytes =
          (bytes_eq-Decides _ _).0 (sym c.eq.ensures ∙ yes) ∙ c.as_slice.ensures in
          (idle_end bytes codewords sent).0 (sym last ∙ sym all ∙ four),
      λ idle.
          c.eq.ensures ∙ (bytes_eq-Decides _ _).1 (all ∙ last ∙ (idle_end bytes codewords sent).1 idle ∙ sym c.as_slice.ensures),
    )
