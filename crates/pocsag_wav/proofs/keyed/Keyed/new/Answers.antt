use Rattle.pocsag_wav.proofs.Prelude.{◌≡◌, ℕ, ◌/◌, List, ◌++◌, replicate, drop, Option, None, Some, refl, sym, ap, ◌∙◌, keyed_bytes}
use Rattle.pocsag_words.specs.Frame.{preamble_byte}
use Rattle.pocsag_pages.specs.Bytes.{after_preamble, leading}
use Rattle.pocsag_decode.proofs.Preambles.{parts}
use Rattle.pocsag_wav.proofs.keyed.Keyed.new.Goals as goal
use Rattle.pocsag_wav.proofs.keyed.Keyed.new.Goals.{in-Some, in-None}

-- the preamble that is asked for, and the batches
led : (asked : Option ℕ) (bits count : ℕ) (bytes batches : List ℕ) → asked ≡ Some bits → count ≡ bits / 8 → batches ≡ after_preamble bytes →
    replicate count preamble_byte ++ batches ≡ keyed_bytes asked bytes
led asked bits count bytes batches some is rest = rw (some, is, rest) refl

-- the transmission's own
whole : (asked : Option ℕ) (count : ℕ) (bytes batches : List ℕ) → asked ≡ None → count ≡ leading bytes → batches ≡ after_preamble bytes →
    replicate count preamble_byte ++ batches ≡ keyed_bytes asked bytes
whole asked count bytes batches none is rest = rw (none, is, rest) (sym (parts bytes).whole)

pub returns : goal.returns
returns c =
    let bytes = c.args.bytes.now in
    let rest : c.split_at.result.1.now ≡ after_preamble bytes =
    c.split_at.ensures.back ∙ ap (λ (n : ℕ). drop n bytes) c.preamble_len-own.ensures.value in
    elim c.match-preamble.branch [
      | in-Some w ↦ led c.args.preamble w.in-Some.bits c.match-preamble.preamble bytes c.split_at.result.1.now w.in-Some.is w.preamble-is rest
      | in-None w ↦ whole c.args.preamble c.match-preamble.preamble bytes c.split_at.result.1.now w.in-None.is (w.preamble-is ∙ c.preamble_len-own.ensures.value) rest
    ]
