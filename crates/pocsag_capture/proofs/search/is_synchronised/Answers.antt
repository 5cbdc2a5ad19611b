use Rattle.pocsag_capture.proofs.Prelude.{ℕ, ◌≡◌, ◌≤◌, bit_xor, count_ones, sym, ap, subst, ◌∙◌, arith, le-leb, sync_word, as_sent, capture_bits, word_on, leb-true}
use Rattle.pocsag_capture.proofs.Windows.{bits_long}
use Rattle.pocsag_capture.proofs.search.is_synchronised.Goals as goal

pub returns-then-bit-capture : goal.returns-then-bit-capture
returns-then-bit-capture c = (λ is. absurd (cc is), λ there. absurd (omega (arith, there.within, bits_long c.args.capture.now)))

pub returns : goal.returns
returns c =
    let same : c.sent.result ≡ as_sent c.args.polarity (word_on (capture_bits c.args.capture.now) c.args.bit) =
    c.sent.ensures ∙ ap (as_sent c.args.polarity) c.word_on.ensures in (
      λ is. record {
        within = omega (arith, bits_long c.args.capture.now);
        near = subst (λ (n : ℕ). count_ones (bit_xor sync_word n) ≤ 2) same (leb-true _ _ is);
      },
      λ there. le-leb _ _ (subst (λ (n : ℕ). count_ones (bit_xor sync_word n) ≤ 2) (sym same) there.near),
    )
