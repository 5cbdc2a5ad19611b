use Rattle.pocsag_capture.proofs.Prelude.{sym, ap, ◌∙◌, arith, as_sent, capture_bits}
use Rattle.pocsag_capture.proofs.Extracts.{word_cut, word_there}
use Rattle.pocsag_capture.proofs.Windows.{bits_long}
use Rattle.pocsag_capture.proofs.received_words.sent_at.Goals as goal

pub returns-then-bit-capture : goal.returns-then-bit-capture
returns-then-bit-capture c = sym (word_cut (capture_bits c.args.capture.now) c.args.polarity c.args.bit (omega (arith, bits_long c.args.capture.now)))

pub returns : goal.returns
returns c =
    c.sent.ensures ∙ ap (as_sent c.args.polarity) c.word_on.ensures
    ∙ sym (word_there (capture_bits c.args.capture.now) c.args.polarity c.args.bit (omega (arith, bits_long c.args.capture.now)))
