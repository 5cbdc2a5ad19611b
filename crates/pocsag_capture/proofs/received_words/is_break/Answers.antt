use Rattle.pocsag_capture.proofs.Prelude.{◌≡◌, ◌+◌, ◌*◌, sym, ap, subst, ◌∙◌, arith, HasNoneNear, capture_bits, sent_at}
use Rattle.pocsag_capture.proofs.Counting.{not_false}
use Rattle.pocsag_capture.proofs.received_words.is_break.Goals as goal

pub returns : goal.returns
returns c =
    let bits = capture_bits c.args.capture.now in
    let next : c.args.run.bit + 32 * c.args.place + 32 ≡ c.args.run.bit + 32 * (c.args.place + 1) = omega arith in
    let same : c.sent_at-2.result ≡ sent_at bits c.args.run.polarity (c.args.run.bit + 32 * (c.args.place + 1)) =
    c.sent_at-2.ensures ∙ ap (sent_at bits c.args.run.polarity) next in (
      λ is. record {
        last = c.requires.last;
        two = omega arith;
        here = subst HasNoneNear c.sent_at.ensures (c.is_lost.ensures.0 (not_false c.is_lost.result (cc)));
        next = subst HasNoneNear same (c.is_lost-2.ensures.0 is);
      },
      λ broken. c.is_lost-2.ensures.1 (subst HasNoneNear (sym same) broken.next),
    )
