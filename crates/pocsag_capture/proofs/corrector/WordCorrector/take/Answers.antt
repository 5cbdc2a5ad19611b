use Rattle.pocsag_capture.proofs.Prelude.{ℕ, ◌+◌, None, Some, bit_xor, count_ones, refl, sym, ◌∙◌, ap, arith, WordCorrector}
use Rattle.pocsag_words.proofs.KindLemmas.{IsCodeword-idle}
use Rattle.pocsag_capture.proofs.corrector.WordCorrector.take.Goals as goal

pub returns-in_default : goal.returns-in_default
returns-in_default c = record {
  mended = None;
  is_mended = c.in_default.ensures;
  is_codeword = IsCodeword-idle;
  kind = refl;
  open_after = ap (λ (s : WordCorrector). s.is_open) c.close-ended.ensures.cut;
  ends = c.close-ended.ensures.ended;
  bits = ap (λ (s : WordCorrector). s.corrected) c.close-ended.ensures.cut ∙ omega arith;
  beyond = ap (λ (s : WordCorrector). s.lost) c.close-ended.ensures.cut;
  cuts = ap (λ (s : WordCorrector). s.cut) c.close-ended.ensures.cut;
}

pub returns-then-not-self : goal.returns-then-not-self
returns-then-not-self c = record {
  mended = Some c.in-Some.mended;
  is_mended = c.in-Some.ensures;
  is_codeword = IsCodeword-idle;
  kind = rw (c.if-not-self.true, sym c.in-Message.ensures.kind) refl;
  open_after = rw (c.if-not-self.true, sym c.in-Message.ensures.kind) refl;
  ends = rw (sym c.in-Message.ensures.kind) refl;
  bits = ap (λ (n : ℕ). c.args.self.now.corrected + n)
      (c.from.ensures ∙ ap (λ (n : ℕ). count_ones (bit_xor n c.args.word)) c.raw-codeword.ensures.same);
  beyond = omega arith;
  cuts = omega arith;
}
