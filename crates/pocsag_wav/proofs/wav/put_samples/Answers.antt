use Rattle.pocsag_wav.proofs.Prelude.{◌≡◌, ◌*◌, ◌/◌, List, ℕ, ℤ, get_or, ap₂, ◌++◌, ◌∷◌, [], refl, sym, ap, ◌∙◌, rules, arith, cast_signed, cast_unsigned, w16, flat_map, after_fault, took_on, level_at, sample_bytes, samples_of}
use Rattle.pocsag_wav.proofs.Sounds.{level_fits, none_written, pushed, still_to_write, written_more}
use Rattle.pocsag_wav.proofs.wav.put_samples.Goals as goal

pub loop-index-init : goal.loop-index-init
loop-index-init g c = record {
  told = λ is_known. ap (λ (l : List ℕ). g.O.Sink.taken c.args.out.now ++ l) (c.new-piece.ensures ∙ sym (none_written c.args.keying c.args.keyed.now));
  grown = λ is_known. omega arith;
  failures = refl;
}

pub returns-in_err-write_if_full-clause-delivers : goal.returns-in_err-write_if_full-clause-delivers
returns-in_err-write_if_full-clause-delivers g c = λ is_known.
    let loop = c.loop-index in
    let before = g.O.Sink.taken c.args.out.now in
    let now = g.O.Sink.taken loop.out in (
      search rules,
      after_fault c.from_residual.result
          (took_on before now (g.O.Sink.taken c.write_if_full.new.out) loop.piece.items _ _ (loop.invariant.grown is_known)
          (still_to_write c.args.keying c.args.keyed.now before now loop.piece.items loop.index c.args.count (omega arith) (loop.invariant.told is_known))
          (c.in_err-write_if_full.ensures.part is_known)),
    )

pub loop-index-preserved : goal.loop-index-preserved
loop-index-preserved g c =
    let loop = c.loop-index in
    record {
      told = λ is_known.
          let before = g.O.Sink.taken c.args.out.now in
          let place = loop.index * c.args.keying.rate / c.args.keying.samples in
          let level = level_at c.args.keying.is_inverted c.args.keyed.now place in
          let level_is : c.level.result ≡ level =
          c.level.ensures ∙ ap (level_at c.args.keying.is_inverted c.args.keyed.now)
          (ap₂ (λ (m n : ℕ). m / n) (ap₂ (λ (m n : ℕ). m * n) c.from.ensures c.from-in-loop-index.ensures) c.from-in-loop-index-2.ensures) in
          let same : cast_signed w16 (cast_unsigned w16 c.level.result) ≡ level =
          ap (λ (z : ℤ). cast_signed w16 (cast_unsigned w16 z)) level_is ∙ level_fits c.args.keying.is_inverted _ _ in
          let written : c.to_le_bytes.result ≡ sample_bytes level = c.to_le_bytes.ensures ∙ ap sample_bytes same in
          let behind : c.push-in-loop-index.new.self.items
          ≡ (c.write_if_full.new.piece.items ++ get_or (sample_bytes level) 0 0 ∷ []) ++ get_or (sample_bytes level) 1 0 ∷ [] =
          c.push-in-loop-index.ensures.items
          ∙ ap₂ (λ (l bytes : List ℕ). l ++ get_or bytes 1 0 ∷ [])
          (c.push.ensures.items ∙ ap (λ (bytes : List ℕ). c.write_if_full.new.piece.items ++ get_or bytes 0 0 ∷ []) written) written in
          pushed before (g.O.Sink.taken loop.out) loop.piece.items (g.O.Sink.taken c.write_if_full.new.out) c.write_if_full.new.piece.items
          c.push-in-loop-index.new.self.items (flat_map sample_bytes (samples_of c.args.keying c.args.keyed.now loop.index)) _ _
          (loop.invariant.told is_known) (c.in_ok-write_if_full.ensures.same is_known) behind
          ∙ ap (λ (l : List ℕ). before ++ l) (written_more c.args.keying c.args.keyed.now loop.index);
      grown = λ is_known. omega (arith, loop.invariant.grown is_known, c.in_ok-write_if_full.ensures.grown is_known);
      failures = c.in_ok-write_if_full.ensures.failures.0 ∙ loop.invariant.failures;
    }
