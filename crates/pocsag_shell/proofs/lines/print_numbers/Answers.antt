use Rattle.pocsag_shell.proofs.Prelude.{◌++◌, ◌∙◌, ◌+◌, drop, drop_of_length-le, map, ap, sym, arith, drop_more, numbered_text}
use Rattle.pocsag_shell.proofs.Printed.{kept_on, kept_took, part_lost, rest_put}
use Rattle.pocsag_shell.proofs.lines.print_numbers.Goals as goal

pub returns-in_err-keep_text-clause-delivers : goal.returns-in_err-keep_text-clause-delivers
returns-in_err-keep_text-clause-delivers g c = λ is_known.
    let i = c.loop-pair.pair-index in
    let last = c.args.last.now in
    let due = numbered_text (map (λ pair. (pair.0.now, pair.1)) c.args.numbers.now) last in
    let taken = g.S.Sink.taken c.loop-pair.sink in
    let kept = c.loop-pair.line.bytes in
    let more = ap (λ pairs. taken ++ (kept ++ numbered_text (map (λ pair. (pair.0.now, pair.1)) pairs) last)) (drop_more c.args.numbers.now i _ c.loop-pair-test.true) in
    part_lost c.from_residual.result _ _ due c.from_residual.ensures.0
    (kept_took (g.S.Sink.taken c.args.sink.now) due taken kept _ _ (g.S.Sink.taken c.keep_text.new.sink) (c.loop-pair.invariant.1 is_known)
    (sym more ∙ c.loop-pair.invariant.0 is_known) (c.in_err-keep_text.ensures.part is_known))

pub returns-in_err-keep_text-2-clause-delivers : goal.returns-in_err-keep_text-2-clause-delivers
returns-in_err-keep_text-2-clause-delivers g c = λ is_known.
    let i = c.loop-pair.pair-index in
    let last = c.args.last.now in
    let due = numbered_text (map (λ pair. (pair.0.now, pair.1)) c.args.numbers.now) last in
    let taken = g.S.Sink.taken c.loop-pair.sink in
    let kept = c.loop-pair.line.bytes in
    let more = ap (λ pairs. taken ++ (kept ++ numbered_text (map (λ pair. (pair.0.now, pair.1)) pairs) last)) (drop_more c.args.numbers.now i _ c.loop-pair-test.true) in
    let first = kept_on _ taken kept _ _ (g.S.Sink.taken c.keep_text.new.sink) c.keep_text.new.line.bytes (sym more ∙ c.loop-pair.invariant.0 is_known) (c.in_ok-keep_text.ensures.whole is_known) in
    part_lost c.from_residual-in_err-keep_text-2.result _ _ due c.from_residual-in_err-keep_text-2.ensures.0
    (kept_took (g.S.Sink.taken c.args.sink.now) due (g.S.Sink.taken c.keep_text.new.sink) c.keep_text.new.line.bytes c.format.result.now
    (numbered_text (map (λ pair. (pair.0.now, pair.1)) (drop (i + 1) c.args.numbers.now)) last) (g.S.Sink.taken c.keep_text-in-loop-pair.new.sink)
    (omega (arith, c.loop-pair.invariant.1 is_known, c.in_ok-keep_text.ensures.more is_known)) (rw (sym c.format.ensures.text) at first)
    (c.in_err-keep_text-2.ensures.part is_known))

pub loop-pair-preserved : goal.loop-pair-preserved
loop-pair-preserved g c =
    let i = c.loop-pair.pair-index in
    let last = c.args.last.now in
    let due = g.S.Sink.taken c.args.sink.now ++ numbered_text (map (λ pair. (pair.0.now, pair.1)) c.args.numbers.now) last in
    let taken = g.S.Sink.taken c.loop-pair.sink in
    let kept = c.loop-pair.line.bytes in
    let more = ap (λ pairs. taken ++ (kept ++ numbered_text (map (λ pair. (pair.0.now, pair.1)) pairs) last)) (drop_more c.args.numbers.now i _ c.loop-pair-test.true) in
    let rest = numbered_text (map (λ pair. (pair.0.now, pair.1)) (drop (i + 1) c.args.numbers.now)) last in (
      λ is_known.
          let first = kept_on due taken kept _ _ (g.S.Sink.taken c.keep_text.new.sink) c.keep_text.new.line.bytes (sym more ∙ c.loop-pair.invariant.0 is_known) (c.in_ok-keep_text.ensures.whole is_known) in
          kept_on due (g.S.Sink.taken c.keep_text.new.sink) c.keep_text.new.line.bytes c.format.result.now rest _ _ (rw (sym c.format.ensures.text) at first) (c.in_ok-keep_text-2.ensures.whole is_known),
      λ is_known. omega (arith, c.loop-pair.invariant.1 is_known, c.in_ok-keep_text.ensures.more is_known, c.in_ok-keep_text-2.ensures.more is_known),
      c.in_ok-keep_text-2.ensures.failures.0 ∙ c.in_ok-keep_text.ensures.failures.0 ∙ c.loop-pair.invariant.2,
    )

pub returns-clause-delivers : goal.returns-clause-delivers
returns-clause-delivers g c = λ is_known.
    let none = drop_of_length-le c.args.numbers.now {i = c.loop-pair.pair-index} (omega arith) in
    let end = ap (λ pairs. g.S.Sink.taken c.loop-pair.sink ++ (c.loop-pair.line.bytes ++ numbered_text (map (λ pair. (pair.0.now, pair.1)) pairs) c.args.last.now)) none in
    rest_put c.put_whole.result (g.S.Sink.taken c.args.sink.now) _ (g.S.Sink.taken c.keep_text-2.new.sink) c.keep_text-2.new.line.bytes (g.S.Sink.taken c.put_whole.new.sink)
    (omega (arith, c.loop-pair.invariant.1 is_known, c.in_ok-keep_text-3.ensures.more is_known))
    (c.in_ok-keep_text-3.ensures.whole is_known ∙ (sym end ∙ c.loop-pair.invariant.0 is_known))
    (rw (c.as_bytes.ensures.value, c.as_str.ensures.value) at c.put_whole.ensures.delivers is_known)
