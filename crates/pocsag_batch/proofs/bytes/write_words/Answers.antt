use Rattle.pocsag_batch.proofs.Prelude.{◌∷◌, [], refl, ◌∙◌, arith, IsCodeword, length-append, All-append, All-cons, All-nil}
use Rattle.pocsag_batch.proofs.Sent.{called_first, called_more, sent_first, sent_more}
use Rattle.pocsag_batch.proofs.bytes.write_words.Goals as goal

pub loop-word-init : goal.loop-word-init
loop-word-init g c = (
  rw (c.into_iter-word-iterator.ensures.into_iter_gives) c.requires.can,
  rw (c.into_iter-word-iterator.ensures.into_iter_gives) c.requires.ends,
  sent_first g.S.Sink.is_known (g.S.Sink.taken c.args.sink.now) c.new-piece.result c.new-piece.ensures,
  refl,
  All-nil IsCodeword,
  called_first (g.S.Sink.calls c.args.sink.now) c.new-piece.result c.new-piece.ensures,
  refl,
)

pub loop-word-preserved : goal.loop-word-preserved
loop-word-preserved g c =
    let came = c.loop-word.yielded in
    let goes = c.in-Some.ensures.goes.on c.loop-word.invariant.1 in (
      goes.0,
      goes.1,
      sent_more g.S.Sink.is_known (g.S.Sink.taken c.args.sink.now)
          (g.S.Sink.taken c.loop-word.sink) c.loop-word.piece came c.loop-word.slot c.in-Some.word
          (g.S.Sink.taken c.put_word.new.sink) c.put_word.new.piece c.loop-word.invariant.3 c.loop-word.invariant.2
          (λ t. c.in_ok-put_word.ensures.grown t) (λ t. c.in_ok-put_word.ensures.same t),
      omega (arith, length-append came (c.in-Some.word ∷ [])),
      All-append IsCodeword came (c.in-Some.word ∷ []) c.loop-word.invariant.4
          (All-cons IsCodeword c.in-Some.word [] c.in_ok-put_word.ensures.codeword (All-nil IsCodeword)),
      called_more (g.S.Sink.calls c.args.sink.now) (g.S.Sink.calls c.loop-word.sink) (g.S.Sink.calls c.put_word.new.sink)
          c.loop-word.piece c.put_word.new.piece came c.loop-word.slot c.in-Some.word
          c.loop-word.invariant.3 c.loop-word.invariant.5 c.in_ok-put_word.ensures.calls,
      c.in_ok-put_word.ensures.failures.0 ∙ c.loop-word.invariant.6,
    )
