use Rattle.pocsag_batch.proofs.Prelude.{◌≡◌, ◌++◌, ℕ, List, sym, ap, ◌∙◌, bytes_of, YieldsList-from_slice, YieldsList-from_copied, map-id}
use Rattle.pocsag_batch.proofs.UnderWay.{all_came, called_longer, part_came, took_longer}
use Rattle.pocsag_batch.proofs.bytes.write.Goals as goal

pub returns-in-Ok-clause-delivers : goal.returns-in-Ok-clause-delivers
returns-in-Ok-clause-delivers g c t =
    let done = c.in-Ok.ensures.whole t in
    let gives = YieldsList-from_copied
    (YieldsList-from_slice c.args.batches.now (rw (c.copied.ensures.source) (c.iter.ensures.rest ∙ c.words.ensures.same))) in
    let all : done.0 ≡ c.args.batches.now = sym (map-id done.0) ∙ all_came done.0 gives done.1 in
    (done.3 ∙ ap (λ ws. g.S.Sink.taken c.args.sink.now ++ bytes_of ws) all, tt)

pub returns-in-Err-clause-delivers : goal.returns-in-Err-clause-delivers
returns-in-Err-clause-delivers g c t =
    let done = c.in-Err.ensures.part t in
    let gives = YieldsList-from_copied
    (YieldsList-from_slice c.args.batches.now (rw (c.copied.ensures.source) (c.iter.ensures.rest ∙ c.words.ensures.same))) in
    let part = part_came done.0 done.1 gives done.2 in
    let all : c.args.batches.now ≡ done.0 ++ part.0 = part.1 ∙ ap (λ ws. ws ++ part.0) (map-id done.0) in
    let before : List ℕ = g.S.Sink.taken c.args.sink.now in
    let after : List ℕ = g.S.Sink.taken c.write_words.new.sink in
    (tt, rw all (took_longer before after done.0 part.0 done.4))

pub returns-in-Ok-clause-calls : goal.returns-in-Ok-clause-calls
returns-in-Ok-clause-calls g c =
    let done = c.in-Ok.ensures.calls in
    let gives = YieldsList-from_copied
    (YieldsList-from_slice c.args.batches.now (rw (c.copied.ensures.source) (c.iter.ensures.rest ∙ c.words.ensures.same))) in
    let part = part_came done.0 done.1 gives done.2 in
    let all : c.args.batches.now ≡ done.0 ++ part.0 = part.1 ∙ ap (λ ws. ws ++ part.0) (map-id done.0) in
    let before : ℕ = g.S.Sink.calls c.args.sink.now in
    let after : ℕ = g.S.Sink.calls c.write_words.new.sink in
    rw all (called_longer before after done.0 part.0 done.4)

pub returns-in-Err-clause-calls : goal.returns-in-Err-clause-calls
returns-in-Err-clause-calls g c =
    let done = c.in-Err.ensures.calls in
    let gives = YieldsList-from_copied
    (YieldsList-from_slice c.args.batches.now (rw (c.copied.ensures.source) (c.iter.ensures.rest ∙ c.words.ensures.same))) in
    let part = part_came done.0 done.1 gives done.2 in
    let all : c.args.batches.now ≡ done.0 ++ part.0 = part.1 ∙ ap (λ ws. ws ++ part.0) (map-id done.0) in
    let before : ℕ = g.S.Sink.calls c.args.sink.now in
    let after : ℕ = g.S.Sink.calls c.write_words.new.sink in
    rw all (called_longer before after done.0 part.0 done.4)
