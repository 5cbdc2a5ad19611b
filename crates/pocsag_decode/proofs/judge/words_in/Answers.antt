use Rattle.pocsag_decode.proofs.Prelude.{◌≡◌, ◌/◌, length, map, refl, sym, ap, ◌∙◌, arith, from_be_bytes, w32, take_all, chunk_words}
use Rattle.pocsag_decode.proofs.judge.words_in.Goals as goal

pub returns : goal.returns
returns c =
    let loop = c.loop-i in
    let bytes = c.args.batch.now in
    let chunks = c.as_chunks.result.0.now in
    let long : length chunks ≡ length bytes / 4 = c.as_chunks.ensures.front_len in
    let all : length bytes ≡ 68 = c.requires in
    let n : loop.i ≡ 17 = omega arith in
    let filled = loop.invariant.0 in
    sym (take_all loop.i loop.numbers (omega arith)) ∙ loop.invariant.1
    ∙ ap (map (from_be_bytes w32)) (take_all loop.i chunks (omega arith) ∙ c.as_chunks.ensures.front)
    ∙ chunk_words (length bytes / 4) bytes refl
