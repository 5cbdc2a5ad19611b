use Rattle.pocsag_decode.proofs.Prelude.{◌≡◌, ℕ, List, [], ◌<◌, ◌/◌, length, get_or, map, refl, sym, ap, subst, ◌∙◌, arith, from_be_bytes, w32, get_or-map, length-map, err_from_is_err_and, words_of, chunk_words, JudgesMore}
use Rattle.std.proofs.Common.{Err, Ok}
use Rattle.pocsag_decode.proofs.Fine.{none_behind, word_bad, word_then}
use Rattle.pocsag_decode.proofs.judge.judge_words.Goals as goal

-- the word of a chunk is one of the words
word_at : (chunks : List (List ℕ)) (i w : ℕ) → i < length chunks → w ≡ from_be_bytes w32 (get_or chunks i [])
    → w ≡ get_or (map (from_be_bytes w32) chunks) i 0
word_at chunks i w within is = is ∙ sym (get_or-map (from_be_bytes w32) chunks i [] 0 within)

pub loop-word-init : goal.loop-word-init
loop-word-init c =
    let all : map (from_be_bytes w32) c.as_chunks.result.0.now ≡ words_of c.args.bytes.now =
    ap (map (from_be_bytes w32)) c.as_chunks.ensures.front ∙ chunk_words (length c.args.bytes.now / 4) c.args.bytes.now refl in
    record { at = omega arith; rest = λ r h. subst (JudgesMore r c.args.place c.args.in_page) all h }

pub overflow_add-place : goal.overflow_add-place
overflow_add-place c =
    let long = c.as_chunks.ensures.front_len in
    let at = c.loop-word.invariant.at in
    let room = c.requires in
    record { fits = omega arith }

pub loop-word-preserved : goal.loop-word-preserved
loop-word-preserved c =
    let loop = c.loop-word in
    let chunks = c.as_chunks.result.0.now in
    let count = length-map chunks (from_be_bytes w32) in
    record {
      at = let at = loop.invariant.at in omega arith;
      rest = λ r h. loop.invariant.rest r
          (word_then loop.place loop.word-index loop.in_page (map (from_be_bytes w32) chunks) c.from_be_bytes.result (omega arith)
          (word_at chunks loop.word-index _ (omega arith) c.from_be_bytes.ensures) c.in_ok-in_page.in_page r c.in_ok-in_page.ensures.judged h);
    }

pub returns-in_err-in_page : goal.returns-in_err-in_page
returns-in_err-in_page c =
    let loop = c.loop-word in
    let chunks = c.as_chunks.result.0.now in
    let count = length-map chunks (from_be_bytes w32) in
    let p = err_from_is_err_and c.from_residual.result c.from_residual.ensures.1 in
    let f = c.in_err-in_page.field-0.0 in
    rw (p.1, p.2) (loop.invariant.rest (Err f)
    (word_bad loop.place loop.word-index loop.in_page (map (from_be_bytes w32) chunks) c.from_be_bytes.result (omega arith)
    (word_at chunks loop.word-index _ (omega arith) c.from_be_bytes.ensures) f c.in_err-in_page.ensures.judged))

pub returns : goal.returns
returns c =
    let loop = c.loop-word in
    let chunks = c.as_chunks.result.0.now in
    let count = length-map chunks (from_be_bytes w32) in
    loop.invariant.rest (Ok loop.in_page) (none_behind loop.place loop.word-index loop.in_page (map (from_be_bytes w32) chunks) (omega arith))
