use Rattle.pocsag_pager.proofs.Prelude.{◌≡◌, ◌+◌, ◌/◌, ◌++◌, ◌∷◌, [], ℕ, List, length, map, take, refl, sym, ap, subst, ◌∙◌, arith, append_assoc, from_be_bytes, w32, words_of, HasHeard, pager_address, take_all, HasFollowed, ShowsSome, Err, err_from_is_err_and}
use Rattle.pocsag_pager.proofs.WholeWords.{chunk_words, ended_at, one_more_word}
use Rattle.pocsag_pager.proofs.Memory.{shows_all, shows_ended, wanted}
use Rattle.pocsag_pager.proofs.shown.feed_words.Goals as goal

pub loop-word-preserved : goal.loop-word-preserved
loop-word-preserved c =
    let loop = c.loop-word in
    let chunks = c.as_chunks.result.0.now in
    let so_far = map (from_be_bytes w32) (take loop.word-index chunks) in
    let answer = c.in_ok-ended.ensures in
    record {
      heard = λ words h.
          let before = loop.invariant.heard words h in
          let more : words ++ map (from_be_bytes w32) (take (loop.word-index + 1) chunks) ≡
          (words ++ so_far) ++ c.from_be_bytes.result ∷ [] =
          ap (λ ws. words ++ ws) (one_more_word chunks loop.word-index c.from_be_bytes.result (omega arith) c.from_be_bytes.ensures)
          ∙ sym (append_assoc words so_far (c.from_be_bytes.result ∷ [])) in
          record {
            stands = subst (HasFollowed c.hear.new.self) (sym more) (answer.stands (words ++ so_far) before.stands);
            ended =
                ended_at _ _ _ _ _ _ more c.hear.ensures.address c.in_ok-keep.ensures.kept
                (answer.ended (words ++ so_far) loop.pages.items before.stands before.ended);
          };
      address = c.hear.ensures.address ∙ loop.invariant.address;
    }

pub returns-clause-heard : goal.returns-clause-heard
returns-clause-heard c = record {
  heard = λ words h.
      let loop = c.loop-word in
      let chunks = c.as_chunks.result.0.now in
      let long : length chunks ≡ length c.args.bytes.now / 4 = c.as_chunks.ensures.front_len in
      let whole : map (from_be_bytes w32) (take loop.word-index chunks) ≡ words_of c.args.bytes.now =
      ap (map (from_be_bytes w32)) (take_all loop.word-index chunks (omega arith) ∙ c.as_chunks.ensures.front)
      ∙ chunk_words (length c.args.bytes.now / 4) c.args.bytes.now refl in
      subst (λ (ws : List ℕ). HasHeard loop.pager (words ++ ws) loop.pages.items) whole (loop.invariant.heard words h);
  memory = λ words h. tt;
  address = c.loop-word.invariant.address;
}

pub returns-in_err-ended-clause-memory : goal.returns-in_err-ended-clause-memory
returns-in_err-ended-clause-memory c = λ words h.
    let loop = c.loop-word in
    let chunks = c.as_chunks.result.0.now in
    let so_far = words ++ map (from_be_bytes w32) (take loop.word-index chunks) in
    let before = loop.invariant.heard words h in
    let all : map (from_be_bytes w32) chunks ≡ words_of c.args.bytes.now =
    ap (map (from_be_bytes w32)) c.as_chunks.ensures.front ∙ chunk_words (length c.args.bytes.now / 4) c.args.bytes.now refl in
    let some = wanted loop.pager so_far c.from_be_bytes.result c.in_err-ended.field-0.0 before.stands c.in_err-ended.ensures.err
    (λ memory. c.in_err-ended.ensures.memory so_far before.stands (ap Err memory)) in
    let p = err_from_is_err_and c.from_residual.result c.from_residual.ensures.1 in
    rw p.1
    (subst (λ (ws : List ℕ). ShowsSome (words ++ ws) (pager_address c.args.pager.now)) all
    (subst (λ (a : ℕ). ShowsSome (words ++ map (from_be_bytes w32) chunks) a) loop.invariant.address
    (shows_all words loop.word-index chunks (pager_address loop.pager) some)))

pub returns-in_err-keep-clause-memory : goal.returns-in_err-keep-clause-memory
returns-in_err-keep-clause-memory c = λ words h.
    let loop = c.loop-word in
    let chunks = c.as_chunks.result.0.now in
    let so_far = map (from_be_bytes w32) (take loop.word-index chunks) in
    let before = loop.invariant.heard words h in
    let all : map (from_be_bytes w32) chunks ≡ words_of c.args.bytes.now =
    ap (map (from_be_bytes w32)) c.as_chunks.ensures.front ∙ chunk_words (length c.args.bytes.now / 4) c.args.bytes.now refl in
    let more : words ++ map (from_be_bytes w32) (take (loop.word-index + 1) chunks) ≡ (words ++ so_far) ++ c.from_be_bytes.result ∷ [] =
    ap (λ ws. words ++ ws) (one_more_word chunks loop.word-index c.from_be_bytes.result (omega arith) c.from_be_bytes.ensures)
    ∙ sym (append_assoc words so_far (c.from_be_bytes.result ∷ [])) in
    let ended = c.in_ok-ended.ensures.ended (words ++ so_far) loop.pages.items before.stands before.ended in
    let some = shows_ended _ (pager_address loop.pager) loop.pages.items c.in_ok-ended.ended c.in_err-keep.ensures.memory ended in
    let p = err_from_is_err_and c.from_residual-in_err-keep.result c.from_residual-in_err-keep.ensures.1 in
    rw p.1
    (subst (λ (ws : List ℕ). ShowsSome (words ++ ws) (pager_address c.args.pager.now)) all
    (subst (λ (a : ℕ). ShowsSome (words ++ map (from_be_bytes w32) chunks) a) loop.invariant.address
    (shows_all words (loop.word-index + 1) chunks (pager_address loop.pager)
    (subst (λ (ws : List ℕ). ShowsSome ws (pager_address loop.pager)) (sym more) some))))
