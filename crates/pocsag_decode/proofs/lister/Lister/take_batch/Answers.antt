use Rattle.pocsag_decode.proofs.Prelude.{◌≡◌, ◌∷◌, ◌+◌, ◌/◌, ◌++◌, ℕ, List, length, map, replicate, take, refl, sym, ap, subst, ◌∙◌, arith, from_be_bytes, w32, take_all, bytes_eq-Decides, idle_word, kind_of, sync_word, unsynced, words_of, chunk_words, still_listed}
use Rattle.pocsag_decode.proofs.Listings.{batch_codewords, idles_listed}
use Rattle.pocsag_decode.proofs.lister.Lister.take_batch.Goals as goal

pub returns-then-eq-clause-reads : goal.returns-then-eq-clause-reads
returns-then-eq-clause-reads c = λ i j ks z s.
    let words : words_of c.args.batch.now ≡ sync_word ∷ replicate 16 idle_word =
    ap words_of ((bytes_eq-Decides _ _).0 (sym c.if-eq.ensures) ∙ c.as_slice.ensures) in
    idles_listed c.args.self.now c.close.new.self i j c.args.batch.now ks words s c.in_ok-close.ensures.current c.in_ok-close.ensures.text

pub returns-clause-reads : goal.returns-clause-reads
returns-clause-reads c = λ i j ks z s.
    let loop = c.loop-word in
    let batch = c.args.batch.now in
    let bytes = c.split_at.result.1.now in
    let chunks = c.as_chunks.result.0.now in
    let long : length chunks ≡ length bytes / 4 = c.as_chunks.ensures.front_len in
    let all : length bytes ≡ 64 = let l = c.split_at.ensures.back_len in let b = c.requires.long in omega arith in
    let n : loop.word-index ≡ 16 = omega arith in
    let whole : map (from_be_bytes w32) (take loop.word-index chunks) ≡ unsynced j (words_of batch) =
    ap (map (from_be_bytes w32)) (take_all loop.word-index chunks (omega arith) ∙ c.as_chunks.ensures.front)
    ∙ (chunk_words (length bytes / 4) bytes refl ∙ (ap words_of c.split_at.ensures.back ∙ sym (batch_codewords j batch c.requires.long s))) in
    subst (λ (l : List ℕ). still_listed c.args.self.now i (map kind_of l ++ ks) ≡ still_listed loop.self (i + 16) ks) whole
    (subst (λ (k : ℕ). still_listed c.args.self.now i (map kind_of (map (from_be_bytes w32) (take loop.word-index chunks)) ++ ks)
    ≡ still_listed loop.self (i + k) ks) n (loop.invariant.reads i ks z))
