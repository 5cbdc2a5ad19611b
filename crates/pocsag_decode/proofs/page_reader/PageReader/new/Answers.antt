use Rattle.pocsag_decode.proofs.Prelude.{◌≡◌, ℕ, ◌/◌, ◌<◌, length, map, drop, refl, ap, ◌∙◌, arith, from_be_bytes, w32, All-from_get_or, after_preamble, words_of, chunk_words}
use Rattle.pocsag_decode.proofs.PageReaders.{all_left, reading_listable}
use Rattle.pocsag_decode.proofs.page_reader.PageReader.new.Goals as goal

pub returns-clause-left : goal.returns-clause-left
returns-clause-left c = λ pages reads.
    let bytes = c.args.bytes.now in
    let rest = c.split_at.result.1.now in
    let words = c.as_chunks.result.0.now in
    let are : map (from_be_bytes w32) words ≡ words_of (after_preamble bytes) =
    ap (map (from_be_bytes w32)) c.as_chunks.ensures.front
    ∙ (chunk_words (length rest / 4) rest refl
    ∙ ap words_of (c.split_at.ensures.back ∙ ap (λ (n : ℕ). drop n bytes) c.preamble_len.ensures.value)) in
    all_left bytes words pages (All-from_get_or (λ b. b < 256) bytes 0 (λ i h. omega (arith, (c.type_inv.bytes i).fits))) are reads

pub returns-clause-listable : goal.returns-clause-listable
returns-clause-listable c = λ pages reads.
    let bytes = c.args.bytes.now in
    reading_listable bytes pages (All-from_get_or (λ b. b < 256) bytes 0 (λ i h. omega (arith, (c.type_inv.bytes i).fits))) reads
