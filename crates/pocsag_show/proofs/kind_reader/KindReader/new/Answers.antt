use Rattle.pocsag_show.proofs.Prelude.{◌≡◌, ℕ, ◌/◌, List, length, map, drop, refl, sym, ap, ◌∙◌, from_be_bytes, w32, kind_of, after_preamble, unsynced, words_of}
use Rattle.pocsag_pager.proofs.WholeWords.{chunk_words}
use Rattle.pocsag_show.proofs.KindsAhead.{sync_skipped}
use Rattle.pocsag_show.proofs.kind_reader.KindReader.new.Goals as goal

pub returns-clause-kinds : goal.returns-clause-kinds
returns-clause-kinds c =
    let bytes = c.args.bytes.now in
    let rest = c.split_at.result.1.now in
    let words = c.as_chunks.result.0.now in
    let are : map (from_be_bytes w32) words ≡ words_of (after_preamble bytes) =
    ap (map (from_be_bytes w32)) c.as_chunks.ensures.front
    ∙ (chunk_words (length rest / 4) rest refl
    ∙ ap words_of (c.split_at.ensures.back ∙ ap (λ (n : ℕ). drop n bytes) c.preamble_len.ensures.value)) in
    sym (sync_skipped words 0 refl) ∙ ap (λ (ws : List ℕ). map kind_of (unsynced 0 ws)) are
