-- Pages that are handed out one after the other.
use Rattle.pocsag_decode.proofs.Prelude.{◌≡◌, ℕ, ◌+◌, ◌%◌, ◌<◌, List, [], ◌∷◌, All, length, get_or, map, drop, Option, refl, sym, ap, ap₂, ◌∙◌, arith, from_be_bytes, w32, eq-eqb, drop_more, kind_of, Kind, Page, after_preamble, codewords_in, unsynced, words_of, IsListable, pages_from, OpenPage, ReadsAs, resumed, codewords_before, kinds_left}
use Rattle.pocsag_decode.proofs.SentBytes.{one_reading, reads_whole}
use Rattle.pocsag_decode.proofs.Transmissions.{whole_listable, whole_reads}

-- one word more
module _ (words : List (List ℕ)) (j w : ℕ) (within : j < length words) (here : w ≡ from_be_bytes w32 (get_or words j [])) where
  first_word : map (from_be_bytes w32) (drop j words) ≡ w ∷ map (from_be_bytes w32) (drop (j + 1) words)
  first_word =
      ap (map (from_be_bytes w32)) (drop_more words j [] within)
      ∙ ap (λ (v : ℕ). v ∷ map (from_be_bytes w32) (drop (j + 1) words)) (sym here)

  sync_kinds : j % 17 ≡ 0 → kinds_left j words ≡ kinds_left (j + 1) words
  sync_kinds s = ap (λ (ws : List ℕ). map kind_of (unsynced j ws)) first_word ∙ rw (eq-eqb _ _ s) refl

  pub sync_passed : (o : Option OpenPage) → j % 17 ≡ 0
      → resumed (codewords_before j) o (kinds_left j words) ≡ resumed (codewords_before (j + 1)) o (kinds_left (j + 1) words)
  sync_passed o s = ap₂ (λ (i : ℕ) (ks : List Kind). resumed i o ks) (omega arith) (sync_kinds s)

-- what the bytes read as
pub all_left : (X : List ℕ) (words : List (List ℕ)) (ps : List Page) → All (λ b. b < 256) X
    → map (from_be_bytes w32) words ≡ words_of (after_preamble X) → ReadsAs X ps → pages_from 0 (kinds_left 0 words) ≡ ps
all_left X words ps small are reads =
    ap (λ (ws : List ℕ). pages_from 0 (map kind_of (unsynced 0 ws))) are
    ∙ one_reading X (pages_from 0 (map kind_of (codewords_in X))) ps (whole_reads X (reads_whole X ps small reads) _ refl) reads

pub reading_listable : (X : List ℕ) (ps : List Page) → All (λ b. b < 256) X → ReadsAs X ps → All IsListable ps
reading_listable X ps small reads =
    let whole = reads_whole X ps small reads in
    whole_listable X whole ps (one_reading X ps (pages_from 0 (map kind_of (codewords_in X))) reads (whole_reads X whole _ refl))
