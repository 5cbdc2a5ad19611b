-- Receptions that are extracted one behind the other.
use Rattle.pocsag_capture.proofs.Prelude.{◌≡◌, ℕ, ◌+◌, ◌-◌, ◌*◌, ◌<◌, ◌≤◌, List, [], ◌∷◌, ◌++◌, length, map, Bool, refl, sym, ap, subst, ◌∙◌, arith, eq-eqb, AllZip, option_to_list, le-leb, le-ltb, lt-leb, lt-ltb, append-nil, flat_map_more, map-append, all_zipped_more, body_bytes, as_sent, word_on, AreExtracted, count_cut, IsExtract, PutsExtract, PutsExtracts, all_batches, batches_in_front, own_word, received_word, sent_at, AreInStep, cut_by, Polarity, ReceptionStats, Reception, WordCorrector}
use Rattle.pocsag_capture.proofs.CorrectedWords.{begun_batch, last_end}
use Rattle.pocsag_capture.proofs.PagesLeft.{HasLeft, IsWalking, extracted_from_start, none_corrected, received_none}

-- ---- a word of a reception

pub word_there : (bits : List ℕ) (p : Polarity) (bit : ℕ) → bit + 32 ≤ length bits → sent_at bits p bit ≡ as_sent p (word_on bits bit)
word_there bits p bit there = rw (le-leb _ _ there) refl

pub word_cut : (bits : List ℕ) (p : Polarity) (bit : ℕ) → length bits < bit + 32 → sent_at bits p bit ≡ 0x0000000b
word_cut bits p bit cut = rw (lt-leb _ _ cut) refl

-- a word from the first synchronisation codeword on
pub own_word_at : (bits : List ℕ) (r : Reception) (place own : ℕ) → place ≡ 17 * batches_in_front r + own → received_word bits r place ≡ own_word bits r own
own_word_at bits r place own e =
    let past : 17 * batches_in_front r ≤ place = omega arith in
    let same : place - 17 * batches_in_front r ≡ own = omega arith in
    rw (le-ltb _ _ past) (ap (own_word bits r) same)

pub word_read : (bits : List ℕ) (r : Reception) (place own : ℕ) → place ≡ 17 * batches_in_front r + own → own < r.words
    → received_word bits r place ≡ sent_at bits r.polarity (r.bit + 32 * own)
word_read bits r place own e read = own_word_at bits r place own e ∙ rw (lt-ltb _ _ read) refl

pub word_unread : (bits : List ℕ) (r : Reception) (place : ℕ) → r.words ≡ 0 → r.words_in_front ≡ 0 → received_word bits r place ≡ 0x0000000b
word_unread bits r place none no_front =
    let first : batches_in_front r ≡ 0 = rw (eq-eqb _ _ no_front) refl in
    let past : r.words ≤ place = omega arith in
    own_word_at bits r place place (omega (arith, first)) ∙ rw (le-ltb _ _ past) refl

-- ---- all words of a reception

abbrev pub extract_of : (bits : List ℕ) (h : ReceptionStats) (s : WordCorrector) (place : ℕ)
    (f : IsWalking bits h.reception h.steady 0 none_corrected place s) → place ≡ 17 * all_batches h.reception
    → AreInStep bits h.reception h.steady → h.corrected ≡ s.corrected → h.lost ≡ s.lost → h.cut ≡ s.cut + cut_by (last_end s.is_open)
    → IsExtract bits h f.taken
extract_of bits h s place f all steady corrected lost cut =
    let at_end = received_none bits h.reception place h.steady s h all refl refl corrected lost cut in
    let whole = subst (λ (l : List ℕ). HasLeft bits h.reception h.steady 0 none_corrected l h) (append-nil f.taken)
    (f.left [] h ([], option_to_list (last_end s.is_open), at_end)) in
    record {
      are = f.are;
      long = omega (arith, f.long, all);
      steady = steady;
      extracted = extracted_from_start bits h.reception h.steady whole.0 f.taken whole.1 h whole.2;
    }

-- the bytes so far: those of the codewords, and of a batch that has none yet
pub record IsExtracting (bits : List ℕ) (r : Reception) (place steady : ℕ) (s : WordCorrector) (before now : List ℕ) : Type 0 where
  pub walking : IsWalking bits r steady 0 none_corrected place s
  pub bytes : now ≡ before ++ (body_bytes walking.taken ++ begun_batch place)

-- ---- one reception behind the other

pub extracts_more : (bits : List ℕ) (found found' : List Reception) (heard heard' : List ReceptionStats) (h : ReceptionStats) (before now after : List ℕ)
    → PutsExtracts bits found heard before now → PutsExtract bits h now after → heard' ≡ heard ++ h ∷ [] → found' ≡ found ++ h.reception ∷ []
    → PutsExtracts bits found' heard' before after
extracts_more bits found found' heard heard' h before now after f g pushed taken =
    record {
      codewords = f.codewords ++ g.codewords ∷ [];
      each = subst (λ (l : List ReceptionStats). AllZip (IsExtract bits) l (f.codewords ++ g.codewords ∷ [])) (sym pushed)
          (all_zipped_more (IsExtract bits) heard f.codewords h g.codewords f.each g.is);
      same = ap (map (λ (k : ReceptionStats). k.reception)) pushed ∙ map-append (λ (k : ReceptionStats). k.reception) heard (h ∷ [])
          ∙ ap (λ (l : List Reception). l ++ h.reception ∷ []) f.same ∙ sym taken;
      bytes = g.bytes ∙ ap (λ (l : List ℕ). l ++ body_bytes g.codewords) f.bytes ∙ flat_map_more body_bytes before f.codewords g.codewords;
    }
