-- What is extracted of receptions that a capture holds.
use Rattle.pocsag_capture.proofs.Prelude.{◌≡◌, ℕ, zero, suc, ◌+◌, ◌*◌, ◌%◌, ◌^◌, ◌<◌, ◌≤◌, false, List, [], ◌∷◌, ◌++◌, length, map, replicate, slice_get, All, Option, Some, None, lit<, refl, sym, ap, ap₂, subst, ◌∙◌, inl, inr, arith, append_assoc, AllZip, range_with_len, cases_eq, ne_eqb, length-append, All-cons, All-head, All-nil, All-tail, HasNoneNear-from_far, HasNoneNear, check_of, columns, combine, syndrome_of, body_bytes, unsynced, pages_from, IsMended, said, mended_same, capture_bits, without_orphans, ExtractsAll, ExtractsReception, PutsExtract, PutsExtracts, AreFound, AreReceptions, IsReception, IsSyncRun, all_batches, behind, counted, held_end, last_sync, nothing, passed, received, received_word, ReceptionStats, Reception, Run}
use Rattle.std.proofs.lemmas.Bool.{eq-eqb}
use Rattle.std.proofs.lemmas.Option.{slice_get_cases}
use Rattle.pocsag_words.specs.Frame.{input_limit}
use Rattle.pocsag_capture.specs.declared.extract.Extracted.{Extracted}
use Rattle.pocsag_capture.proofs.Joined.{IsBody, all_body, all_bytes, all_captured, all_codewords, all_pages, all_told, body_join, body_reads, join_body, one_body, one_captured, pages_in, sent_body}
use Rattle.pocsag_capture.proofs.Extracts.{word_unread}
use Rattle.pocsag_capture.proofs.Windows.{bits_long}

-- ---- how far receptions go

pub record IsShort (r : Reception) : Type 0 where
  pub some : 0 < r.batches
  pub end : behind r < 2 ^ 60

reception_short : (bytes : List ℕ) (first : ℕ) (u : Run) (r : Reception) → length bytes ≤ input_limit → IsSyncRun (capture_bits bytes) first u
    → IsReception (capture_bits bytes) u r → IsShort r
reception_short bytes first u r few run is =
    let some = run.some in
    let bit = is.bit in
    elim is.batches [
      | inl more ↦ record { some = omega (arith, more.1); end = omega (arith, more.1, run.last.within, bits_long bytes) }
      | inr same ↦ record { some = omega (arith, same.1); end = omega (arith, same.1, run.last.within, bits_long bytes) }
    ]

receptions_short_from : (bytes : List ℕ) (first held : ℕ) (rs : List Reception) → length bytes ≤ input_limit
    → AreFound (capture_bits bytes) first held rs → All IsShort rs
receptions_short_from bytes first held rs few (nothing quiet) = All-nil IsShort
receptions_short_from bytes first held rs few (counted u r more run counts is front rest) =
    All-cons IsShort r more (reception_short bytes first u r few run is) (receptions_short_from bytes (last_sync u + 1) (held_end u r) more few rest)
receptions_short_from bytes first held rs few (passed u more run not rest) = receptions_short_from bytes (last_sync u + 1) held more few rest

pub receptions_short : (bytes : List ℕ) (rs : List Reception) → length bytes ≤ input_limit → AreReceptions (capture_bits bytes) rs → All IsShort rs
receptions_short bytes rs few are = receptions_short_from bytes 0 0 rs few are

pub one_of : (rs : List Reception) (i : ℕ) (r : Reception) → All IsShort rs → slice_get rs i ≡ Some r → IsShort r
one_of rs i r all is =
    elim ((slice_get_cases rs i).1) [
      | inl there ↦
          let same : there.0 ≡ r = cc in
          subst IsShort (there.3 ∙ same) (all i there.0 there.1)
      | inr past ↦ absurd (cc)
    ]

-- ---- a batch of which nothing is read says nothing

unread_far : HasNoneNear 0x0000000b
unfolding syndrome_of check_of combine columns
unread_far = HasNoneNear-from_far 0x0000000b (lit< tt) refl

unread_words : (bits : List ℕ) (r : Reception) → r.words ≡ 0 → r.words_in_front ≡ 0 → (a n : ℕ)
    → All (λ w. w ≡ 0x0000000b) (map (received_word bits r) (range_with_len a n))
unread_words bits r none no_front a zero = All-nil (λ w. w ≡ 0x0000000b)
unread_words bits r none no_front a (suc n) =
    All-cons (λ w. w ≡ 0x0000000b) (received_word bits r a) (map (received_word bits r) (range_with_len (a + 1) n))
    (word_unread bits r a none no_front) (unread_words bits r none no_front (a + 1) n)

unread_unsynced : (j : ℕ) (ws : List ℕ) → All (λ w. w ≡ 0x0000000b) ws → All (λ w. w ≡ 0x0000000b) (unsynced j ws)
unread_unsynced j [] all = All-nil (λ w. w ≡ 0x0000000b)
unread_unsynced j (w ∷ ws) all =
    let rest = unread_unsynced (j + 1) ws (All-tail (λ w. w ≡ 0x0000000b) w ws all) in
    elim (cases_eq (j % 17) 0) [
      | inl sync ↦ rw (eq-eqb _ _ sync) rest
      | inr other ↦ rw (ne_eqb _ _ other) (All-cons (λ w. w ≡ 0x0000000b) w (unsynced (j + 1) ws) (All-head (λ w. w ≡ 0x0000000b) w ws all) rest)
    ]

unread_mended : (w : ℕ) (m : Option ℕ) → w ≡ 0x0000000b → IsMended w m → m ≡ None
unread_mended w m is mended = mended_same 0x0000000b m None (subst (λ (v : ℕ). IsMended v m) is mended) unread_far

unread_pages : (i : ℕ) (ws : List ℕ) (ms : List (Option ℕ)) → All (λ w. w ≡ 0x0000000b) ws → AllZip IsMended ws ms
    → pages_from i (without_orphans false (map said ms)) ≡ []
unread_pages i [] [] all each = refl
unread_pages i [] (m ∷ ms) all each = absurd each
unread_pages i (w ∷ ws) [] all each = absurd each
unread_pages i (w ∷ ws) (m ∷ ms) all each =
    let is = unread_mended w m (All-head (λ w. w ≡ 0x0000000b) w ws all) each.0 in
    let rest = unread_pages (i + 1) ws ms (All-tail (λ w. w ≡ 0x0000000b) w ws all) each.1 in
    ap (λ (n : Option ℕ). pages_from i (without_orphans false (said n ∷ map said ms))) is ∙ rest

silent : (bits : List ℕ) (h : ReceptionStats) (before after : List ℕ) (f : PutsExtract bits h before after) → h.reception.words ≡ 0
    → h.reception.words_in_front ≡ 0 → pages_in f.codewords ≡ []
silent bits h before after f none no_front =
    let extracted = f.is.extracted in
    ap (pages_from 0) extracted.kinds
    ∙ unread_pages 0 (unsynced 0 (received bits h.reception)) extracted.mended
    (unread_unsynced 0 (received bits h.reception) (unread_words bits h.reception none no_front 0 (17 * all_batches h.reception))) extracted.each

-- ---- all receptions, behind a batch that says nothing

pub extracts_all : (capture : List ℕ) (l : Extracted) (start mid : List ℕ) (silence : ReceptionStats) (found : List Reception) → start ≡ replicate 72 0xaa
    → silence.reception.words ≡ 0 → silence.reception.words_in_front ≡ 0 → silence.reception.batches ≡ 1 → PutsExtract (capture_bits capture) silence start mid
    → PutsExtracts (capture_bits capture) found l.heard.items mid l.bytes.items → AreReceptions (capture_bits capture) found → ExtractsAll capture l
extracts_all capture l start mid silence found begun unread no_front one f g are =
    let bits = capture_bits capture in
    let none = silent bits silence start mid f unread no_front in
    let first = subst (IsBody f.codewords) none (one_body bits silence f.codewords f.is) in
    let rest = all_body bits l.heard.items g.codewords g.each in
    let whole = join_body f.codewords (all_codewords g.codewords) [] (all_pages g.codewords) first rest in
    let bytes : l.bytes.items ≡ replicate 72 0xaa ++ body_bytes (f.codewords ++ all_codewords g.codewords) =
    g.bytes ∙ ap₂ (λ (a b : List ℕ). a ++ b) (f.bytes ∙ ap (λ (a : List ℕ). a ++ body_bytes f.codewords) begun) (all_bytes bits l.heard.items g.codewords g.each)
    ∙ append_assoc (replicate 72 0xaa) (body_bytes f.codewords) (body_bytes (all_codewords g.codewords))
    ∙ ap (λ (a : List ℕ). replicate 72 0xaa ++ a) (sym (body_join f.codewords (all_codewords g.codewords) first.whole)) in
    record {
      pages = all_pages g.codewords;
      captured = record {
        found = subst (AreReceptions bits) (sym g.same) are;
        pages = map pages_in g.codewords;
        each = all_captured bits l.heard.items g.codewords g.each;
        all = refl;
      };
      reads = body_reads l.bytes.items (f.codewords ++ all_codewords g.codewords) (all_pages g.codewords) bytes
          (omega (arith, f.is.long, length-append f.codewords (all_codewords g.codewords))) whole;
      told = all_told bits l.heard.items g.codewords g.each;
    }

pub extracts_reception : (capture : List ℕ) (r : Reception) (start bytes : List ℕ) (heard : ReceptionStats) → start ≡ replicate 72 0xaa → 0 < r.batches
    → heard.reception ≡ r → PutsExtract (capture_bits capture) heard start bytes → ExtractsReception capture r heard bytes
extracts_reception capture r start bytes heard begun some is f =
    let bits = capture_bits capture in
    let batches : heard.reception.batches ≡ r.batches = ap (λ (q : Reception). q.batches) is in
    let body = one_body bits heard f.codewords f.is in
    let whole : bytes ≡ replicate 72 0xaa ++ body_bytes f.codewords =
    f.bytes ∙ ap (λ (a : List ℕ). a ++ body_bytes f.codewords) begun in
    let long : 0 < length f.codewords = omega (arith, f.is.long) in
    record {
      of = is;
      codewords = f.codewords;
      sent = sent_body bytes f.codewords (pages_in f.codewords) whole long body;
      steady = f.is.steady;
      words = f.is.extracted;
      pages = pages_in f.codewords;
      captured = one_captured bits heard f.codewords f.is;
      reads = body_reads bytes f.codewords (pages_in f.codewords) whole long body;
    }
