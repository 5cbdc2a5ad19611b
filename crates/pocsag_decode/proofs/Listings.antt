-- Listings that are written as the codewords are read.
use Rattle.pocsag_decode.proofs.Prelude.{◌≡◌, ◌≢◌, ℕ, ◌+◌, ◌*◌, ◌/◌, ◌%◌, ◌<◌, ◌≤◌, List, [], ◌∷◌, ◌++◌, All, length, get_or, map, take, drop, replicate, Option, Some, refl, sym, ap, ap₂, ◌∙◌, arith, append_assoc, eq-eqb, ne_eqb, append-nil, drop_all, drop_more, length-append, map-append, take_all, default_writer, row_text, idle_word, kind_of, Kind, Idle, Page, after_preamble, codewords_in, sync_word, unsynced, words_of, pages_from, unsynced_more, words_long, OpenPage, ReadsAs, closed, resumed, text_in, rows_of_pages, still_listed, header, listing, record_of}
use Rattle.std.proofs.Common.{None}
use Rattle.pocsag_decode.specs.declared.lister.Lister.{Lister}
use Rattle.pocsag_decode.proofs.Fine.{batch_at, batch_first, batch_long}
use Rattle.pocsag_decode.proofs.SentBytes.{one_reading, reads_whole}
use Rattle.pocsag_decode.proofs.Transmissions.{IsWhole, resumed_end, whole_reads}

-- ---- the codewords of a batch

codewords_alone : (j : ℕ) (ws : List ℕ) → 0 < j % 17 → j % 17 + length ws ≤ 17 → unsynced j ws ≡ ws
codewords_alone j [] s h = refl
codewords_alone j (w ∷ []) s h = let n : j % 17 ≢ 0 = omega arith in rw (ne_eqb _ _ n) refl
codewords_alone j (w ∷ v ∷ ws) s h =
    let n : j % 17 ≢ 0 = omega arith in
    rw (ne_eqb _ _ n) (ap (λ (l : List ℕ). w ∷ l) (codewords_alone (j + 1) (v ∷ ws) (omega arith) (omega arith)))

pub batch_codewords : (j : ℕ) (batch : List ℕ) → length batch ≡ 68 → j % 17 ≡ 0 → unsynced j (words_of batch) ≡ words_of (drop 4 batch)
batch_codewords j [] e s = absurd (omega arith)
batch_codewords j (a ∷ []) e s = absurd (omega arith)
batch_codewords j (a ∷ b ∷ []) e s = absurd (omega arith)
batch_codewords j (a ∷ b ∷ c ∷ []) e s = absurd (omega arith)
batch_codewords j (a ∷ b ∷ c ∷ d ∷ batch) e s =
    rw (eq-eqb _ _ s) (codewords_alone (j + 1) (words_of batch) (omega arith) (let l = words_long batch in omega arith))

-- ---- a batch of idle codewords

rows_more : (ps qs : List Page) → rows_of_pages (ps ++ qs) ≡ rows_of_pages ps ++ rows_of_pages qs
rows_more [] qs = refl
rows_more (p ∷ ps) qs =
    ap (λ (l : List ℕ). row_text default_writer (record_of p) ++ l) (rows_more ps qs)
    ∙ sym (append_assoc (row_text default_writer (record_of p)) (rows_of_pages ps) (rows_of_pages qs))

idles_read : (i : ℕ) (ks : List Kind) → pages_from i (replicate 16 Idle ++ ks) ≡ pages_from (i + 16) ks
idles_read i ks = ap (λ (n : ℕ). pages_from n ks) (omega arith)

idles_end : (i : ℕ) (o : Option OpenPage) (ks : List Kind) → resumed i o (replicate 16 Idle ++ ks) ≡ closed o ++ pages_from (i + 16) ks
idles_end i None ks = idles_read i ks
idles_end i (Some p) ks =
    ap₂ (λ (items : List ℕ) (ps : List Page). record { address = p.address; function = p.function; payload = items } ∷ ps)
    (append-nil p.items.items) (idles_read i ks)

pub idles_listed : (before after : Lister) (i j : ℕ) (batch : List ℕ) (ks : List Kind) → words_of batch ≡ sync_word ∷ replicate 16 idle_word
    → j % 17 ≡ 0 → after.current ≡ None
    → text_in after.records ≡ text_in before.records ++ rows_of_pages (closed before.current)
    → still_listed before i (map kind_of (unsynced j (words_of batch)) ++ ks) ≡ still_listed after (i + 16) ks
idles_listed before after i j batch ks words s none text =
    let kinds : map kind_of (unsynced j (words_of batch)) ≡ replicate 16 Idle =
    ap (λ (l : List ℕ). map kind_of (unsynced j l)) words
    ∙ (rw (eq-eqb _ _ s) (ap (map kind_of) (codewords_alone (j + 1) (replicate 16 idle_word) (omega arith) (omega arith)))) in
    let rows = rows_of_pages (closed before.current) in
    let rest = rows_of_pages (pages_from (i + 16) ks) in
    ap (λ (l : List Kind). still_listed before i (l ++ ks)) kinds
    ∙ (ap (λ (ps : List Page). text_in before.records ++ rows_of_pages ps) (idles_end i before.current ks)
    ∙ (ap (λ (l : List ℕ). text_in before.records ++ l) (rows_more (closed before.current) (pages_from (i + 16) ks))
    ∙ (sym (append_assoc (text_in before.records) rows rest)
    ∙ (ap (λ (l : List ℕ). l ++ rest) (sym text)
    ∙ ap (λ (o : Option OpenPage). text_in after.records ++ rows_of_pages (resumed (i + 16) o ks)) (sym none)))))

-- ---- all batches

-- what is due is what was written, what waits and what comes of the codewords from a batch on
abbrev pub AreListed : (due written : List ℕ) → Lister → (i : ℕ) → (bytes : List ℕ) → Type 0
AreListed due written l i bytes =
    due ≡ written ++ still_listed l (16 * i) (map kind_of (unsynced (17 * i) (words_of (drop (68 * i) bytes))))

pub none_listed : (written : List ℕ) (l : Lister) (bytes : List ℕ) → l.current ≡ None → text_in l.records ≡ row_text default_writer header
    → AreListed (written ++ listing (pages_from 0 (map kind_of (unsynced 0 (words_of bytes))))) written l 0 bytes
unfolding listing
none_listed written l bytes none text =
    let ks : List Kind = map kind_of (unsynced 0 (words_of bytes)) in
    ap (λ (t : List ℕ). written ++ (t ++ rows_of_pages (pages_from 0 ks))) (sym text)
    ∙ ap (λ (o : Option OpenPage). written ++ (text_in l.records ++ rows_of_pages (resumed 0 o ks))) (sym none)

pub more_listed : (due written : List ℕ) (before after : Lister) (i : ℕ) (bytes : List ℕ) → 68 * i + 68 ≤ length bytes
    → ((j k : ℕ) (ks : List Kind) → j % 16 ≡ 0 → k % 17 ≡ 0
    → still_listed before j (map kind_of (unsynced k (batch_at i bytes)) ++ ks) ≡ still_listed after (j + 16) ks)
    → AreListed due written before i bytes → AreListed due written after (i + 1) bytes
more_listed due written before after i bytes within step so_far =
    let batch : List ℕ = batch_at i bytes in
    let behind : List ℕ = words_of (drop (68 * (i + 1)) bytes) in
    let ks : List Kind = map kind_of (unsynced (17 * (i + 1)) behind) in
    let place : 17 * i + length batch ≡ 17 * (i + 1) = omega (arith, batch_long i bytes within) in
    let next : 16 * i + 16 ≡ 16 * (i + 1) = omega arith in
    let codes : map kind_of (unsynced (17 * i) (words_of (drop (68 * i) bytes))) ≡ map kind_of (unsynced (17 * i) batch) ++ ks =
    ap (λ (ws : List ℕ). map kind_of (unsynced (17 * i) ws)) (batch_first i bytes within)
    ∙ ap (map kind_of) (unsynced_more (17 * i) batch behind)
    ∙ map-append kind_of (unsynced (17 * i) batch) (unsynced (17 * i + length batch) behind)
    ∙ ap (λ (n : ℕ). map kind_of (unsynced (17 * i) batch) ++ map kind_of (unsynced n behind)) place in
    so_far
    ∙ ap (λ (l : List Kind). written ++ still_listed before (16 * i) l) codes
    ∙ ap (λ (l : List ℕ). written ++ l) (step (16 * i) (17 * i) ks (omega arith) (omega arith))
    ∙ ap (λ (n : ℕ). written ++ still_listed after n ks) next

-- the last page is put behind, and what waits is all that is due
pub all_listed : (due written : List ℕ) (before after : Lister) (i : ℕ) (bytes : List ℕ) → length bytes ≡ 68 * i
    → text_in after.records ≡ text_in before.records ++ rows_of_pages (closed before.current) → AreListed due written before i bytes
    → due ≡ written ++ text_in after.records
all_listed due written before after i bytes long text so_far =
    so_far
    ∙ ap (λ (l : List ℕ). written ++ still_listed before (16 * i) (map kind_of (unsynced (17 * i) (words_of l)))) (drop_all (68 * i) bytes (omega arith))
    ∙ ap (λ (ps : List Page). written ++ (text_in before.records ++ rows_of_pages ps)) (resumed_end (16 * i) before.current)
    ∙ ap (λ (l : List ℕ). written ++ l) (sym text)

-- some of what waits is written
pub poured : (due written now waited waits rest : List ℕ) → now ++ waits ≡ written ++ waited → due ≡ written ++ (waited ++ rest)
    → due ≡ now ++ (waits ++ rest)
poured due written now waited waits rest moved so_far =
    so_far ∙ sym (append_assoc written waited rest) ∙ ap (λ (l : List ℕ). l ++ rest) (sym moved) ∙ append_assoc now waits rest

-- what the bytes read as is what is listed
pub listed_reading : (X rest part first now : List ℕ) (ps : List Page) → All (λ b. b < 256) X → rest ≡ after_preamble X
    → part ≡ take (length rest / 68 * 68) rest
    → now ≡ first ++ listing (pages_from 0 (map kind_of (unsynced 0 (words_of part)))) → ReadsAs X ps
    → now ≡ first ++ listing ps
listed_reading X rest part first now ps small is cut told reads =
    let whole : IsWhole X = reads_whole X ps small reads in
    let batches = whole.batches in
    let long : length rest ≡ length (after_preamble X) = ap length is in
    let all : part ≡ after_preamble X = cut ∙ (take_all (length rest / 68 * 68) rest (omega arith) ∙ is) in
    told
    ∙ (ap (λ (l : List ℕ). first ++ listing (pages_from 0 (map kind_of (unsynced 0 (words_of l))))) all
    ∙ ap (λ (l : List Page). first ++ listing l) (one_reading X (pages_from 0 (map kind_of (codewords_in X))) ps (whole_reads X whole _ refl) reads))

-- ---- one page more

pub listing_is : (ps : List Page) → listing ps ≡ row_text default_writer header ++ rows_of_pages ps
unfolding listing
listing_is ps = refl

module _ (due written text : List ℕ) (ps done : List Page)
    (so_far : due ≡ written ++ (text ++ rows_of_pages (drop (length done) ps))) where
  pub row_more : (next : List ℕ) (p : Page) → length done < length ps → p ≡ get_or ps (length done) p
      → next ≡ text ++ row_text default_writer (record_of p)
      → due ≡ written ++ (next ++ rows_of_pages (drop (length (done ++ p ∷ [])) ps))
  row_more next p within here put =
      let behind : List Page = drop (length done + 1) ps in
      let first : drop (length done) ps ≡ p ∷ behind =
      drop_more ps (length done) p within ∙ ap (λ (q : Page). q ∷ behind) (sym here) in
      so_far
      ∙ ap (λ (qs : List Page). written ++ (text ++ rows_of_pages qs)) first
      ∙ ap (λ (l : List ℕ). written ++ l)
      (sym (append_assoc text (row_text default_writer (record_of p)) (rows_of_pages behind))
      ∙ ap (λ (l : List ℕ). l ++ rows_of_pages behind) (sym put))
      ∙ ap (λ (n : ℕ). written ++ (next ++ rows_of_pages (drop n ps))) (sym (length-append done (p ∷ [])))

  pub rows_end : done ≡ ps → due ≡ written ++ text
  rows_end all =
      so_far
      ∙ ap (λ (qs : List Page). written ++ (text ++ rows_of_pages qs)) (drop_all (length done) ps (omega (arith, ap length all)))
      ∙ ap (λ (l : List ℕ). written ++ l) (append-nil text)
