-- Extracted receptions as one transmission.
use Rattle.pocsag_capture.proofs.Prelude.{◌≡◌, ℕ, ◌+◌, ◌*◌, ◌/◌, ◌%◌, ◌<◌, ◌==◌, Bool, true, false, List, [], ◌∷◌, ◌++◌, length, map, replicate, All, Option, Some, None, refl, sym, ap, ap₂, subst, ◌∙◌, arith, if◌then◌else◌, to_be_bytes, w32, AllZip, flat_map, flat_map-append, length-append, length-map, map-append, All-append, All-cons, All-nil, IsCodeword, kind_of, Kind, Idle, Address, Message, Page, Sent, body_bytes, sync_word, synced, HasNoOrphan, items_of, pages_from, frame_at, plain_reads, ReadsAs, said, AreCaptured, without_orphans, IsExtract, IsStatsOf, received, ReceptionStats, Reception}
use Rattle.pocsag_capture.proofs.CorrectedWords.{synced_two}

-- ---- corrected words read as pages

pub keeps_no_orphan : (b : Bool) (ms : List (Option Kind)) → HasNoOrphan b (without_orphans b ms)
keeps_no_orphan b [] = tt
keeps_no_orphan b (None ∷ ms) = keeps_no_orphan false ms
keeps_no_orphan b (Some Idle ∷ ms) = keeps_no_orphan false ms
keeps_no_orphan b (Some (Address high function) ∷ ms) = keeps_no_orphan true ms
keeps_no_orphan true (Some (Message bits) ∷ ms) = (refl, keeps_no_orphan true ms)
keeps_no_orphan false (Some (Message bits) ∷ ms) = keeps_no_orphan false ms

-- ---- codewords behind others, which begin no message

pub no_orphan_any : (b : Bool) (B : List Kind) → HasNoOrphan false B → HasNoOrphan b B
no_orphan_any b [] h = tt
no_orphan_any b (Idle ∷ B) h = h
no_orphan_any b (Address high function ∷ B) h = h
no_orphan_any true (Message bits ∷ B) h = (refl, h.1)
no_orphan_any false (Message bits ∷ B) h = h

pub no_orphan_join : (b : Bool) (A B : List Kind) → HasNoOrphan b A → HasNoOrphan false B → HasNoOrphan b (A ++ B)
no_orphan_join b [] B h k = no_orphan_any b B k
no_orphan_join b (Idle ∷ A) B h k = no_orphan_join false A B h k
no_orphan_join b (Address high function ∷ A) B h k = no_orphan_join true A B h k
no_orphan_join b (Message bits ∷ A) B h k = (h.0, no_orphan_join true A B h.1 k)

no_items : (B : List Kind) → HasNoOrphan false B → items_of B ≡ []
no_items [] h = refl
no_items (Idle ∷ B) h = refl
no_items (Address high function ∷ B) h = refl
no_items (Message bits ∷ B) h = absurd (cc h.0)

items_join : (A B : List Kind) → HasNoOrphan false B → items_of (A ++ B) ≡ items_of A
items_join [] B h = no_items B h
items_join (Idle ∷ A) B h = refl
items_join (Address high function ∷ A) B h = refl
items_join (Message bits ∷ A) B h = ap (λ (l : List ℕ). bits ∷ l) (items_join A B h)

pub pages_join : (i j : ℕ) (A B : List Kind) → j ≡ i + length A → HasNoOrphan false B → pages_from i (A ++ B) ≡ pages_from i A ++ pages_from j B
pages_join i j [] B e h = ap (λ (n : ℕ). pages_from n B) (omega arith)
pages_join i j (Idle ∷ A) B e h = pages_join (i + 1) j A B (omega arith) h
pages_join i j (Address high function ∷ A) B e h =
    ap₂ (λ (items : List ℕ) (ps : List Page). (record { address = 8 * high + frame_at i; function = function; payload = items }) ∷ ps)
    (items_join A B h) (pages_join (i + 1) j A B (omega arith) h)
pages_join i j (Message bits ∷ A) B e h = pages_join (i + 1) j A B (omega arith) h

-- whole batches before them change no frame
pub pages_shift : (i j : ℕ) (B : List Kind) → i % 16 ≡ j % 16 → pages_from i B ≡ pages_from j B
pages_shift i j [] e = refl
pages_shift i j (Idle ∷ B) e = pages_shift (i + 1) (j + 1) B (omega arith)
pages_shift i j (Address high function ∷ B) e =
    ap₂ (λ (n : ℕ) (ps : List Page). (record { address = 8 * high + n / 2; function = function; payload = items_of B }) ∷ ps)
    e (pages_shift (i + 1) (j + 1) B (omega arith))
pages_shift i j (Message bits ∷ B) e = pages_shift (i + 1) (j + 1) B (omega arith)

synced_shift : (i j : ℕ) (B : List ℕ) → i % 16 ≡ j % 16 → synced i B ≡ synced j B
synced_shift i j [] e = refl
synced_shift i j (w ∷ B) e =
    ap₂ (λ (n : ℕ) (l : List ℕ). (if n == 0 then sync_word ∷ [] else []) ++ w ∷ l) e (synced_shift (i + 1) (j + 1) B (omega arith))

pub body_join : (A B : List ℕ) → length A % 16 ≡ 0 → body_bytes (A ++ B) ≡ body_bytes A ++ body_bytes B
body_join A B whole =
    ap (flat_map (to_be_bytes w32)) (synced_two 0 A B) ∙ flat_map-append (to_be_bytes w32) (synced 0 A) (synced (0 + length A) B)
    ∙ ap (λ (l : List ℕ). body_bytes A ++ flat_map (to_be_bytes w32) l) (synced_shift (0 + length A) 0 B (omega arith))

-- ---- the codewords of receptions

abbrev pub pages_in : List ℕ → List Page
pages_in T = pages_from 0 (map kind_of T)

pub record IsBody (K : List ℕ) (ps : List Page) : Type 0 where
  pub are : All IsCodeword K
  pub whole : length K % 16 ≡ 0
  pub no_orphan : HasNoOrphan false (map kind_of K)
  pub pages : ps ≡ pages_in K

pub one_body : (bits : List ℕ) (h : ReceptionStats) (T : List ℕ) → IsExtract bits h T → IsBody T (pages_in T)
one_body bits h T f = record {
  are = f.are;
  whole = omega (arith, f.long);
  no_orphan = subst (HasNoOrphan false) (sym f.extracted.kinds) (keeps_no_orphan false (map said f.extracted.mended));
  pages = refl;
}

pub one_captured : (bits : List ℕ) (h : ReceptionStats) (T : List ℕ) → IsExtract bits h T → AreCaptured (received bits h.reception) (pages_in T)
one_captured bits h T f = record {
  mended = f.extracted.mended;
  each = f.extracted.each;
  holds = plain_reads (without_orphans false (map said f.extracted.mended)) 0 (pages_in T) (keeps_no_orphan false (map said f.extracted.mended))
      (ap (pages_from 0) f.extracted.kinds);
}

pub join_body : (A B : List ℕ) (ps qs : List Page) → IsBody A ps → IsBody B qs → IsBody (A ++ B) (ps ++ qs)
join_body A B ps qs f g = record {
  are = All-append IsCodeword A B f.are g.are;
  whole = omega (arith, length-append A B, f.whole, g.whole);
  no_orphan = subst (HasNoOrphan false) (sym (map-append kind_of A B)) (no_orphan_join false (map kind_of A) (map kind_of B) f.no_orphan g.no_orphan);
  pages = ap₂ (λ (a b : List Page). a ++ b) f.pages g.pages
      ∙ ap (λ (l : List Page). pages_in A ++ l) (pages_shift 0 (length (map kind_of A)) (map kind_of B) (omega (arith, length-map A kind_of, f.whole)))
      ∙ sym (pages_join 0 (length (map kind_of A)) (map kind_of A) (map kind_of B) (omega arith) g.no_orphan)
      ∙ ap (pages_from 0) (sym (map-append kind_of A B));
}

-- all of them
abbrev pub all_codewords : List (List ℕ) → List ℕ
all_codewords Ts = flat_map (λ T. T) Ts

abbrev pub all_pages : List (List ℕ) → List Page
all_pages Ts = flat_map (λ ps. ps) (map pages_in Ts)

pub all_body : (bits : List ℕ) (hs : List ReceptionStats) (Ts : List (List ℕ)) → AllZip (IsExtract bits) hs Ts → IsBody (all_codewords Ts) (all_pages Ts)
all_body bits [] [] each = record { are = All-nil IsCodeword; whole = refl; no_orphan = tt; pages = refl }
all_body bits [] (T ∷ Ts) each = absurd each
all_body bits (h ∷ hs) [] each = absurd each
all_body bits (h ∷ hs) (T ∷ Ts) each =
    join_body T (all_codewords Ts) (pages_in T) (all_pages Ts) (one_body bits h T each.0) (all_body bits hs Ts each.1)

pub all_bytes : (bits : List ℕ) (hs : List ReceptionStats) (Ts : List (List ℕ)) → AllZip (IsExtract bits) hs Ts
    → flat_map body_bytes Ts ≡ body_bytes (all_codewords Ts)
all_bytes bits [] [] each = refl
all_bytes bits [] (T ∷ Ts) each = absurd each
all_bytes bits (h ∷ hs) [] each = absurd each
all_bytes bits (h ∷ hs) (T ∷ Ts) each =
    ap (λ (l : List ℕ). body_bytes T ++ l) (all_bytes bits hs Ts each.1) ∙ sym (body_join T (all_codewords Ts) (omega (arith, each.0.long)))

pub all_captured : (bits : List ℕ) (hs : List ReceptionStats) (Ts : List (List ℕ)) → AllZip (IsExtract bits) hs Ts
    → AllZip (λ (r : Reception) (here : List Page). AreCaptured (received bits r) here) (map (λ (h : ReceptionStats). h.reception) hs) (map pages_in Ts)
all_captured bits [] [] each = tt
all_captured bits [] (T ∷ Ts) each = absurd each
all_captured bits (h ∷ hs) [] each = absurd each
all_captured bits (h ∷ hs) (T ∷ Ts) each = (one_captured bits h T each.0, all_captured bits hs Ts each.1)

pub all_told : (bits : List ℕ) (hs : List ReceptionStats) (Ts : List (List ℕ)) → AllZip (IsExtract bits) hs Ts → All (IsStatsOf bits) hs
all_told bits [] [] each = All-nil (IsStatsOf bits)
all_told bits [] (T ∷ Ts) each = absurd each
all_told bits (h ∷ hs) [] each = absurd each
all_told bits (h ∷ hs) (T ∷ Ts) each =
    All-cons (IsStatsOf bits) h hs (record { steady = each.0.steady; codewords = T; extracted = each.0.extracted }) (all_told bits hs Ts each.1)

-- a body behind a preamble
pub sent_body : (X K : List ℕ) (ps : List Page) → X ≡ replicate 72 0xaa ++ body_bytes K → 0 < length K → IsBody K ps → Sent X K
sent_body X K ps bytes some f = record {
  preamble = 72;
  long = omega arith;
  batches = length K / 16;
  whole = (omega (arith, f.whole), omega (arith, f.whole));
  codewords = f.are;
  bytes = bytes;
}

pub body_reads : (X K : List ℕ) (ps : List Page) → X ≡ replicate 72 0xaa ++ body_bytes K → 0 < length K → IsBody K ps → ReadsAs X ps
body_reads X K ps bytes some f = record {
  codewords = K;
  sent = sent_body X K ps bytes some f;
  reads = plain_reads (map kind_of K) 0 ps f.no_orphan f.pages;
}
