-- File order: that it is legal, that there is one, and no other.
use Rattle.pocsag_batch.proofs.Prelude.{◌≡◌, ℕ, zero, suc, ◌+◌, ◌-◌, ◌*◌, ◌/◌, ◌%◌, ◌<◌, ◌≤◌, List, [], ◌∷◌, ◌++◌, length, map, replicate, refl, sym, ap, subst, ◌∙◌, arith, inl, inr, cases_eq, length-map, length-replicate, Kind, Page, page_words, page_length, IsLegalFor, IsLeastFrom, IsInFrame, IsWhole, InOrder, at_end, past_page, IsFileOrder, length-append, All-contains_itself, Idle, Message, Open}
use Rattle.pocsag_pages.specs.Reading.{Reads, at_end as no_words, past_idle, past_page as page_read, BeginsNoMessage, frame_at}
use Rattle.pocsag_pages.proofs.Readings.{reads_at}

reads_idles : (gap i : ℕ) (ws : List Kind) (ps : List Page) → Reads ws (i + gap) ps → Reads (replicate gap Idle ++ ws) i ps
reads_idles zero i ws ps r = reads_at ws ps (i + 0) i (omega arith) r
reads_idles (suc gap) i ws ps r = past_idle (reads_idles gap (i + 1) ws ps (reads_at ws ps (i + suc gap) (i + 1 + gap) (omega arith) r))

reads_all_idles : (gap i : ℕ) → Reads (replicate gap Idle) i []
reads_all_idles zero i = no_words
reads_all_idles (suc gap) i = past_idle (reads_all_idles gap (i + 1))

idles_begin : (gap : ℕ) (ws : List Kind) → BeginsNoMessage ws → BeginsNoMessage (replicate gap Idle ++ ws)
idles_begin zero ws b = b
idles_begin (suc gap) ws b = tt

all_idles_begin : (gap : ℕ) → BeginsNoMessage (replicate gap Idle)
all_idles_begin zero = tt
all_idles_begin (suc gap) = tt

pub begins : {i : ℕ} {R : List Page} {ws : List Kind} → InOrder i R ws → BeginsNoMessage ws
begins (at_end gap least is) = rw is (all_idles_begin gap)
begins (past_page {p = p} gap rest least is left) =
    rw is (idles_begin gap (page_words p ++ rest) tt)

page_at : (p : Page) (i : ℕ) → frame_at i ≡ p.address % 8 →
    (let q : Page = record { address = 8 * (p.address / 8) + frame_at i; function = p.function; payload = p.payload } in q) ≡ p
page_at p i e =
    let a : 8 * (p.address / 8) + frame_at i ≡ p.address = omega arith in
    ap (λ n. let q : Page = record { address = n; function = p.function; payload = p.payload } in q) a

pub reads_in_order : {i : ℕ} {R : List Page} {ws : List Kind} → InOrder i R ws → Reads ws i R
reads_in_order {i = i} (at_end gap least is) =
    subst (λ v. Reads v i []) (sym is) (reads_all_idles gap i)
reads_in_order {i = i} (past_page {p = p} {R = R} gap rest least is left) =
    let here : Reads (page_words p ++ rest) (i + gap) (p ∷ R) =
    subst (λ q. Reads (page_words p ++ rest) (i + gap) (q ∷ R)) (page_at p (i + gap) least.fit)
    (page_read p.payload rest refl (begins left)
    (reads_at rest R (i + gap + page_length p) (i + gap + 1 + length p.payload) (omega arith) (reads_in_order left))) in
    subst (λ v. Reads v i (p ∷ R)) (sym is) (reads_idles gap i (page_words p ++ rest) (p ∷ R) here)

pub page_words_long : (p : Page) → length (page_words p) ≡ page_length p
page_words_long p = let e : length (map Message p.payload) ≡ length p.payload = length-map p.payload Message in omega arith

placed_length : (gap : ℕ) (p : Page) (rest : List Kind) →
    length (replicate gap Idle ++ (page_words p ++ rest)) ≡ gap + page_length p + length rest
placed_length gap p rest =
    omega (
      arith,
      length-append (replicate gap Idle) (page_words p ++ rest),
      length-append (page_words p) rest,
      length-replicate gap Idle,
      length-map p.payload Message,
    )

pub whole_in_order : {i : ℕ} {R : List Page} {ws : List Kind} → InOrder i R ws → (i + length ws) % 16 ≡ 0
whole_in_order {i = i} (at_end gap least is) =
    let long : length (replicate gap Idle) ≡ gap = length-replicate gap Idle in
    subst (λ v. (i + length v) % 16 ≡ 0) (sym is)
    (subst (λ n. (i + n) % 16 ≡ 0) (sym long) least.fit)
whole_in_order {i = i} (past_page {p = p} gap rest least is left) =
    let whole : (i + gap + page_length p + length rest) % 16 ≡ 0 = whole_in_order left in
    let long : length (replicate gap Idle ++ (page_words p ++ rest)) ≡ gap + page_length p + length rest = placed_length gap p rest in
    subst (λ v. (i + length v) % 16 ≡ 0) (sym is)
    (subst (λ n. (i + n) % 16 ≡ 0) (sym long) (subst (λ n. n % 16 ≡ 0) (omega arith) whole))

pub some_words : {i : ℕ} {p : Page} {R : List Page} {ws : List Kind} → InOrder i (p ∷ R) ws → 0 < length ws
some_words (past_page {p = p} gap rest least is left) =
    let long : length (replicate gap Idle ++ (page_words p ++ rest)) ≡ gap + page_length p + length rest = placed_length gap p rest in
    rw is (omega arith)

pub legal_in_order : (R : List Page) (T : List Kind) → 0 < length R → IsFileOrder R T → IsLegalFor Open T (length T / 16) R
legal_in_order [] T some f = absurd (omega arith)
legal_in_order (p ∷ R) T some f =
    let whole : (0 + length T) % 16 ≡ 0 = whole_in_order f in
    let long : 0 < length T = some_words f in (
      record {
        whole = (omega arith, omega arith);
        ps = p ∷ R;
        reads = reads_in_order f;
        as_many = refl;
        each = All-contains_itself (p ∷ R);
      },
      tt,
    )

one_gap : {i : ℕ} {P : ℕ → Type 0} (a b : ℕ) → IsLeastFrom i P (i + a) → IsLeastFrom i P (i + b) → a ≡ b
one_gap {i = i} a b first second =
    let l : i + a ≤ i + b = first.least (i + b) second.after second.fit in
    let r : i + b ≤ i + a = second.least (i + a) first.after first.fit in
    omega arith

pub one_file_order : {i : ℕ} {R : List Page} {ws vs : List Kind} → InOrder i R ws → InOrder i R vs → ws ≡ vs
one_file_order {i = i} (at_end gap least is) (at_end gap' least' is') =
    let same : gap ≡ gap' = one_gap gap gap' least least' in
    is ∙ (ap (λ n. replicate n Idle) same ∙ sym is')
one_file_order {i = i} (past_page {p = p} {R = R} gap rest least is left) (past_page gap' rest' least' is' left') =
    let same : gap ≡ gap' = one_gap gap gap' least least' in
    let moved : InOrder (i + gap + page_length p) R rest' =
    rw same left' in
    let rests : rest ≡ rest' = one_file_order left moved in
    let tails : page_words p ++ rest ≡ page_words p ++ rest' = ap (λ v. page_words p ++ v) rests in
    let gaps : replicate gap Idle ≡ replicate gap' Idle = ap (λ n. replicate n Idle) same in
    is ∙ (ap (λ v. replicate gap Idle ++ v) tails
    ∙ (ap (λ v. v ++ (page_words p ++ rest')) gaps ∙ sym is'))

-- the gap up to the least index of the frame, and up to whole batches
record HasLeast (i : ℕ) (IsFit : ℕ → Type 0) : Type 0 where
  gap : ℕ
  least : IsLeastFrom i IsFit (i + gap)

some_frame : (i frame : ℕ) → frame < 8 → HasLeast i (IsInFrame frame)
some_frame i frame small =
    elim (cases_eq (i % 16 / 2) frame) [
      | inl same ↦ record { gap = 0; least = record { after = omega arith; fit = omega arith; least = λ j after fit. omega arith } }
      | inr other ↦ record {
        gap = (2 * frame + 16 - i % 16) % 16;
        least = record { after = omega arith; fit = omega arith; least = λ j after fit. omega arith };
      }
    ]

some_whole : (i : ℕ) → HasLeast i IsWhole
some_whole i = record {
  gap = (16 - i % 16) % 16;
  least = record { after = omega arith; fit = omega arith; least = λ j after fit. omega arith };
}

pub record HasFileOrder (i : ℕ) (R : List Page) : Type 0 where
  pub words : List Kind
  pub order : InOrder i R words

pub some_file_order : (R : List Page) (i : ℕ) → HasFileOrder i R
some_file_order [] i = let w = some_whole i in record { words = replicate w.gap Idle; order = at_end w.gap w.least refl }
some_file_order (p ∷ R) i =
    let g = some_frame i (p.address % 8) (omega arith) in
    let left = some_file_order R (i + g.gap + page_length p) in
    record {
      words = replicate g.gap Idle ++ (page_words p ++ left.words);
      order = past_page g.gap left.words g.least refl left.order;
    }

-- a list of this length is what stands before index i and the rest in order
pub record HasLeft (i : ℕ) (R : List Page) (n : ℕ) : Type 0 where
  pub rest : List Kind
  pub order : InOrder i R rest
  pub long : n ≡ i + length rest

-- the next page takes the least place for it
pub left_step : (i gap n : ℕ) (p : Page) (R : List Page) → IsLeastFrom i (IsInFrame (p.address % 8)) (i + gap) → HasLeft i (p ∷ R) n
    → HasLeft (i + gap + page_length p) R n
left_step i gap n p R least h = step h.order
  where
    step : InOrder i (p ∷ R) h.rest → HasLeft (i + gap + page_length p) R n
    step (past_page gap' rest least' is left) =
        let same : gap' ≡ gap = one_gap gap' gap least' least in
        let long : length h.rest ≡ gap' + page_length p + length rest = ap length is ∙ placed_length gap' p rest in
        record {
          rest = rest;
          order = rw (← same) left;
          long = omega (arith, h.long);
        }
