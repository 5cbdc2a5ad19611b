-- What a prefix of a journal is read as.
use Rattle.pocsag_journal.proofs.Prelude.{◌≡◌, ◌≢◌, ◌⊎◌, inl, inr, ℕ, List, [], ◌∷◌, ◌++◌, refl, sym, ap, ◌∙◌, subst, append_assoc, append-nil, AllByRecursion, line_feed, default_writer, row_text, Row, HasNoLineFeed, IsWholeLine, first_record, IsLine, IsRead, ReadsFirst, journal_text, rows_text}
use Rattle.pocsag_journal.proofs.TextLines.{first_line}
use Rattle.pocsag_journal.proofs.Readings.{one_reading, read_on}

-- one of two texts whose continuations are equal goes on as the other
abbrev IsCut : (xs ys us vs : List ℕ) → Type 0
IsCut xs ys us vs =
    ((ws : List ℕ) × (xs ≡ us ++ ws) × (ws ++ ys ≡ vs)) ⊎ ((ws : List ℕ) × (us ≡ xs ++ ws) × (ws ≢ []))

cut : (xs ys us vs : List ℕ) → xs ++ ys ≡ us ++ vs → IsCut xs ys us vs
cut xs ys [] vs e = inl (xs, refl, e)
cut [] ys (u ∷ us) vs e = inr (u ∷ us, refl, λ n. cc n)
cut (x ∷ xs) ys (u ∷ us) vs e =
    let same : x ≡ u = cc e in
    elim (cut xs ys us vs (cc e)) [
      | inl h ↦ inl (h.0, rw (same, h.1) refl, h.2)
      | inr h ↦ inr (h.0, rw (same, h.1) refl, h.2)
    ]

-- what is behind a list that adds up to nothing
nothing : (xs : List ℕ) (ws : List ℕ) → ws ≢ [] → xs ++ ws ≢ []
nothing [] ws n e = n e
nothing (x ∷ xs) ws n e = cc e

-- the front of a line, without its last byte, has no line feed
front : (xs ws body : List ℕ) → HasNoLineFeed body → ws ≢ [] → xs ++ ws ≡ body ++ line_feed ∷ [] → HasNoLineFeed xs
front [] ws body n m e = tt
front (x ∷ xs) ws [] n m e = absurd (nothing xs ws m (cc e))
front (x ∷ xs) ws (b ∷ body) n m e =
    let same : b ≡ x = cc e in
    (subst (λ (c : ℕ). c ≢ line_feed) same n.0, front xs ws body n.1 m (cc e))

pub short : (xs ws line : List ℕ) → IsWholeLine line → ws ≢ [] → line ≡ xs ++ ws → HasNoLineFeed xs
short xs ws line whole m e = front xs ws whole.body whole.one m (sym e ∙ whole.parts)

-- the first records of a prefix
record Firsts (rows : List Row) (bytes : List ℕ) : Type 0 where
  pub firsts : List Row
  pub left : List Row
  pub torn : List ℕ
  pub parts : rows ≡ firsts ++ left
  pub text : bytes ≡ rows_text firsts ++ torn
  pub end : HasNoLineFeed torn
  pub each : AllByRecursion IsLine firsts

firsts_of : (rows : List Row) → AllByRecursion IsLine rows → (bytes rest : List ℕ) → bytes ++ rest ≡ rows_text rows → Firsts rows bytes
unfolding rows_text
firsts_of [] each [] rest e =
    record { firsts = []; left = []; torn = []; parts = refl; text = refl; end = tt; each = tt }
firsts_of [] each (b ∷ bytes) rest e = absurd (cc e)
firsts_of (row ∷ rows) each bytes rest e = elim (cut bytes rest (row_text default_writer row) (rows_text rows) e) [
  | inl h ↦
      let more = firsts_of rows each.1 h.0 rest h.2 in
      record {
        firsts = row ∷ more.firsts;
        left = more.left;
        torn = more.torn;
        parts = rw more.parts refl;
        text = h.1 ∙ ap (λ (t : List ℕ). row_text default_writer row ++ t) more.text
            ∙ sym (append_assoc (row_text default_writer row) (rows_text more.firsts) more.torn);
        end = more.end;
        each = (each.0, more.each);
      }
  | inr h ↦
      record {
        firsts = [];
        left = row ∷ rows;
        torn = bytes;
        parts = refl;
        text = refl;
        end = short bytes h.0 (row_text default_writer row) each.0.line h.2 h.1;
        each = tt;
      }
]

-- *Any crash*
pub prefix_read : (rows : List Row) → AllByRecursion IsLine rows → (bytes rest : List ℕ) → bytes ++ rest ≡ journal_text rows → ReadsFirst bytes rows
prefix_read rows each bytes rest e = elim (cut bytes rest (row_text default_writer first_record) (rows_text rows) e) [
  | inl h ↦
      let more = firsts_of rows each h.0 rest h.2 in
      record {
        firsts = more.firsts;
        left = more.left;
        torn = more.torn;
        parts = more.parts;
        read = record {
          parts = inl
              (h.1 ∙ ap (λ (t : List ℕ). row_text default_writer first_record ++ t) more.text
              ∙ sym (append_assoc (row_text default_writer first_record) (rows_text more.firsts) more.torn));
          each = more.each;
          end = more.end;
        };
      }
  | inr h ↦
      record {
        firsts = [];
        left = rows;
        torn = bytes;
        parts = refl;
        read = record {
          parts = inr (refl, refl, (h.0, h.2, sym h.1));
          each = tt;
          end = short bytes h.0 (row_text default_writer first_record) first_line h.2 h.1;
        };
      }
]

-- the records before are among those that are read
pub acknowledged_read : (acknowledged rows : List Row) (part torn : List ℕ) → AllByRecursion IsLine acknowledged →
    IsRead (journal_text acknowledged ++ part) rows torn → (more : List Row) × (rows ≡ acknowledged ++ more)
acknowledged_read acknowledged rows part torn each read =
    let left = read_on _ acknowledged rows part torn each refl read in
    (left.left, left.parts)

pub all_more : {X : Type 0} (P : X → Type 0) (xs : List X) (x : X) → AllByRecursion P xs → P x → AllByRecursion P (xs ++ x ∷ [])
all_more P [] x each last = (last, tt)
all_more P (first ∷ xs) x each last = (each.0, all_more P xs x each.1 last)

text_more : (rows : List Row) (row : Row) → rows_text (rows ++ row ∷ []) ≡ rows_text rows ++ row_text default_writer row
unfolding rows_text
text_more [] row = append-nil (row_text default_writer row)
text_more (r ∷ rows) row =
    ap (λ (t : List ℕ). row_text default_writer r ++ t) (text_more rows row)
    ∙ sym (append_assoc (row_text default_writer r) (rows_text rows) (row_text default_writer row))

pub journal_more : (rows : List Row) (row : Row) → journal_text (rows ++ row ∷ []) ≡ journal_text rows ++ row_text default_writer row
journal_more rows row =
    ap (λ (t : List ℕ). row_text default_writer first_record ++ t) (text_more rows row)
    ∙ sym (append_assoc (row_text default_writer first_record) (rows_text rows) (row_text default_writer row))

-- and at most one more
pub one_more_read : (acknowledged rows : List Row) (row : Row) (part rest torn : List ℕ) → AllByRecursion IsLine acknowledged → IsLine row →
    part ++ rest ≡ row_text default_writer row → IsRead (journal_text acknowledged ++ part) rows torn →
    (rows ≡ acknowledged) ⊎ (rows ≡ acknowledged ++ row ∷ [])
one_more_read acknowledged rows row part [] torn each line e read =
    let whole : journal_text acknowledged ++ part ≡ journal_text (acknowledged ++ row ∷ []) ++ [] =
    ap (λ (t : List ℕ). journal_text acknowledged ++ t) (sym (append-nil part) ∙ e) ∙ sym (journal_more acknowledged row) ∙ sym (append-nil _) in
    let now : IsRead (journal_text acknowledged ++ part) (acknowledged ++ row ∷ []) [] =
    record { parts = inl whole; each = all_more IsLine acknowledged row each line; end = tt } in
    inr (one_reading _ _ rows _ torn now read).0
one_more_read acknowledged rows row part (b ∷ rest) torn each line e read =
    let now : IsRead (journal_text acknowledged ++ part) acknowledged part =
    record { parts = inl refl; each = each; end = short part (b ∷ rest) (row_text default_writer row) line.line (λ n. cc n) (sym e) } in
    inl (one_reading _ _ rows _ torn now read).0
