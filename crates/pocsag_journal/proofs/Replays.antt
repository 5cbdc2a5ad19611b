-- Lines that are the text of edits.
use Rattle.pocsag_journal.proofs.Prelude.{◌≡◌, ◌≢◌, ◌⊎◌, inl, inr, ℕ, ◌+◌, ◌<◌, ◌≤◌, arith, append_assoc, length, Bool, true, false, cond, List, [], ◌∷◌, ◌++◌, refl, sym, ap, ◌∙◌, subst, AllByRecursion, Option, Some, None, IsSome, codes, option_map, bytes_eq, append-nil, length-append, same_Some, bytes_eq-Decides, Read, line_feed, next_record, default_config, strip_bom, default_writer, row_text, read-write, read-write-many, Row, Page, Asked, IsDone, IsEdit, IsRefusedFor, IsRun, asked_of, cancel, sent, wants_memory, Refusal, HasNoLineFeed, IsWholeLine, first_record, IsBefore, GivesRow, IsBadLine, IsFirstCut, IsLine, MakesLine, Replays, journal_text, rows_text}
use Rattle.std.specs.Borrow.{Bor}
use Rattle.csv.specs.declared.parser.State.TheVariants as st
use Rattle.csv.specs.declared.reader.Reader.{Reader}
use Rattle.pocsag_pages.specs.Rows.{IsAtRecord}
use Rattle.pocsag_journal.proofs.Fields.{is_word}
use Rattle.pocsag_journal.proofs.EditRuns.{run_on}
use Rattle.pocsag_journal.proofs.Prefixes.{all_more, journal_more, short}
use Rattle.pocsag_journal.proofs.TextLines.{back_is, first_line}

pub is_true : (b : Bool) (asked : Asked) (before after : List Page) → IsDone (cond b (Some asked) None) before after → b ≡ true
is_true true asked before after d = refl
is_true false asked before after d = absurd d

pub edit_some : (row : Row) (before after : List Page) → IsEdit row before after → row ≢ []
unfolding asked_of
edit_some [] before after d e = d
edit_some (f ∷ row) before after d e = cc e

-- the word of an edit of two fields
pub pair_word : (w a : List ℕ) (before after : List Page) → IsEdit (w ∷ a ∷ []) before after → (w ≡ codes "cancel") ⊎ (w ≡ codes "sent")
unfolding asked_of
pair_word w a before after d = of_two (bytes_eq w (codes "cancel")) (bytes_eq w (codes "sent")) refl refl d
  where
    of_two : (b c : Bool) → bytes_eq w (codes "cancel") ≡ b → bytes_eq w (codes "sent") ≡ c →
        IsDone (cond b (Some (cancel a)) (cond c (Some (sent a)) None)) before after → (w ≡ codes "cancel") ⊎ (w ≡ codes "sent")
    of_two true c e f d = inl (is_word w (codes "cancel") e)
    of_two false true e f d = inr (is_word w (codes "sent") f)
    of_two false false e f d = absurd d

-- behind the text of an edit, the reader has read its record, and no more
pub edit_is_read : (row : Row) (before after : List Page) (rest : List ℕ) → IsEdit row before after →
    next_record default_config st.StartRecord [] [] (row_text default_writer row ++ rest) ≡ Some (row, st.StartRecord, rest)
edit_is_read row before after rest d = rw (back_is row (edit_some row before after d)) at (read-write row rest)

line_read : (line : List ℕ) (row : Row) (before after : List Page) (rest : List ℕ) → row_text default_writer row ≡ line →
    IsEdit row before after → next_record default_config st.StartRecord [] [] (line ++ rest) ≡ Some (row, st.StartRecord, rest)
line_read line row before after rest e d =
    subst (λ (l : List ℕ). next_record default_config st.StartRecord [] [] (l ++ rest) ≡ Some (row, st.StartRecord, rest)) e
    (edit_is_read row before after rest d)

-- a line that is the text of an edit is read as that
read_is : (line rest : List ℕ) (read : Row) (taker : Reader (Bor (List ℕ))) → GivesRow (Some read) (line ++ rest) taker →
    (row : Row) (before after : List Page) → row_text default_writer row ≡ line → IsEdit row before after → read ≡ row
read_is line rest read taker t row before after e d =
    t.2 ∙ ap (λ (r : Read). r.0) (same_Some t.0 (row, st.StartRecord, rest) (sym t.1 ∙ line_read line row before after rest e d))

pub none_made : (line rest : List ℕ) (taker : Reader (Bor (List ℕ))) (before after : List Page) → GivesRow None (line ++ rest) taker →
    MakesLine false line before after
none_made line rest taker before after t = λ row other text d. cc (sym t ∙ line_read line row before other rest text d)

same_bytes : (line : List ℕ) → bytes_eq line line ≡ true
same_bytes line = (bytes_eq-Decides line line).1 refl

pub other_text : (line rest : List ℕ) (read : Row) (taker : Reader (Bor (List ℕ))) (before after : List Page) →
    GivesRow (Some read) (line ++ rest) taker → bytes_eq (row_text default_writer read) line ≡ false → MakesLine false line before after
other_text line rest read taker before after t n = λ row other text d.
    let same = read_is line rest read taker t row before other text d in
    let is : row_text default_writer read ≡ line = ap (λ (r : Row). row_text default_writer r) same ∙ text in
    let yes : bytes_eq (row_text default_writer read) line ≡ true = rw is (same_bytes line) in
    cc (sym yes ∙ n)

pub edit_refused : (line rest : List ℕ) (read : Row) (taker : Reader (Bor (List ℕ))) (before after : List Page) (why : Refusal) →
    GivesRow (Some read) (line ++ rest) taker → IsRefusedFor read before why → wants_memory why ≡ false → MakesLine false line before after
edit_refused line rest read taker before after why t refused n = λ row other text d.
    let same = read_is line rest read taker t row before other text d in
    elim refused [
      | inl memory ↦ cc (sym memory ∙ n)
      | inr none ↦ none other (subst (λ (r : Row). IsEdit r before other) (sym same) d)
    ]

pub edit_made : (line : List ℕ) (read : Row) (before after : List Page) → bytes_eq (row_text default_writer read) line ≡ true →
    IsEdit read before after → MakesLine true line before after
edit_made line read before after t d = (read, edit_some read before after d, is_word _ _ t, d)

-- behind an edit that was made, the reader stands before the next line
pub behind_edit : (line rest : List ℕ) (read : Row) (taker : Reader (Bor (List ℕ))) (before after : List Page) →
    GivesRow (Some read) (line ++ rest) taker → bytes_eq (row_text default_writer read) line ≡ true → IsEdit read before after →
    IsBefore taker rest
behind_edit line rest read taker before after t text d =
    let same = same_Some t.0 (read, st.StartRecord, rest) (sym t.1 ∙ line_read line read before after rest (is_word _ _ text) d) in
    record {
      state = t.3 ∙ ap (λ (r : Read). r.1) same;
      source = t.4 ∙ ap (λ (r : Read). Some r.2) same;
    }

-- the lines so far were made
pub record Made (bytes rest : List ℕ) (edits : ℕ) (pages : List Page) : Type 0 where
  pub rows : List Row
  pub text : bytes ≡ journal_text rows ++ rest
  pub each : AllByRecursion IsLine rows
  pub run : IsRun rows [] pages
  pub as_many : edits ≡ length rows
  pub few : edits + length rest ≤ length bytes

-- they were made, and the reader stands behind them
pub record Replaying (taker : Reader (Bor (List ℕ))) (bytes rest : List ℕ) (edits : ℕ) (pages : List Page) : Type 0 where
  pub made : Made bytes rest edits pages
  pub stands : IsAtRecord taker
  pub before : IsBefore taker rest

-- the first record is read of its line
pub first_is_read : (rest : List ℕ) →
    next_record default_config st.StartRecord [] [] (row_text default_writer first_record ++ rest) ≡ Some (first_record, st.StartRecord, rest)
first_is_read rest = read-write-many (codes "pocsag journal") (codes "1") [] rest

-- whose text begins with no byte order mark
pub first_plain : (rest : List ℕ) → strip_bom (row_text default_writer first_record ++ rest) ≡ row_text default_writer first_record ++ rest
unfolding strip_bom
first_plain rest = refl

-- a reader of a journal stands before its first line
pub before_first : (bytes rest : List ℕ) (taker : Reader (Bor (List ℕ))) → bytes ≡ row_text default_writer first_record ++ rest →
    IsBefore taker (strip_bom bytes) → IsBefore taker bytes
before_first bytes rest taker e before = subst (IsBefore taker) (ap strip_bom e ∙ first_plain rest ∙ sym e) before

-- and then before the edits
pub behind_first : {A : Type 0} (f : A → Row) (bytes rest : List ℕ) (o : Option A) (taker : Reader (Bor (List ℕ))) →
    bytes ≡ row_text default_writer first_record ++ rest → GivesRow (option_map f o) bytes taker → (IsSome o → IsAtRecord taker) →
    IsAtRecord taker × IsBefore taker rest
behind_first f bytes rest None taker e t at = cc (sym t ∙ ap (next_record default_config st.StartRecord [] []) e ∙ first_is_read rest)
behind_first f bytes rest (Some row) taker e t at =
    let same = same_Some t.0 (first_record, st.StartRecord, rest)
    (sym t.1 ∙ ap (next_record default_config st.StartRecord [] []) e ∙ first_is_read rest) in
    (at refl, record { state = t.3 ∙ ap (λ (r : Read). r.1) same; source = t.4 ∙ ap (λ (r : Read). Some r.2) same })

pub nothing_read : (bytes : List ℕ) (pages : List Page) → pages ≡ [] → IsFirstCut bytes → Replays bytes 0 (length bytes) pages
unfolding IsRun
nothing_read bytes pages e n = record {
  rows = [];
  rest = bytes;
  read = record {
    parts = inr (refl, refl, n);
    each = tt;
    end = short bytes n.0 (row_text default_writer first_record) first_line n.1 (sym n.2);
  };
  run = e;
  as_many = refl;
  cut = refl;
}

pub made_first : (bytes rest : List ℕ) (pages : List Page) → bytes ≡ row_text default_writer first_record ++ rest → pages ≡ [] →
    Made bytes rest 0 pages
unfolding IsRun rows_text
made_first bytes rest pages e p =
    record {
      rows = [];
      text = e ∙ ap (λ (l : List ℕ). l ++ rest) (sym (append-nil (row_text default_writer first_record)));
      each = tt;
      run = p;
      as_many = refl;
      few = rw (e, length-append (row_text default_writer first_record) rest) (omega arith);
    }

some_bytes : (line : List ℕ) → IsWholeLine line → 1 ≤ length line
some_bytes line whole = rw (whole.parts, length-append whole.body (line_feed ∷ [])) (omega arith)

pub made_on : (bytes rest line behind : List ℕ) (edits : ℕ) (before after : List Page) → Made bytes rest edits before → rest ≡ line ++ behind →
    IsWholeLine line → MakesLine true line before after → Made bytes behind (edits + 1) after
made_on bytes rest line behind edits before after made e whole m =
    let here : IsLine m.0 = record { some = m.1; line = subst IsWholeLine (sym m.2) whole } in
    let most : length rest ≡ length line + length behind = ap length e ∙ length-append line behind in
    let least = some_bytes line whole in
    let so_far = made.few in
    record {
      rows = made.rows ++ m.0 ∷ [];
      text = made.text ∙ ap (λ (t : List ℕ). journal_text made.rows ++ t) (e ∙ ap (λ (l : List ℕ). l ++ behind) (sym m.2))
          ∙ sym (append_assoc (journal_text made.rows) (row_text default_writer m.0) behind)
          ∙ ap (λ (t : List ℕ). t ++ behind) (sym (journal_more made.rows m.0));
      each = all_more IsLine made.rows m.0 made.each here;
      run = run_on made.rows m.0 [] before after made.run m.3;
      as_many = rw (length-append made.rows (m.0 ∷ []), made.as_many) refl;
      few = omega (arith, most, least, so_far);
    }

pub shorter : (rest line behind : List ℕ) → rest ≡ line ++ behind → IsWholeLine line → length behind < length rest
shorter rest line behind e whole =
    let least = some_bytes line whole in
    rw (e, length-append line behind) (omega (arith, least))

pub made_end : (bytes rest : List ℕ) (edits : ℕ) (pages : List Page) → Made bytes rest edits pages → HasNoLineFeed rest →
    Replays bytes edits (length rest) pages
made_end bytes rest edits pages made n = record {
  rows = made.rows;
  rest = rest;
  read = record { parts = inl made.text; each = made.each; end = n };
  run = made.run;
  as_many = made.as_many;
  cut = refl;
}

pub made_bad : (bytes rest line behind : List ℕ) (edits : ℕ) (before after : List Page) → Made bytes rest edits before → rest ≡ line ++ behind →
    IsWholeLine line → MakesLine false line before after → IsBadLine bytes (edits + 2)
made_bad bytes rest line behind edits before after made e whole m =
    record {
      rows = made.rows;
      pages = before;
      line = line;
      rest = behind;
      each = made.each;
      run = made.run;
      whole = whole;
      parts = made.text ∙ ap (λ (t : List ℕ). journal_text made.rows ++ t) e ∙ sym (append_assoc (journal_text made.rows) line behind);
      bad = m;
      place = ap (λ (n : ℕ). n + 2) made.as_many;
    }
