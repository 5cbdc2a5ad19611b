-- What is read of a journal behind which a line was being written, and of one that is written anew.
use Rattle.pocsag_journal.proofs.Prelude.{◌≡◌, ◌⊎◌, inl, inr, ⊎_elim, ℕ, ◌+◌, ◌*◌, ◌≤◌, List, [], ◌∷◌, ◌++◌, length, drop, arith, sym, ap, ◌∙◌, subst, take-append-drop, AllByRecursion, default_writer, fields_text, is_blank, row_text, Row, Page, ReadsAsEither, Elapses, LeavesOnly, IsEdit, IsRun, first_record, HasNoLineFeed, IsWholeLine, IsTorn, RestartsAs, kept_line_limit, IsAdd, ListsPages, Represents, journal_limit, rows_text, IsHeld, disk_of}
use Rattle.std.proofs.Common.{append-nil, length-append}
use Rattle.pocsag_journal.proofs.Moments.{goes_on, started}
use Rattle.pocsag_journal.specs.Restarts.{held_restarts, restarts}
use Rattle.pocsag_journal.specs.declared.journal.Journal.{Journal}
use Rattle.pocsag_journal.proofs.LineLengths.{line_length}
use Rattle.pocsag_journal.proofs.Prefixes.{short}
use Rattle.pocsag_journal.proofs.KeptPages.{added_behind, stands_on}

-- a torn end is passed over
passed_over : (held left part : List ℕ) (pages : List Page) → Represents held pages → left ≡ held ++ part → HasNoLineFeed part →
    length left ≤ journal_limit → RestartsAs left pages
passed_over held left part pages stands e none few = record {
  rows = stands.rows;
  torn = part;
  read = record { parts = inl (e ∙ ap (λ (t : List ℕ). t ++ part) stands.text); each = stands.each; end = none };
  run = stands.run;
  few = few;
}

-- a front of a line is all of it, or has no line feed
front_reads : (held line left part rest : List ℕ) (row : Row) (before after : List Page) → Represents held before →
    line ≡ row_text default_writer row → IsWholeLine line → IsEdit row before after → left ≡ held ++ part → line ≡ part ++ rest →
    length left ≤ journal_limit → ReadsAsEither RestartsAs before after left
front_reads held line left part [] row before after stands text whole edit e cut few =
    let all : left ≡ held ++ row_text default_writer row =
    e ∙ ap (λ (t : List ℕ). held ++ t) (sym (append-nil part) ∙ sym cut ∙ text) in
    inr (restarts left after (stands_on held left row before after stands (subst IsWholeLine text whole) edit all) few)
front_reads held line left part (b ∷ rest) row before after stands text whole edit e cut few =
    inl (passed_over held left part before stands e (short part (b ∷ rest) line whole (λ n. cc n) cut) few)

-- whatever a crash leaves of a line that was being written: the pages before its edit are read, or those after it
pub torn_reads : (held line left : List ℕ) (row : Row) (before after : List Page) → Represents held before →
    line ≡ row_text default_writer row → IsWholeLine line → IsEdit row before after → length held + length line ≤ journal_limit →
    IsTorn line held left → ReadsAsEither RestartsAs before after left
torn_reads held line left row before after stands text whole edit fits torn =
    let long : length left ≡ length held + length torn.part = ap length torn.parts ∙ length-append held torn.part in
    let few : length left ≤ journal_limit = omega (arith, long, fits, torn.few) in
    elim torn.kind [
      | inl front ↦
          let n = length torn.part in
          let cut : line ≡ torn.part ++ drop n line =
          sym (take-append-drop n line) ∙ ap (λ (t : List ℕ). t ++ drop n line) (sym front) in
          front_reads held line left torn.part (drop n line) row before after stands text whole edit torn.parts cut few
      | inr none ↦ inl (passed_over held left torn.part before stands torn.parts none few)
    ]

-- edits that add make a page each
adds_count : (rows : List Row) (before after : List Page) → AllByRecursion IsAdd rows → IsRun rows before after →
    length after ≡ length before + length rows
unfolding IsRun
adds_count [] before after adds run = rw run (omega arith)
adds_count (row ∷ rows) before after adds run =
    let behind = added_behind row before run.0 adds.0 run.1 in
    let one : length run.0 ≡ length before + 1 = ap length behind.1 ∙ length-append before (behind.0 ∷ []) in
    let more = adds_count rows run.0 after adds.1 run.2 in
    omega (arith, one, more)

run_length : (rows : List Row) (before after : List Page) → IsRun rows before after → length (rows_text rows) ≤ kept_line_limit * length rows
unfolding IsRun rows_text
run_length [] before after run = omega arith
run_length (row ∷ rows) before after run =
    let one = line_length row before run.0 run.1 in
    let more = run_length rows run.0 after run.2 in
    let both = length-append (row_text default_writer row) (rows_text rows) in
    omega (arith, one, more, both)

first_length : length (row_text default_writer first_record) ≤ kept_line_limit
unfolding fields_text is_blank
first_length = omega arith

-- a text that adds the pages of a round can be read
pub listed_short : (text : List ℕ) (pages : List Page) → ListsPages text pages → length pages ≤ 20000 → length text ≤ journal_limit
listed_short text pages listed few =
    let rows = listed.stands.rows in
    let count = adds_count rows [] pages listed.adds listed.stands.run in
    let lines = run_length rows [] pages listed.stands.run in
    let long : length text ≡ length (row_text default_writer first_record) + length (rows_text rows) =
    ap length listed.stands.text ∙ length-append (row_text default_writer first_record) (rows_text rows) in
    omega (arith, count, lines, long, first_length, few)

pub listed_restarts : (text : List ℕ) (pages : List Page) → ListsPages text pages → length pages ≤ 20000 → RestartsAs text pages
listed_restarts text pages listed few = restarts text pages listed.stands (listed_short text pages listed few)

module _ {D : Type 0} (moment : D → ℕ) (left_since : D → ℕ → List ℕ → Type 0) (held : D → List ℕ) (may_leave : D → List ℕ → Type 0) where
  -- what a crash leaves of a disk it leaves of the journal on it
  pub on_journal : (old new : Journal D) (Holds : List ℕ → Type 0) → LeavesOnly moment left_since (disk_of old) (disk_of new) Holds →
      LeavesOnly (λ (journal : Journal D). moment (disk_of journal)) (λ (journal : Journal D). left_since (disk_of journal)) old new Holds
  on_journal old new Holds all = record { later = all.later; each = all.each; before = all.before }

  -- before it is written to
  pub unwritten : (journal : Journal D) (pages : List Page) (Holds : List ℕ → Type 0) →
      ((left : List ℕ) → left_since (disk_of journal) (moment (disk_of journal)) left → may_leave (disk_of journal) left) →
      IsHeld journal (held (disk_of journal)) (may_leave (disk_of journal)) pages → ((left : List ℕ) → RestartsAs left pages → Holds left) →
      LeavesOnly moment left_since (disk_of journal) (disk_of journal) Holds
  unwritten journal pages Holds only held_is f =
      started moment left_since (disk_of journal) Holds
      (λ left since. f left (held_restarts journal (held (disk_of journal)) (may_leave (disk_of journal)) pages left held_is (only left since)))

  -- from what a crash may have left before on
  pub put_anew : (disk new : D) (text : List ℕ) (pages : List Page) →
      ((left : List ℕ) → left_since disk (moment disk) left → may_leave disk left) → ListsPages text pages → length pages ≤ 20000 →
      ((left : List ℕ) → may_leave new left → may_leave disk left ⊎ (left ≡ text)) → Elapses (moment disk) (moment new) (left_since disk) (left_since new) (may_leave new) →
      LeavesOnly moment left_since disk new (λ left. may_leave disk left ⊎ RestartsAs left pages)
  put_anew disk new text pages only listed few leaves time =
      goes_on moment left_since disk disk new (λ left. may_leave disk left ⊎ RestartsAs left pages) (may_leave new)
      (started moment left_since disk (λ left. may_leave disk left ⊎ RestartsAs left pages) (λ left since. inl (only left since))) time
      (λ left now.
      ⊎_elim (λ was. inl was) (λ same. inr (subst (λ (bytes : List ℕ). RestartsAs bytes pages) (sym same) (listed_restarts text pages listed few)))
      (leaves left now))
