-- What bytes are read as.
use Rattle.pocsag_journal.proofs.Prelude.{◌≡◌, inl, inr, ℕ, List, [], ◌∷◌, ◌++◌, refl, sym, ap, ◌∙◌, subst, append_assoc, append-nil, AllByRecursion, default_writer, row_text, Row, Page, IsEdit, IsRun, HasNoLineFeed, IsWholeLine, first_record, IsBadLine, IsBegun, IsLine, IsRead, journal_text, rows_text}
use Rattle.pocsag_journal.proofs.EditRuns.{run_once, run_parts}
use Rattle.pocsag_journal.proofs.TextLines.{Left, align, first_line, no_whole_line, same_line}

-- the first line in front of two equal texts
behind_first : (done rows : List Row) (rest torn : List ℕ) → journal_text done ++ rest ≡ journal_text rows ++ torn →
    rows_text done ++ rest ≡ rows_text rows ++ torn
behind_first done rows rest torn e =
    (same_line (row_text default_writer first_record) (row_text default_writer first_record) (rows_text done ++ rest) (rows_text rows ++ torn) first_line first_line
    (sym (append_assoc (row_text default_writer first_record) (rows_text done) rest) ∙ e ∙ append_assoc (row_text default_writer first_record) (rows_text rows) torn)).1

-- bytes that begin with the text of records read as these and more
pub read_on : (bytes : List ℕ) (done rows : List Row) (rest torn : List ℕ) → AllByRecursion IsLine done → bytes ≡ journal_text done ++ rest →
    IsRead bytes rows torn → Left done rows rest torn
read_on bytes done rows rest torn each e read = elim read.parts [
  | inl whole ↦ align done rows rest torn each read.each read.end (behind_first done rows rest torn (sym e ∙ whole))
  | inr none ↦
      absurd (no_whole_line (row_text default_writer first_record) (rows_text done ++ rest) torn first_line read.end
      (sym (append_assoc (row_text default_writer first_record) (rows_text done) rest) ∙ sym e ∙ none.1))
]

-- where nothing but an end without a line feed is left, there are no more records
no_more : (left : List Row) (rest torn : List ℕ) → HasNoLineFeed rest → rest ≡ rows_text left ++ torn → AllByRecursion IsLine left →
    (left ≡ []) × (rest ≡ torn)
unfolding rows_text
no_more [] rest torn n e each = (refl, e)
no_more (r ∷ left) rest torn n e each =
    absurd (no_whole_line (row_text default_writer r) (rows_text left ++ torn) rest each.0.line n
    (sym (append_assoc (row_text default_writer r) (rows_text left) torn) ∙ sym e))

-- what is read is one list of records
pub one_reading : (bytes : List ℕ) (rows others : List Row) (torn rest : List ℕ) → IsRead bytes rows torn → IsRead bytes others rest →
    (others ≡ rows) × (rest ≡ torn)
one_reading bytes rows others torn rest read other = elim read.parts [
  | inl whole ↦
      let more = read_on bytes rows others torn rest read.each whole other in
      let over = no_more more.left torn rest read.end more.text more.each in
      (more.parts ∙ ap (λ (l : List Row). rows ++ l) over.0 ∙ append-nil rows, sym over.1)
  | inr none ↦ elim other.parts [
    | inl whole ↦
        absurd (no_whole_line (row_text default_writer first_record) (rows_text others ++ rest) torn first_line read.end
        (sym (append_assoc (row_text default_writer first_record) (rows_text others) rest) ∙ sym whole ∙ none.1))
    | inr also ↦ (also.0 ∙ sym none.0, sym also.1 ∙ none.1)
  ]
]

-- a line that is left is the first of the records that are left
next_record_of : (line rest torn : List ℕ) (left : List Row) → IsWholeLine line → line ++ rest ≡ rows_text left ++ torn → HasNoLineFeed torn →
    AllByRecursion IsLine left → (row : Row) × (more : List Row) × (left ≡ row ∷ more) × (row_text default_writer row ≡ line)
unfolding rows_text
next_record_of line rest torn [] whole e n each = absurd (no_whole_line line rest torn whole n e)
next_record_of line rest torn (row ∷ more) whole e n each =
    let h = same_line line (row_text default_writer row) rest (rows_text more ++ torn) whole each.0.line
    (e ∙ append_assoc (row_text default_writer row) (rows_text more) torn) in
    (row, more, refl, sym h.0)

-- what is read begins as a journal
pub begun : (bytes : List ℕ) (rows : List Row) (torn : List ℕ) → IsRead bytes rows torn → IsBegun bytes
begun bytes rows torn read = elim read.parts [
  | inl whole ↦ inl (rows_text rows ++ torn, whole ∙ append_assoc (row_text default_writer first_record) (rows_text rows) torn)
  | inr none ↦ inr none.2
]

-- a bad line is in no journal of a run
pub no_bad_line : (bytes : List ℕ) (n : ℕ) → IsBadLine bytes n → (rows : List Row) (torn : List ℕ) (pages : List Page) →
    IsRead bytes rows torn → IsRun rows [] pages → ⊥
unfolding IsRun
no_bad_line bytes n b rows torn pages read run =
    let done = b.rows in
    let more = read_on bytes done rows (b.line ++ b.rest) torn b.each (b.parts ∙ append_assoc (journal_text done) b.line b.rest) read in
    let next = next_record_of b.line b.rest torn more.left b.whole more.text read.end more.each in
    let all : IsRun (done ++ more.left) [] pages = subst (λ (l : List Row). IsRun l [] pages) more.parts run in
    let parts = run_parts done more.left [] pages all in
    let here_is = run_once done [] parts.0 b.pages parts.1 b.run in
    let on : IsRun (next.0 ∷ next.1) parts.0 pages = subst (λ (l : List Row). IsRun l parts.0 pages) next.2 parts.2 in
    b.bad next.0 on.0 next.3 (subst (λ (p : List Page). IsEdit next.0 p on.0) here_is on.1)
