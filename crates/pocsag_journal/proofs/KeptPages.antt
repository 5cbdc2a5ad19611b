-- What a journal stands for once an edit more is kept.
use Rattle.pocsag_journal.proofs.Prelude.{◌≡◌, ◌≢◌, inl, inr, false, true≢false, ℕ, ◌-◌, arith, List, [], ◌∷◌, ◌++◌, length, refl, sym, ap, ◌∙◌, subst, append-nil, length-append, Some, slice_get, same_Some, decimal, default_writer, row_text, Row, Page, kind_field, whole_message, IsAdded, IsEdit, IsRefusedFor, IsRun, asked_of, wants_memory, Refusal, first_record, IsWholeLine, AddsLine, IsAdd, IsLine, ListsPages, Represents, add_record, rows_text, IsUnspelled}
use Rattle.pocsag_journal.proofs.EditRuns.{edit_once, run_on}
use Rattle.pocsag_journal.proofs.TextLines.{same_row}
use Rattle.pocsag_journal.proofs.Prefixes.{all_more, journal_more}
use Rattle.pocsag_journal.proofs.Replays.{edit_some}

pub stands_on : (text later : List ℕ) (row : Row) (before after : List Page) → Represents text before →
    IsWholeLine (row_text default_writer row) → IsEdit row before after → later ≡ text ++ row_text default_writer row → Represents later after
stands_on text later row before after stands line edit e = record {
  rows = stands.rows ++ row ∷ [];
  text = e ∙ ap (λ (t : List ℕ). t ++ row_text default_writer row) stands.text ∙ sym (journal_more stands.rows row);
  each = all_more IsLine stands.rows row stands.each (record { some = edit_some row before after edit; line = line });
  run = run_on stands.rows row [] before after stands.run edit;
}

at_end : (before : List Page) (page : Page) → slice_get (before ++ page ∷ []) (length before) ≡ Some page
at_end [] page = refl
at_end (b ∷ before) page = at_end before page

last_of : (before : List Page) (page : Page) → slice_get (before ++ page ∷ []) (length (before ++ page ∷ []) - 1) ≡ Some page
last_of before page =
    let place : length (before ++ page ∷ []) - 1 ≡ length before = rw (length-append before (page ∷ [])) (omega arith) in
    rw place (at_end before page)

-- the record of a page adds one
pub added_row : (row : Row) (page : Page) → row ≡ add_record page → IsAdd row
added_row row page e = record {
  address = decimal page.address;
  kind = kind_field page.function page.payload;
  message = whole_message page.function page.payload;
  fields = e;
}

-- the page has no line where its record is none, or is no edit of these pages
pub no_line : (row : Row) (line : List ℕ) (before : List Page) (page : Page) → row ≡ add_record page → line ≡ row_text default_writer row →
    (¬ IsWholeLine line) → IsUnspelled before page
no_line row line before page e text none adds =
    none (subst IsWholeLine (adds.text ∙ ap (row_text default_writer) (sym e) ∙ sym text) adds.one.line)

same_add : (row : Row) (before : List Page) (page : Page) (after : List Page) → row ≡ add_record page →
    AddsLine (row_text default_writer (add_record page)) before page after → IsEdit row before after
same_add row before page after e adds =
    let some : add_record page ≢ [] = λ none. cc none in
    subst (λ (r : Row). IsEdit r before after) (same_row adds.row (add_record page) adds.one.some some adds.text ∙ sym e) adds.edit

pub no_edit : (row : Row) (before : List Page) (page : Page) → row ≡ add_record page →
    ((after : List Page) → ¬ IsEdit row before after) → IsUnspelled before page
no_edit row before page e none adds = none (before ++ page ∷ []) (same_add row before page (before ++ page ∷ []) e adds)

pub not_refused : (row : Row) (pages : List Page) (why : Refusal) → IsRefusedFor row pages why → wants_memory why ≡ false →
    (after : List Page) → ¬ IsEdit row pages after
not_refused row pages why (inl wants) e after edit = true≢false (sym wants ∙ e)
not_refused row pages why (inr none) e after edit = none after edit

-- or adds another
pub no_last : (row : Row) (before after : List Page) (page : Page) → row ≡ add_record page → IsEdit row before after →
    (slice_get after (length after - 1) ≢ Some page) → IsUnspelled before page
no_last row before after page e edit other adds =
    let same = edit_once row before after (before ++ page ∷ []) edit (same_add row before page (before ++ page ∷ []) e adds) in
    other (ap (λ (ps : List Page). slice_get ps (length ps - 1)) same ∙ last_of before page)

-- an edit that adds puts a page behind the others
abbrev pub Behind : (before after : List Page) → Type 0
Behind before after = (page : Page) × (after ≡ before ++ page ∷ [])

pub added_behind : (row : Row) (before after : List Page) → IsAdd row → IsEdit row before after → Behind before after
unfolding asked_of
added_behind row before after adds edit =
    let d : IsAdded adds.address adds.kind adds.message before after = subst (λ (r : Row). IsEdit r before after) adds.fields edit in
    (d.page, d.behind)

last_is : (before after : List Page) (page other : Page) → after ≡ before ++ page ∷ [] → slice_get after (length after - 1) ≡ Some other →
    after ≡ before ++ other ∷ []
last_is before after page other e last =
    let here = subst (λ (ps : List Page). slice_get ps (length ps - 1) ≡ Some other) e last in
    let same = same_Some page other (sym (last_of before page) ∙ here) in
    e ∙ ap (λ (p : Page). before ++ p ∷ []) same

pub adds_line : (line : List ℕ) (row : Row) (before after : List Page) (page : Page) → IsAdd row → IsWholeLine line →
    line ≡ row_text default_writer row → IsEdit row before after → slice_get after (length after - 1) ≡ Some page →
    AddsLine line before page after
adds_line line row before after page adds whole e edit last =
    let behind = added_behind row before after adds edit in
    record {
      row = row;
      adds = adds;
      one = record { some = edit_some row before after edit; line = subst IsWholeLine e whole };
      text = sym e;
      edit = edit;
      behind = last_is before after behind.0 page behind.1 last;
    }

-- the first line stands for no pages
pub listed_first : (text : List ℕ) (pages : List Page) → text ≡ row_text default_writer first_record → pages ≡ [] → ListsPages text pages
unfolding IsRun rows_text
listed_first text pages e none = record {
  stands = record {
    rows = [];
    text = e ∙ sym (append-nil (row_text default_writer first_record));
    each = tt;
    run = none;
  };
  adds = tt;
}

-- and one line more for one page more
pub listed_on : (text line later : List ℕ) (before after : List Page) (page : Page) → ListsPages text before → AddsLine line before page after →
    later ≡ text ++ line → ListsPages later after
unfolding stands_on
listed_on text line later before after page listed adds e = record {
  stands = stands_on text later adds.row before after listed.stands adds.one.line adds.edit
      (e ∙ ap (λ (t : List ℕ). text ++ t) (sym adds.text));
  adds = all_more IsAdd listed.stands.rows adds.row listed.adds adds.adds;
}
