-- A record is one line exactly where none of its fields has a line feed.
use Rattle.pocsag_journal.proofs.Prelude.{◌≡◌, ◌≢◌, ℕ, ◌==◌, Bool, cond, inl, inr, List, [], ◌∷◌, ◌++◌, refl, sym, ◌∙◌, subst, arith, append_assoc, AllByRecursion, cases_Bool, append_cancel_right, line_feed, default_writer, escaped, field_text, fields_text, is_blank, needs_quotes, quoted, row_body, row_text, Row, IsLine, HasNoLineFeed}
use Rattle.std.proofs.Common.{append-nil}
use Rattle.pocsag_pages.specs.RecordTexts.{IsFieldText, IsRowText}
use Rattle.pocsag_pages.specs.RecordTexts.IsFieldText.{bare, between_quotes}
use Rattle.pocsag_pages.specs.RecordTexts.IsRowText.{before, last}

-- what csv writes for a record is its text
field_spelled : (f : List ℕ) → IsFieldText f (field_text default_writer f)
field_spelled f = elim (cases_Bool (needs_quotes default_writer f)) [
  | inl quotes ↦ subst (λ (b : Bool). IsFieldText f (cond b (quoted default_writer f) f)) (sym quotes) between_quotes
  | inr none ↦ subst (λ (b : Bool). IsFieldText f (cond b (quoted default_writer f) f)) (sym none) (bare none)
]

pub row_spelled : (f : List ℕ) (rest : Row) → IsRowText (f ∷ rest) (row_body default_writer (f ∷ rest))
unfolding fields_text
row_spelled f [] = subst (λ (t : List ℕ). IsRowText (f ∷ []) t) (sym (append-nil (field_text default_writer f))) (last (field_spelled f))
row_spelled f (g ∷ rest) = before (field_spelled f) (row_spelled g rest)

-- bytes before and behind others
pub feedless_front : (xs ys : List ℕ) → HasNoLineFeed (xs ++ ys) → HasNoLineFeed xs
feedless_front [] ys none = tt
feedless_front (x ∷ xs) ys none = (none.0, feedless_front xs ys none.1)

pub feedless_rest : (xs ys : List ℕ) → HasNoLineFeed (xs ++ ys) → HasNoLineFeed ys
feedless_rest [] ys none = none
feedless_rest (x ∷ xs) ys none = feedless_rest xs ys none.1

pub feedless_both : (xs ys : List ℕ) → HasNoLineFeed xs → HasNoLineFeed ys → HasNoLineFeed (xs ++ ys)
feedless_both [] ys first second = second
feedless_both (x ∷ xs) ys first second = (first.0, feedless_both xs ys first.1 second)

quote_is_none : 34 ≢ line_feed
quote_is_none e = absurd (omega (arith, e))

comma_is_none : 44 ≢ line_feed
comma_is_none e = absurd (omega (arith, e))

-- a field between quotes
escaped_feedless : (x : List ℕ) → HasNoLineFeed x → HasNoLineFeed (escaped default_writer x)
unfolding escaped
escaped_feedless [] none = tt
escaped_feedless (b ∷ x) none = elim (cases_Bool (b == 34)) [
  | inl quote ↦ rw quote (quote_is_none, (none.0, escaped_feedless x none.1))
  | inr plain ↦ rw plain (none.0, escaped_feedless x none.1)
]

unescaped_feedless : (x : List ℕ) → HasNoLineFeed (escaped default_writer x) → HasNoLineFeed x
unfolding escaped
unescaped_feedless [] none = tt
unescaped_feedless (b ∷ x) none = elim (cases_Bool (b == 34)) [
  | inl quote ↦ let more = rw quote at none in (more.1.0, unescaped_feedless x more.1.1)
  | inr plain ↦ let more = rw plain at none in (more.0, unescaped_feedless x more.1)
]

field_feedless : (f text : List ℕ) → IsFieldText f text → HasNoLineFeed text → HasNoLineFeed f
field_feedless f text (bare e) none = none
field_feedless f text between_quotes none = unescaped_feedless f (feedless_front (escaped default_writer f) (34 ∷ []) none.1)

-- the fields of a text without a line feed have none
pub fields_feedless : (fields : List (List ℕ)) (text : List ℕ) → IsRowText fields text → HasNoLineFeed text → AllByRecursion HasNoLineFeed fields
fields_feedless [] text x none = elim x [ ]
fields_feedless (f ∷ []) text (last h) none = (field_feedless f text h none, tt)
fields_feedless (f ∷ fs) text (before {text = t} {rest = r} h more) none =
    (field_feedless f t h (feedless_front t (44 ∷ r) none), fields_feedless fs r more (feedless_rest t (44 ∷ r) none).1)

-- and the other way round
text_feedless : (f : List ℕ) → HasNoLineFeed f → HasNoLineFeed (field_text default_writer f)
text_feedless f none = elim (cases_Bool (needs_quotes default_writer f)) [
  | inl quotes ↦ rw quotes (quote_is_none, feedless_both (escaped default_writer f) (34 ∷ []) (escaped_feedless f none) (quote_is_none, tt))
  | inr plain ↦ rw plain none
]

texts_feedless : (fields : List (List ℕ)) → AllByRecursion HasNoLineFeed fields → HasNoLineFeed (fields_text default_writer fields)
unfolding fields_text
texts_feedless [] none = tt
texts_feedless (f ∷ fs) none =
    (comma_is_none, feedless_both (field_text default_writer f) (fields_text default_writer fs) (text_feedless f none.0) (texts_feedless fs none.1))

-- two quotes stand for a record of one empty field
abbrev blank : Row → List ℕ
blank row = cond (is_blank default_writer row) (34 ∷ 34 ∷ []) []

blank_feedless : (row : Row) → HasNoLineFeed (blank row)
blank_feedless row = elim (cases_Bool (is_blank default_writer row)) [
  | inl t ↦ rw t (quote_is_none, (quote_is_none, tt))
  | inr f ↦ rw f tt
]

in_one : (row : Row) → row_text default_writer row ≡ (row_body default_writer row ++ blank row) ++ line_feed ∷ []
in_one row = sym (append_assoc (row_body default_writer row) (blank row) (line_feed ∷ []))

pub row_line : (row : Row) → row ≢ [] → AllByRecursion HasNoLineFeed row → IsLine row
row_line [] some none = absurd (some refl)
row_line (f ∷ fs) some none = record {
  some = some;
  line = record {
    body = row_body default_writer (f ∷ fs) ++ blank (f ∷ fs);
    parts = in_one (f ∷ fs);
    one = feedless_both (row_body default_writer (f ∷ fs)) (blank (f ∷ fs))
        (feedless_both (field_text default_writer f) (fields_text default_writer fs) (text_feedless f none.0) (texts_feedless fs none.1))
        (blank_feedless (f ∷ fs));
  };
}

pub line_fields : (row : Row) → IsLine row → AllByRecursion HasNoLineFeed row
line_fields [] line = tt
line_fields (f ∷ fs) line =
    let row = f ∷ fs in
    let same : line.line.body ≡ row_body default_writer row ++ blank row =
    append_cancel_right line.line.body (row_body default_writer row ++ blank row) (line_feed ∷ []) (sym line.line.parts ∙ in_one row) in
    fields_feedless row (row_body default_writer row) (row_spelled f fs)
    (feedless_front (row_body default_writer row) (blank row) (subst HasNoLineFeed same line.line.one))

some_field : (fields : List (List ℕ)) (text : List ℕ) → IsRowText fields text → fields ≢ []
some_field [] text x e = elim x [ ]
some_field (f ∷ fs) text x e = cc e

-- the record of a text without a line feed is one line
pub read_line : (row : Row) (text : List ℕ) → IsRowText row text → HasNoLineFeed text → IsLine row
read_line row text spelled none = row_line row (some_field row text spelled) (fields_feedless row text spelled none)
