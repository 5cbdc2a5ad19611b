-- What the text of a record reads as, and where it stands at its end.
use Rattle.pocsag_pages.proofs.Prelude.{◌≡◌, ℕ, zero, suc, ◌==◌, false, List, [], ◌∷◌, ◌++◌, length, refl, sym, ap, ◌∙◌, subst, ◌⊎◌, inl, inr, append_assoc, add-one, Some, None, only_row, append-nil, cases_Bool, eqb-true, false_from_ne_true, or_parts, next_record, default_config, records, records_from, default_writer, escaped, needs_byte, needs_quotes, quoted, State, QuoteState, MayEnd, MayGoOn, bare_after, quote_state_after, quote_state_from, EndsInQuotes, HasNoRecord, IsFieldText, IsRowText, bare, between_quotes, last, before}
use Rattle.csv.specs.declared.parser.State.TheVariants as st
use Rattle.csv.proofs.RoundTrip.{plain-run, quoted-run, record-same, start-same}
use Rattle.pocsag_pages.specs.declared.quote_state.QuoteState.TheVariants as at
use Rattle.pocsag_pages.proofs.QuoteStates.{at_the_end, behind_comma, may_go, text_of}

-- a byte that calls for no quotes is no comma and no quote
plain_byte : (b : ℕ) → needs_byte default_writer b ≡ false → ((b == 44) ≡ false) × ((b == 34) ≡ false)
plain_byte b e =
    let a = false_from_ne_true (b == 44) (λ t. cc (rw t at e)) in
    let q = false_from_ne_true (b == 34) (λ t. cc (rw (a, t) at e)) in
    (a, q)

plain_goes_on : (b : ℕ) → needs_byte default_writer b ≡ false → bare_after b ≡ at.Bare
plain_goes_on b e = rw (e, (plain_byte b e).0) refl

plain_starts : (b : ℕ) → needs_byte default_writer b ≡ false → quote_state_after at.Start b ≡ at.Bare
plain_starts b e = rw (e, (plain_byte b e).0, (plain_byte b e).1) refl

-- where a field stands, and behind it
next : (q r : QuoteState) (b : ℕ) (bytes : List ℕ) → quote_state_after q b ≡ r → quote_state_from q (b ∷ bytes) ≡ quote_state_from r bytes
unfolding quote_state_from
next q r b bytes e = ap (λ (s : QuoteState). quote_state_from s bytes) e

bare_run : (x tail : List ℕ) → needs_quotes default_writer x ≡ false → quote_state_from at.Bare (x ++ tail) ≡ quote_state_from at.Bare tail
bare_run [] tail e = refl
bare_run (b ∷ x) tail e = next at.Bare at.Bare b (x ++ tail) (plain_goes_on b (or_parts _ _ e).0) ∙ bare_run x tail (or_parts _ _ e).1

pub escaped_plain : (b : ℕ) (x : List ℕ) → (b == 34) ≡ false → escaped default_writer (b ∷ x) ≡ b ∷ escaped default_writer x
unfolding escaped
escaped_plain b x e = rw e refl

inside : (b : ℕ) → (b == 34) ≡ false → quote_state_after at.Open b ≡ at.Open
inside b e = rw e refl

pub quoted_place : (x tail : List ℕ) → quote_state_from at.Open (escaped default_writer x ++ 34 ∷ tail) ≡ quote_state_from at.Closed tail
unfolding quote_state_from escaped
quoted_place [] tail = refl
quoted_place (b ∷ x) tail = elim (cases_Bool (b == 34)) [
  | inl quote ↦
      subst (λ (z : ℕ). quote_state_from at.Open (escaped default_writer (z ∷ x) ++ 34 ∷ tail) ≡ quote_state_from at.Closed tail)
      (sym (eqb-true b 34 quote)) (quoted_place x tail)
  | inr other ↦
      ap (λ (t : List ℕ). quote_state_from at.Open (t ++ 34 ∷ tail)) (escaped_plain b x other)
      ∙ next at.Open at.Open b (escaped default_writer x ++ 34 ∷ tail) (inside b other) ∙ quoted_place x tail
]

quoted_with : (x tail : List ℕ) → quoted default_writer x ++ tail ≡ 34 ∷ (escaped default_writer x ++ 34 ∷ tail)
quoted_with x tail = ap (λ (t : List ℕ). 34 ∷ t) (append_assoc (escaped default_writer x) (34 ∷ []) tail)

opened : (bytes : List ℕ) → quote_state_from at.Start (34 ∷ bytes) ≡ quote_state_from at.Open bytes
unfolding quote_state_from
opened bytes = refl

field_run : (field text : List ℕ) → IsFieldText field text →
    (q : QuoteState) × (MayEnd q × ((rest : List ℕ) → quote_state_from at.Start (text ++ rest) ≡ quote_state_from q rest))
field_run [] text (bare e) = (at.Start, (tt, λ rest. refl))
field_run (b ∷ x) text (bare e) =
    (at.Bare, (tt, λ rest. next at.Start at.Bare b (x ++ rest) (plain_starts b (or_parts _ _ e).0) ∙ bare_run x rest (or_parts _ _ e).1))
field_run x text between_quotes = (at.Closed, (tt, λ rest. ap (quote_state_from at.Start) (quoted_with x rest) ∙ opened _ ∙ quoted_place x rest))

pub row_place : (fields : List (List ℕ)) (text : List ℕ) → IsRowText fields text → MayEnd (quote_state_from at.Start text)
row_place [] t x = elim x [ ]
row_place (f ∷ []) t (last h) =
    let run = field_run f t h in
    subst MayEnd (sym (ap (quote_state_from at.Start) (sym (append-nil t)) ∙ run.1.1 [] ∙ at_the_end run.0)) run.1.0
row_place (f ∷ fs) line (before {text = t} {rest = r} h more) =
    let run = field_run f t h in
    subst MayEnd (sym (run.1.1 (44 ∷ r) ∙ next run.0 at.Start 44 r (behind_comma run.0 run.1.0))) (row_place fs r more)

-- how csv stands behind a field
abbrev IsReadTo : (field text : List ℕ) → State → Type 0
IsReadTo field text s =
    (fields : List (List ℕ)) →
    ((tail : List ℕ) → next_record default_config st.StartField fields [] (text ++ tail) ≡ next_record default_config s fields field tail)
    × (next_record default_config s fields field [] ≡ Some (fields ++ field ∷ [], st.StartRecord, []))
    × ((rest : List ℕ) → next_record default_config s fields field (44 ∷ rest) ≡ next_record default_config st.StartField (fields ++ field ∷ []) [] rest)

field_read : (field text : List ℕ) → IsFieldText field text → (s : State) × IsReadTo field text s
unfolding next_record
field_read [] text (bare e) = (st.StartField, λ fields. (λ tail. refl, refl, λ rest. refl))
field_read (b ∷ x) text (bare e) = (
  st.InField,
  λ fields. (
    λ tail. start-same fields [] b (x ++ tail) (plain_byte b (or_parts _ _ e).0).1 ∙ plain-run fields [] (b ∷ x) tail e,
    refl,
    λ rest. refl,
  ),
)
field_read x text between_quotes = (
  st.AfterQuote,
  λ fields. (
    λ tail. ap (next_record default_config st.StartField fields []) (quoted_with x tail) ∙ quoted-run fields [] x tail,
    refl,
    λ rest. refl,
  ),
)

row_read : (so_far fields : List (List ℕ)) (text : List ℕ) → IsRowText fields text
    → next_record default_config st.StartField so_far [] text ≡ Some (so_far ++ fields, st.StartRecord, [])
row_read so_far [] t x = elim x [ ]
row_read so_far (f ∷ []) t (last h) =
    let read = (field_read f t h).1 so_far in
    ap (next_record default_config st.StartField so_far []) (sym (append-nil t)) ∙ read.0 [] ∙ read.1
row_read so_far (f ∷ fs) line (before {text = t} {rest = r} h more) =
    let read = (field_read f t h).1 so_far in
    read.0 (44 ∷ r) ∙ read.2 r ∙ row_read (so_far ++ f ∷ []) fs r more
    ∙ ap (λ (rows : List (List ℕ)). Some (rows, st.StartRecord, [])) (append_assoc so_far (f ∷ []) fs)

-- a text begins with no end of a line
row_begins : (b : ℕ) (xs : List ℕ) → MayEnd (quote_state_from at.Start (b ∷ xs))
    → next_record default_config st.StartRecord [] [] (b ∷ xs) ≡ next_record default_config st.StartField [] [] (b ∷ xs)
unfolding quote_state_from
row_begins b xs may =
    let no_end : (n : ℕ) → (MayGoOn (quote_state_after at.Start n) → ⊥) → (b == n) ≡ false = λ n dead.
    false_from_ne_true (b == n) (λ t. dead (may_go (quote_state_after at.Start n) xs
    (subst (λ (z : ℕ). MayEnd (quote_state_from at.Start (z ∷ xs))) (eqb-true b n t) may))) in
    record-same [] [] b xs (no_end 13 (λ on. on)) (no_end 10 (λ on. on))

pub none_left : (n : ℕ) → records_from default_config n st.StartRecord [] ≡ []
unfolding records_from next_record
none_left zero = refl
none_left (suc n) = refl

one_row : (text : List ℕ) (fields : List (List ℕ)) → next_record default_config st.StartRecord [] [] text ≡ Some (fields, st.StartRecord, [])
    → records default_config text ≡ fields ∷ []
unfolding records_from
one_row text fields e = rw (add-one, e) (ap (λ (rows : List (List (List ℕ))). fields ∷ rows) (none_left (length text)))

-- the text of a record, unless it is empty, reads as that record alone
pub rows_are : (fields : List (List ℕ)) (text : List ℕ) → IsRowText fields text → (text ≡ [] → ⊥) → records default_config text ≡ fields ∷ []
rows_are fields [] row some = absurd (some refl)
rows_are fields (b ∷ xs) row some = one_row (b ∷ xs) fields (row_begins b xs (row_place fields (b ∷ xs) row) ∙ row_read [] fields (b ∷ xs) row)

none_in : (row : List (List ℕ)) → only_row (records default_config []) ≡ Some row → ⊥
unfolding records_from next_record
none_in row e = cc e

pub closes : (q : QuoteState) (text : List ℕ) → quote_state_from q text ≡ at.Open → MayEnd (quote_state_from q (text ++ 34 ∷ []))
unfolding quote_state_from
closes q [] e = rw e tt
closes q (b ∷ text) e = closes (quote_state_after q b) text e

-- of nothing is it the text, where it may not end there
pub no_row : (text : List ℕ) → (MayEnd (quote_state_from at.Start text) → ⊥) → HasNoRecord text
no_row text not = λ fields row. not (row_place fields text row)

-- the record that was read is that of the text
pub row_is : (text : List ℕ) (row : List (List ℕ)) → MayEnd (quote_state_from at.Start text) → only_row (records default_config text) ≡ Some row → IsRowText row text
row_is [] row may e = absurd (none_in row e)
row_is (b ∷ xs) row may e =
    let text = text_of (b ∷ xs) may in
    let read = rows_are text.0 (b ∷ xs) text.1 (λ h. cc h) in
    let same : text.0 ≡ row = cc (ap only_row (sym read) ∙ e) in
    subst (λ (fields : List (List ℕ)). IsRowText fields (b ∷ xs)) same text.1

-- no record is read of an empty text alone
pub empty_is : (text : List ℕ) → MayEnd (quote_state_from at.Start text) → only_row (records default_config text) ≡ None → text ≡ []
empty_is [] may e = refl
empty_is (b ∷ xs) may e =
    let text = text_of (b ∷ xs) may in
    let read = rows_are text.0 (b ∷ xs) text.1 (λ h. cc h) in
    absurd (cc (ap only_row (sym read) ∙ e))

-- one quote more would end the record of a text that ends in quotes
pub open_quote : (text : List ℕ) → quote_state_from at.Start text ≡ at.Open → EndsInQuotes text
open_quote text e = text_of (text ++ 34 ∷ []) (closes at.Start text e)

pub may_end : (q : QuoteState) → (q ≡ at.Start) ⊎ ((q ≡ at.Bare) ⊎ (q ≡ at.Closed)) → MayEnd q
may_end q (inl e) = rw e tt
may_end q (inr (inl e)) = rw e tt
may_end q (inr (inr e)) = rw e tt
