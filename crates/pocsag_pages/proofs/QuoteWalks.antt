-- A walk over the quotes of a page file, one byte more.
use mir.Val.{bool_byte}
use Rattle.pocsag_pages.proofs.Prelude.{◌≡◌, ◌≢◌, inl, inr, ℕ, ◌+◌, ◌≤◌, Bool, true, false, not, nat_eq, List, [], ◌∷◌, ◌++◌, refl, sym, ap, ◌∙◌, subst, append_assoc, arith, append-nil, cases_Bool, QuotePlace, QuoteState, AreRecords, IsLostIn, IsOpenFrom, IsWellQuoted, ends_line, line_behind, none, blank, more, HasSeen, IsRecordFront, is_empty, at_start, closed, opened, unquoted, MayGoOn, quote_state_after}
use Rattle.pocsag_pages.specs.declared.quote_state.QuoteState.TheVariants as at
use Rattle.pocsag_pages.proofs.QuoteStates.{IsText, at_the_end, front_text, newer, next, one_more}
use Rattle.pocsag_pages.proofs.Strays.{lost_here, turn}

-- the line behind one byte more
pub one_line : (bytes : List ℕ) (b : ℕ) → line_behind (bytes ++ b ∷ []) ≡ line_behind bytes + bool_byte (nat_eq b 10)
unfolding line_behind
one_line [] b = elim (cases_Bool (nat_eq b 10)) [ inl feed ↦ rw feed refl | inr other ↦ rw other refl ]
one_line (c ∷ bytes) b = elim (cases_Bool (nat_eq c 10)) [
  | inl feed ↦ rw (feed, one_line bytes b) (omega arith)
  | inr other ↦ rw other (one_line bytes b)
]

-- the end of a line outside quotes ends the record
end_record : (n : ℕ) (before front : List ℕ) (b : ℕ) → AreRecords n before → ends_line b ≡ true → IsText front →
    AreRecords (n + bool_byte (not (is_empty front))) (before ++ (front ++ b ∷ []))
end_record n before [] b records end text = let same : n + 0 ≡ n = omega arith in rw same (blank before b records end)
end_record n before (c ∷ front) b records end text = more n before (c ∷ front) b text.0 records text.1 (λ e. cc e) end

pub ended : (p : QuotePlace) (b n l : ℕ) (seen : List ℕ) → HasSeen p seen → ends_line b ≡ true → p.state ≢ at.Open →
    n ≡ p.number + bool_byte (not p.is_blank) → l ≡ p.line + bool_byte (nat_eq b 10) →
    HasSeen (record { state = at.Start; is_blank = true; number = n; line = l; opened = l }) (seen ++ b ∷ [])
ended p b n l seen h end shut number line =
    let behind : l ≡ line_behind (seen ++ b ∷ []) = line ∙ ap (λ (k : ℕ). k + bool_byte (nat_eq b 10)) h.line ∙ sym (one_line seen b) in
    record {
      before = seen ++ b ∷ [];
      start = [];
      front = [];
      parts = sym (append-nil (seen ++ b ∷ []));
      records = rw (number, h.blank, h.parts, append_assoc) (end_record p.number h.before h.front b h.records end (front_text p.state h.start h.front h.field shut));
      state = at_the_end at.Start;
      field = at_start (inl refl);
      blank = refl;
      line = behind;
      opened = behind ∙ ap line_behind (sym (append-nil (seen ++ b ∷ [])));
    }

-- the text is lost
pub lost : (p : QuotePlace) (b : ℕ) (seen rest : List ℕ) → HasSeen p seen → ends_line b ≡ false → (MayGoOn (quote_state_after p.state b) → ⊥) →
    IsLostIn (seen ++ b ∷ rest) p.number p.line b
lost p b seen rest h no_end dead = record {
  before = h.before;
  behind = h.front ++ b ∷ rest;
  parts = ap (λ (l : List ℕ). l ++ b ∷ rest) h.parts ∙ append_assoc h.before h.front (b ∷ rest);
  records = h.records;
  front = h.front;
  lost = lost_here p.state h.start h.front rest b h.state h.field dead;
  goes_on = no_end;
  place = h.line ∙ ap line_behind h.parts;
}

newer_line : (r : QuoteState) (before old new : List ℕ) → newer r (line_behind (before ++ old)) (line_behind (before ++ new)) ≡ line_behind (before ++ newer r old new)
newer_line at.Start before old new = refl
newer_line at.Bare before old new = refl
newer_line at.Open before old new = refl
newer_line at.Closed before old new = refl
newer_line at.Broken before old new = refl
newer_line at.Ended before old new = refl

not_blank : (front : List ℕ) (b : ℕ) → false ≡ is_empty (front ++ b ∷ [])
not_blank [] b = refl
not_blank (c ∷ front) b = refl

-- the record goes on
pub gone_on : (p : QuotePlace) (r : QuoteState) (b l o : ℕ) (seen : List ℕ) → HasSeen p seen → r ≡ quote_state_after p.state b → MayGoOn r →
    l ≡ p.line + bool_byte (nat_eq b 10) → o ≡ newer r p.opened l →
    HasSeen (record { state = r; is_blank = false; number = p.number; line = l; opened = o }) (seen ++ b ∷ [])
gone_on p r b l o seen h is on line field_line =
    let parts = ap (λ (t : List ℕ). t ++ b ∷ []) h.parts ∙ append_assoc h.before h.front (b ∷ []) in
    let behind : l ≡ line_behind (seen ++ b ∷ []) = line ∙ ap (λ (k : ℕ). k + bool_byte (nat_eq b 10)) h.line ∙ sym (one_line seen b) in
    record {
      before = h.before;
      start = newer r h.start (h.front ++ b ∷ []);
      front = h.front ++ b ∷ [];
      parts = parts;
      records = h.records;
      state = one_more p.state h.front b h.state ∙ sym is;
      field = subst (λ (s : QuoteState). MayGoOn s → IsRecordFront s (newer s h.start (h.front ++ b ∷ [])) (h.front ++ b ∷ [])) (sym is)
          (next p.state h.start h.front b h.field) on;
      blank = not_blank h.front b;
      line = behind;
      opened = field_line ∙ ap (λ (k : ℕ). newer r k l) h.opened ∙ ap (newer r (line_behind (h.before ++ h.start))) (behind ∙ ap line_behind parts)
          ∙ newer_line r h.before h.start (h.front ++ b ∷ []);
    }

-- no byte is seen
pub nothing_seen : HasSeen (record { state = at.Start; is_blank = true; number = 0; line = 1; opened = 1 }) []
unfolding line_behind
nothing_seen = record {
  before = [];
  start = [];
  front = [];
  parts = refl;
  records = none;
  state = at_the_end at.Start;
  field = at_start (inl refl);
  blank = refl;
  line = refl;
  opened = refl;
}

open_from : (q : QuoteState) (before start front : List ℕ) (n o : ℕ) → q ≡ at.Open → IsRecordFront q start front → AreRecords n before →
    o ≡ line_behind (before ++ start) → IsOpenFrom (before ++ front) n o
open_from q before start front n o is (at_start begins) records place = cc is
open_from q before start front n o is (unquoted held begins plain) records place = cc is
open_from q before start front n o is (closed held begins) records place = cc is
open_from q before start front n o is (opened held begins) records place =
    record { before = before; front = start; held = held; parts = refl; records = records; start = begins; place = place }

pub left_open : (p : QuotePlace) (seen : List ℕ) → HasSeen p seen → p.state ≡ at.Open → IsOpenFrom seen p.number p.opened
left_open p seen h is = rw h.parts (open_from p.state h.before h.start h.front p.number p.opened is h.field h.records h.opened)

pub well_quoted : (p : QuotePlace) (seen : List ℕ) → HasSeen p seen → p.state ≢ at.Open → IsWellQuoted seen
well_quoted p seen h shut =
    let text = front_text p.state h.start h.front h.field shut in
    record { number = p.number; before = h.before; last = h.front; parts = h.parts; records = h.records; fields = text.0; ends = text.1 }

-- one line more, or none
pub few_more : (more_lines : Bool) (count step : ℕ) → step ≡ bool_byte more_lines → count + step ≤ count + 1
few_more true count step e = omega (arith, e)
few_more false count step e = omega (arith, e)

-- where a record goes on
pub goes : (r : QuoteState) → r ≢ at.Broken → r ≢ at.Ended → MayGoOn r
goes r whole more_of = elim (turn r) [ inl e ↦ absurd (whole e) | inr rest ↦ elim rest [ inl e ↦ absurd (more_of e) | inr on ↦ on ] ]

pub opened_before : (r : QuoteState) (old new : ℕ) → r ≢ at.Start → old ≡ newer r old new
opened_before at.Start old new other = absurd (other refl)
opened_before at.Bare old new other = refl
opened_before at.Open old new other = refl
opened_before at.Closed old new other = refl
opened_before at.Broken old new other = refl
opened_before at.Ended old new other = refl
