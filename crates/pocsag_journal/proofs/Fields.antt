-- What the fields of a record ask for.
use Rattle.pocsag_journal.proofs.Prelude.{◌≡◌, ◌≢◌, inl, inr, ℕ, zero, suc, ◌<◌, true, false, List, [], ◌∷◌, length, refl, sym, ap, arith, Option, Some, None, bytes_eq, false_from_ne_true, bytes_eq-Decides, field_at, Row, SpellsCount, Asked, add, asked_of, cancel, clear, first_record, sent}
use Rattle.std.proofs.Common.{codes}
use Rattle.pocsag_words.specs.declared.ending.End.{End}
use Rattle.pocsag_journal.specs.Asks.{AsksNone, AsksNoPlan, AsksPlan, IsPlanEnd, end_word, list_record}

pub has_field : (row : Row) (i : ℕ) → i < length row → None ≡ field_at row i → ⊥
unfolding field_at
has_field [] i h e = absurd (omega arith)
has_field (f ∷ row) zero h e = cc
has_field (f ∷ row) (suc i) h e = has_field row i (omega arith) e

pub is_word : (word name : List ℕ) → bytes_eq word name ≡ true → word ≡ name
is_word word name t = (bytes_eq-Decides word name).0 t

-- a word that is not the name
differs : (word name : List ℕ) → Some name ≢ Some word → bytes_eq word name ≡ false
differs word name d = false_from_ne_true (bytes_eq word name) (λ t. d (ap Some (sym (is_word word name t))))

pub not_clear : (row : Row) → length row ≡ 1 → Some (codes "clear") ≢ field_at row 0 → None ≡ asked_of row
unfolding asked_of field_at
not_clear (w ∷ []) n d = rw (differs w (codes "clear") d) refl
not_clear row n d = absurd (omega arith)

pub not_sent : (row : Row) → length row ≡ 2 → Some (codes "cancel") ≢ field_at row 0 → Some (codes "sent") ≢ field_at row 0 → None ≡ asked_of row
unfolding asked_of field_at
not_sent (w ∷ a ∷ []) n d f = rw (differs w (codes "cancel") d, differs w (codes "sent") f) refl
not_sent row n d f = absurd (omega arith)

pub not_add : (row : Row) → length row ≡ 4 → Some (codes "add") ≢ field_at row 0 → None ≡ asked_of row
unfolding asked_of field_at
not_add (w ∷ f ∷ g ∷ h ∷ []) n d = rw (differs w (codes "add") d) refl
not_add row n d = absurd (omega arith)

-- the fields of the record from one on are these, and no more
abbrev pub HasFields : (row : Row) (from : ℕ) (fields : Row) → Type 0
HasFields row from [] = length row ≡ from
HasFields row from (f ∷ fields) = (Some f ≡ field_at row from) × HasFields row (suc from) fields

behind_first : (first : List ℕ) (row : Row) (from : ℕ) (fields : Row) → HasFields (first ∷ row) (suc from) fields → HasFields row from fields
unfolding field_at
behind_first first row from [] h = omega (arith, h)
behind_first first row from (f ∷ fields) h = (h.0, behind_first first row (suc from) fields h.1)

pub row_is : (row fields : Row) → HasFields row 0 fields → row ≡ fields
unfolding field_at
row_is [] [] h = refl
row_is [] (f ∷ fields) h = absurd (cc (h.0))
row_is (first ∷ row) [] h = absurd (omega (arith, h))
row_is (first ∷ row) (f ∷ fields) h =
    let same : first ≡ f = cc (h.0) in
    let rest = row_is row fields (behind_first first row 0 fields h.1) in
    rw (same, rest) refl

-- the record of an edit
abbrev pub edit_record : Asked → Row
edit_record (add address kind message) = codes "add" ∷ address ∷ kind ∷ message ∷ []
edit_record (cancel address) = codes "cancel" ∷ address ∷ []
edit_record (sent count) = codes "sent" ∷ count ∷ []
edit_record clear = codes "clear" ∷ []

edit_asked : (asked : Asked) → Some asked ≡ asked_of (edit_record asked)
unfolding asked_of
edit_asked clear = refl
edit_asked asked = refl

-- what the fields of the record of a plan are
pub record PlanFields (end : End) (tx cert : List ℕ) (row : Row) : Type 0 where
  pub some : 2 < length row
  pub few : length row < 6
  pub word : Some (codes "plan") ≡ field_at row 0
  pub its_tx : Some tx ≡ field_at row 1
  pub its_cert : Some cert ≡ field_at row 2
  pub its_end : 3 < length row → Some (end_word end) ≡ field_at row 3
  pub its_count : 4 < length row → (field : List ℕ) × (count : ℕ) × (Some field ≡ field_at row 4) × SpellsCount field count

pub plan_fields : (end : End) (most : Option ℕ) (tx cert : List ℕ) (row : Row) → AsksPlan end most tx cert row → PlanFields end tx cert row
unfolding field_at
plan_fields end None tx cert row (inl e) =
    rw e (record {
      some = omega arith;
      few = omega arith;
      word = refl;
      its_tx = refl;
      its_cert = refl;
      its_end = λ h. refl;
      its_count = λ h. absurd (omega (arith, h));
    })
plan_fields end None tx cert row (inr e) =
    rw (e.1) (record {
      some = omega arith;
      few = omega arith;
      word = refl;
      its_tx = refl;
      its_cert = refl;
      its_end = λ h. absurd (omega (arith, h));
      its_count = λ h. absurd (omega (arith, h));
    })
plan_fields end (Some b) tx cert row e =
    rw (e.2) (record {
      some = omega arith;
      few = omega arith;
      word = refl;
      its_tx = refl;
      its_cert = refl;
      its_end = λ h. refl;
      its_count = λ h. (e.0, b, refl, e.1);
    })

-- a record of fewer than three fields asks for no plan
pub none_of_few : (row : Row) → length row < 3 → row ≢ list_record → row ≢ first_record → AsksNone row
none_of_few row few no_list no_heading = record {
  list = no_list;
  heading = no_heading;
  plan = λ end most tx cert asks t u. let some = (plan_fields end most tx cert row asks).some in omega (arith, few, some);
}

-- and one of more neither for the list nor for what the first line of a journal asks for
pub none_of_more : (row : Row) → 2 < length row → AsksNoPlan row → AsksNone row
none_of_more row more no_plan = record {
  list = λ e. let one : length row ≡ 1 = ap length e in omega (arith, one, more);
  heading = λ e. let two : length row ≡ 2 = ap length e in omega (arith, two, more);
  plan = no_plan;
}

edit_asks_none : (asked : Asked) → AsksNone (edit_record asked)
unfolding field_at
edit_asks_none (add a k m) =
    none_of_more _ (omega arith) (λ end most tx cert asks t u. cc ((plan_fields end most tx cert _ asks).word))
edit_asks_none clear = none_of_few _ (omega arith) (λ e. cc e) (λ e. cc e)
edit_asks_none asked = none_of_few _ (omega arith) (λ e. cc e) (λ e. cc e)

-- a record with the fields of an edit asks for that, and for nothing else
pub edit_only : (asked : Asked) (row : Row) → HasFields row 0 (edit_record asked) → (Some asked ≡ asked_of row) × AsksNone row
edit_only asked row h = rw (row_is row (edit_record asked) h) (edit_asked asked, edit_asks_none asked)

-- so many fields has the record of a plan
pub plan_length : (end : End) (most : Option ℕ) (row : Row) → IsPlanEnd end most row → 2 < length row
plan_length end None row (inl h) = omega (arith, h.0)
plan_length end None row (inr h) = omega (arith, h.0)
plan_length end (Some b) row h = omega (arith, h.0)

-- and these fields
pub plan_is : (end : End) (most : Option ℕ) (row : Row) (tx cert : List ℕ) → IsPlanEnd end most row → Some (codes "plan") ≡ field_at row 0 →
    Some tx ≡ field_at row 1 → Some cert ≡ field_at row 2 → AsksPlan end most tx cert row
plan_is end (Some b) row tx cert h e x y = (h.2.0, h.2.2, row_is row _ (e, (x, (y, (h.1, (h.2.1, h.0))))))
plan_is end None row tx cert (inl h) e x y = inr (h.1, row_is row _ (e, (x, (y, h.0))))
plan_is end None row tx cert (inr h) e x y = inl (row_is row _ (e, (x, (y, (h.1, h.0)))))
