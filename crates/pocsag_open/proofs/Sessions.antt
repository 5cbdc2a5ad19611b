-- The replies to lines, one after another.
use Rattle.pocsag_open.proofs.Prelude.{◌≡◌, inl, inr, ℕ, List, [], refl, subst, Bor, Option, Some, None, End, Row, Page, OnLimit, Asked, IsDone, IsEdit, asked_of, first_record, UndoneFault, refusal_answer, ArePlacesOfRefused, ExplainsPlanUndone, PlacementResult, AsksForPlan, IsEditReply, IsLineReply, IsPlanRefused, IsRefusalDue, IsReply, edited, read, refused}
use Rattle.pocsag_journal.specs.Asks.{AsksNone, AsksPlan, IsAskedBy, list_record}
use Rattle.pocsag_journal.specs.declared.edits.Line.{Line}
use Rattle.pocsag_journal.specs.declared.edits.Line.TheVariants as line
use Rattle.pocsag_journal.specs.declared.refusal.Refusal.TheVariants as refusal
use Rattle.pocsag_journal.specs.declared.refusal.UndoneFault.TheVariants as undone

-- what asks for no edit makes none
pub no_edit : (row : Row) → None ≡ asked_of row → (pages after : List Page) → IsEdit row pages after → ⊥
no_edit row e pages after = subst (λ (o : Option Asked). IsDone o pages after → ⊥) e (λ d. d)

-- what asks for a plan asks neither for the list nor for what the first line of a journal asks for
plan_or_list : (end : End) (most : Option ℕ) (tx cert : List ℕ) (row : Row) → AsksPlan end most tx cert row → row ≡ list_record → ⊥
plan_or_list end None tx cert row (inl e) h = cc (e, h)
plan_or_list end None tx cert row (inr e) h = cc (e.1, h)
plan_or_list end (Some b) tx cert row e h = cc (e.2, h)

pub plan_or_heading : (end : End) (most : Option ℕ) (tx cert : List ℕ) (row : Row) → AsksPlan end most tx cert row → row ≡ first_record → ⊥
plan_or_heading end None tx cert row (inl e) h = cc (e, h)
plan_or_heading end None tx cert row (inr e) h = cc (e.1, h)
plan_or_heading end (Some b) tx cert row e h = cc (e.2, h)

-- nor does a line that asks for none of these
pub other_none : (asking : Line) (row : Row) → (asking ≡ line.List → ⊥) →
    ((tx cert : Bor (List ℕ)) (end : End) (most : Option ℕ) → asking ≡ line.Plan tx cert end most → ⊥) → (asking ≡ line.Journal → ⊥) →
    IsAskedBy asking row → AsksNone row
other_none line.List row l p j h = absurd (l refl)
other_none (line.Plan tx cert end most) row l p j h = absurd (p tx cert end most refl)
other_none line.Journal row l p j h = absurd (j refl)
other_none asking row l p j h = h

-- want of memory is due where the list is refused
pub list_due : (OutputFails : Type 0) (on_limit : OnLimit) (row : Row) (pages : List Page) → row ≡ list_record → None ≡ asked_of row →
    IsRefusalDue OutputFails on_limit row pages (refusal.Undone undone.OutOfMemory) []
list_due OutputFails on_limit row pages asks e =
    record {
      edit = inr (λ after d. no_edit row e pages after d);
      reason = inl (inr asks, refl);
      list = λ h. refl;
      plan = λ end most tx cert a t c. absurd (plan_or_list end most tx cert row a asks);
      heading = λ h. cc (asks, h);
    }

-- the reply to a record that is judged as an edit
pub edit_reply : (IsKnown OutputFails : Type 0) (on_limit : OnLimit) (row : Row) (before after : List Page) (printed : List ℕ) → AsksNone row →
    IsEditReply row before after printed → IsReply IsKnown OutputFails on_limit row before after printed []
edit_reply IsKnown OutputFails on_limit row before after printed none (inl h) = edited h.0 h.1 refl
edit_reply IsKnown OutputFails on_limit row before after printed none (inr h) =
    let due : IsRefusalDue OutputFails on_limit row before h.1.0 [] =
    record {
      edit = h.1.1;
      reason = inl (inl h.1.2, refl);
      list = λ (e : row ≡ list_record). absurd (none.list e);
      plan = λ end most tx cert a t c. absurd (none.plan end most tx cert a t c);
      heading = none.heading;
    } in
    refused h.1.0 due h.0 h.1.3

-- the reply to a line that asks for a plan which is refused: the reason applies to the plan
pub plan_refused : (IsKnown OutputFails : Type 0) (on_limit : OnLimit) (end : End) (most : Option ℕ) (tx cert line : List ℕ) (pages : List Page)
    (fault : UndoneFault) (placed : List PlacementResult) → AsksForPlan end most tx cert line → ExplainsPlanUndone on_limit end most pages fault →
    ArePlacesOfRefused tx cert OutputFails fault placed →
    IsLineReply IsKnown OutputFails on_limit line pages pages (refusal_answer (refusal.Undone fault)) placed
plan_refused IsKnown OutputFails on_limit end most tx cert line pages fault placed a explained places =
    let why : IsPlanRefused OutputFails on_limit a.row pages (refusal.Undone fault) placed =
    record {
      end = end;
      at_most = most;
      tx = tx;
      cert = cert;
      asks = a.asks;
      fault = fault;
      names = refl;
      explained = explained;
      places = places;
    } in
    let due : IsRefusalDue OutputFails on_limit a.row pages (refusal.Undone fault) placed =
    record {
      edit = inr (λ after d. no_edit a.row a.no_edit pages after d);
      reason = inr why;
      list = λ h. absurd (plan_or_list end most tx cert a.row a.asks h);
      plan = λ other its first second asks t c. why;
      heading = plan_or_heading end most tx cert a.row a.asks;
    } in
    read a.row a.short a.text (refused (refusal.Undone fault) due refl refl)
