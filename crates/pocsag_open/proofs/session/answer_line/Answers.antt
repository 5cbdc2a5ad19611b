use Rattle.pocsag_open.proofs.Prelude.{inl, ◌≡◌, List, ℕ, [], ◌++◌, length, refl, ap, ◌∙◌, append_assoc, append-nil, sym, fields_of, named, Page, pages_answer, HasFailedOutput, AsksForPlan, IsEditReply, IsLineReply, listed, noted, read, refused, unread, RepliesAndPlaces, RepliesTo, IsLine, read_line}
use Rattle.std.proofs.Common.{Err}
use Rattle.pocsag_decode.specs.PageFiles.{page_file}
use Rattle.pocsag_open.proofs.Sessions.{edit_reply, list_due, other_none}
use Rattle.pocsag_open.proofs.Survival.{cut_as, cut_front, cut_last, cut_told, on_err, read_as, restarted, unmoved}
use Rattle.pocsag_open.proofs.Printed.{on_ok, told_as, told_once}
use Rattle.pocsag_open.proofs.Ends.{for_fault, not_answered, text_feedless}
use Rattle.pocsag_open.proofs.session.answer_line.Goals.{After-answer_edit-done, In-Plan}
use Rattle.pocsag_open.proofs.session.answer_line.Goals as goal

-- a line that is no record
pub returns-in-Err-clause-replied : goal.returns-in-Err-clause-replied
returns-in-Err-clause-replied g c = λ is_known.
    on_ok c.refuse.result _ _ (told_once _ _ _ _ _ _ (unread c.in-Err.refusal c.requires c.in-Err.ensures.refused refl refl refl))
    ((c.refuse.ensures.printed is_known).0)

pub returns-in-Err-clause-cut : goal.returns-in-Err-clause-cut
returns-in-Err-clause-cut g c = λ keeps is_known stands.
    cut_told g.K.Keeper keeps stands c.refuse.result _ _ _
    ([], unread c.in-Err.refusal c.requires c.in-Err.ensures.refused refl refl refl, λ known. sym (append-nil _)) (c.refuse.ensures.printed is_known)

pub returns-in-Err-clause-any_moment : goal.returns-in-Err-clause-any_moment
returns-in-Err-clause-any_moment g c = λ keeps stands. unmoved g.K.Keeper keeps stands (λ left is. inl is)

-- one that asks for a plan
asks : (g : _) (c : In-Plan g) → AsksForPlan c.in-Plan.end c.in-Plan.at_most c.in-Plan.tx.now c.in-Plan.cert.now c.args.line.now
asks g c = record {
  row = fields_of c.in-Ok.row;
  short = c.requires;
  text = c.in-Ok.ensures.spelled;
  asks = c.in-Plan.ensures.asks;
  no_edit = c.in-Plan.ensures.edit;
}

pub returns-in-Plan-clause-replied : goal.returns-in-Plan-clause-replied
returns-in-Plan-clause-replied g c = λ is_known.
    c.answer_plan.ensures.replied is_known c.args.line.now (asks g (goal.at.returns-in-Plan-clause-replied g c).In-Plan)

pub returns-in-Plan-clause-cut : goal.returns-in-Plan-clause-cut
returns-in-Plan-clause-cut g c = λ keeps is_known stands.
    c.answer_plan.ensures.cut keeps is_known stands c.args.line.now (asks g (goal.at.returns-in-Plan-clause-cut g c).In-Plan)

pub returns-in-Plan-clause-any_moment : goal.returns-in-Plan-clause-any_moment
returns-in-Plan-clause-any_moment g c = λ keeps stands.
    c.answer_plan.ensures.any_moment keeps stands c.args.line.now (asks g (goal.at.returns-in-Plan-clause-any_moment g c).In-Plan)

-- one that asks for the list
pub returns-in-Ok-write_page_file-clause-replied : goal.returns-in-Ok-write_page_file-clause-replied
returns-in-Ok-write_page_file-clause-replied g c = λ is_known.
    let pages = c.args.round.now.book in
    let whole = rw c.pages.ensures.pages at (c.in-Ok-write_page_file.ensures.whole is_known) in
    on_ok c.print_pages.result _ _
    (λ (printed : g.O.Sink.taken c.print_pages.new.out ≡ g.O.Sink.taken c.write_page_file.new.sink ++ pages_answer (length pages)).
    told_once _ _ _ _ _ _ (read _ c.requires c.in-Ok.ensures.spelled (listed c.in-List.ensures.asks refl refl refl))
    (printed ∙ ap (λ (l : List ℕ). l ++ pages_answer (length pages)) whole
    ∙ append_assoc (g.O.Sink.taken c.args.out.now) (page_file pages) (pages_answer (length pages))))
    ((c.print_pages.ensures.printed is_known).0)

pub returns-in-Ok-write_page_file-clause-cut : goal.returns-in-Ok-write_page_file-clause-cut
returns-in-Ok-write_page_file-clause-cut g c = λ keeps is_known stands.
    let pages = c.args.round.now.book in
    let whole = rw c.pages.ensures.pages at (c.in-Ok-write_page_file.ensures.whole is_known) in
    on_err c.print_pages.result _ _
    (cut_last _ _ _ _ _ (page_file pages) (pages_answer (length pages)) _ _ whole
    ([], read _ c.requires c.in-Ok.ensures.spelled (listed c.in-List.ensures.asks refl refl refl), λ known. sym (append-nil _))
    (restarted g.K.Keeper keeps stands))
    ((c.print_pages.ensures.printed is_known).1)

pub returns-in-Ok-write_page_file-clause-any_moment : goal.returns-in-Ok-write_page_file-clause-any_moment
returns-in-Ok-write_page_file-clause-any_moment g c = λ keeps stands. unmoved g.K.Keeper keeps stands (λ left is. inl is)

pub returns-in-Err-OutOfMemory-clause-replied : goal.returns-in-Err-OutOfMemory-clause-replied
returns-in-Err-OutOfMemory-clause-replied g c = λ is_known.
    let same : g.O.Sink.taken c.write_page_file.new.sink ≡ g.O.Sink.taken c.args.out.now =
    ap g.O.Sink.taken (c.write_page_file.ensures.untouched (c.in-Err-OutOfMemory.is ∙ ap Err c.in-Err-OutOfMemory.field-0-is)) in
    on_ok c.refuse-in-Err-OutOfMemory.result _ _
    (told_once _ _ _ _ _ _ (read _ c.requires c.in-Ok.ensures.spelled (refused _ (list_due _ _ _ _ c.in-List.ensures.asks c.in-List.ensures.edit) refl refl)))
    (rw same at ((c.refuse-in-Err-OutOfMemory.ensures.printed is_known).0))

pub returns-in-Err-OutOfMemory-clause-cut : goal.returns-in-Err-OutOfMemory-clause-cut
returns-in-Err-OutOfMemory-clause-cut g c = λ keeps is_known stands.
    let same : g.O.Sink.taken c.write_page_file.new.sink ≡ g.O.Sink.taken c.args.out.now =
    ap g.O.Sink.taken (c.write_page_file.ensures.untouched (c.in-Err-OutOfMemory.is ∙ ap Err c.in-Err-OutOfMemory.field-0-is)) in
    cut_told g.K.Keeper keeps stands c.refuse-in-Err-OutOfMemory.result _ _ _ (
      [],
      read _ c.requires c.in-Ok.ensures.spelled (refused _ (list_due _ _ _ _ c.in-List.ensures.asks c.in-List.ensures.edit) refl refl),
      λ known. sym (append-nil _),
    )
    (rw same at (c.refuse-in-Err-OutOfMemory.ensures.printed is_known))

pub returns-in-Err-OutOfMemory-clause-any_moment : goal.returns-in-Err-OutOfMemory-clause-any_moment
returns-in-Err-OutOfMemory-clause-any_moment g c = λ keeps stands. unmoved g.K.Keeper keeps stands (λ left is. inl is)

pub returns-in-List-clause-cut : goal.returns-in-List-clause-cut
returns-in-List-clause-cut g c = λ keeps is_known stands.
    let pages = c.args.round.now.book in
    cut_front _ _ _ _ (page_file pages) (pages_answer (length pages)) _ _
    ([], read _ c.requires c.in-Ok.ensures.spelled (listed c.in-List.ensures.asks refl refl refl), λ known. sym (append-nil _))
    (restarted g.K.Keeper keeps stands)
    (rw c.pages.ensures.pages at (c.write_page_file.ensures.part is_known (c.in-Err-WriteFault.is ∙ ap Err c.in-Err-WriteFault.field-0-is)))

pub returns-in-List-clause-any_moment : goal.returns-in-List-clause-any_moment
returns-in-List-clause-any_moment g c = λ keeps stands. unmoved g.K.Keeper keeps stands (λ left is. inl is)

-- the first record of a journal
pub returns-in-Journal-clause-replied : goal.returns-in-Journal-clause-replied
returns-in-Journal-clause-replied g c = λ is_known.
    on_ok c.print_pages-in-Journal.result _ _
    (told_once _ _ _ _ _ _ (read _ c.requires c.in-Ok.ensures.spelled (noted c.in-Journal.ensures.asks refl refl refl)))
    ((c.print_pages-in-Journal.ensures.printed is_known).0)

pub returns-in-Journal-clause-cut : goal.returns-in-Journal-clause-cut
returns-in-Journal-clause-cut g c = λ keeps is_known stands.
    cut_told g.K.Keeper keeps stands c.print_pages-in-Journal.result _ _ _
    ([], read _ c.requires c.in-Ok.ensures.spelled (noted c.in-Journal.ensures.asks refl refl refl), λ known. sym (append-nil _))
    (c.print_pages-in-Journal.ensures.printed is_known)

pub returns-in-Journal-clause-any_moment : goal.returns-in-Journal-clause-any_moment
returns-in-Journal-clause-any_moment g c = λ keeps stands. unmoved g.K.Keeper keeps stands (λ left is. inl is)

-- and one that is judged as an edit
edited : (g : _) (c : After-answer_edit-done g) (after : List Page) (printed : List ℕ) → IsEditReply (fields_of c.in-Ok.row) c.args.round.now.book after printed →
    IsLineReply g.P.OutputStore.is_known (HasFailedOutput g.P.Output.Sink.failures) c.args.settings.now.on_limit c.args.line.now c.args.round.now.book after printed []
edited g c after printed is =
    let neither =
    other_none c.line_of.result _ c.in_default.not-List c.in_default.not-Plan c.in_default.not-Journal c.line_of.ensures.asks in
    read _ c.requires c.in-Ok.ensures.spelled (edit_reply _ _ _ _ _ _ _ neither is)

pub returns-clause-replied : goal.returns-clause-replied
returns-clause-replied g c = λ is_known.
    told_as c.answer_edit-done.result _ _ _ _ _ _ (edited g (goal.at.returns-clause-replied g c).After-answer_edit-done c.answer_edit-done.new.round.book)
    (c.answer_edit-done.ensures.replied is_known)

pub returns-clause-cut : goal.returns-clause-cut
returns-clause-cut g c = λ keeps is_known stands.
    on_err c.answer_edit-done.result _ _
    (cut_as (IsEditReply (fields_of c.in-Ok.row))
    (RepliesAndPlaces g.P.OutputStore.is_known (HasFailedOutput g.P.Output.Sink.failures) c.args.settings.now.on_limit c.args.line.now
    (g.P.OutputStore.placed c.args.settings.now.store) (g.P.OutputStore.placed c.args.settings.now.store))
    c.args.round.now.book g.K.Keeper.reads_as
    (λ after printed is. ([], edited g (goal.at.returns-clause-cut g c).After-answer_edit-done after printed is, λ known. sym (append-nil _))))
    (c.answer_edit-done.ensures.cut keeps is_known stands)

pub returns-clause-any_moment : goal.returns-clause-any_moment
returns-clause-any_moment g c = λ keeps stands.
    named g.K.Keeper.moment g.K.Keeper.left_since c.args.round.now.keeper c.answer_edit-done.new.round.keeper _ _
    (c.answer_edit-done.ensures.any_moment keeps stands)
    (read_as (IsEditReply (fields_of c.in-Ok.row))
    (RepliesTo g.P.OutputStore.is_known (HasFailedOutput g.P.Output.Sink.failures) c.args.settings.now.on_limit c.args.line.now)
    c.args.round.now.book g.K.Keeper.reads_as
    (λ after printed is. ([], edited g (goal.at.returns-clause-any_moment g c).After-answer_edit-done after printed is)))

pub returns-clause-explained : goal.returns-clause-explained
returns-clause-explained g c = λ counts stands none.
    let line : IsLine (fields_of c.in-Ok.row) = read_line (fields_of c.in-Ok.row) _ c.in-Ok.ensures.spelled (text_feedless c.args.line.now none) in
    for_fault c.answer_edit-done.result _ _
    (λ e h. not_answered _ _ _ _ (fields_of c.in-Ok.row) _ _ _ _ e line h)
    (c.answer_edit-done.ensures.explained counts stands)
