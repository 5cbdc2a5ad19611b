use Rattle.pocsag_open.proofs.Prelude.{inl, inr, length, refl, fields_of, named, pages_answer, IsEditReply, ReadsOrReplied, untold, LeavesOnly}
use Rattle.pocsag_open.proofs.Fronts.{if_err}
use Rattle.pocsag_open.proofs.Survival.{cut_told, either_read}
use Rattle.pocsag_open.proofs.Printed.{told_more}
use Rattle.pocsag_open.proofs.answer.answer_edit.Goals.{After-keep}
use Rattle.pocsag_open.proofs.answer.answer_edit.Goals as goal

pub returns-in-Err-clause-cut : goal.returns-in-Err-clause-cut
returns-in-Err-clause-cut g c = λ keeps is_known stands.
    cut_told g.K.Keeper keeps stands c.refuse.result _ _ _ (inr (refl, (c.in-Err.refusal, c.in-Err.ensures.refused, c.in-Err.ensures.reason, refl)))
    (c.refuse.ensures.printed is_known)

pub returns-clause-cut : goal.returns-clause-cut
returns-clause-cut g c = λ keeps is_known stands.
    let edit = c.in-Ok.ensures.made in
    cut_told g.K.Keeper keeps (c.in_ok-keep.ensures.stands c.args.round.now.book c.edit_row.new.book stands edit) c.print_pages.result _ _ _ (inl (edit, refl))
    (c.print_pages.ensures.printed is_known)

-- once what keeps the edit was given it, a crash leaves what is read as the pages before it, or as those after it
kept : (g : _) (c : After-keep g) → g.K.Keeper.is_known → g.K.Keeper.represents c.args.round.now.keeper c.args.round.now.book →
    LeavesOnly g.K.Keeper.moment g.K.Keeper.left_since c.args.round.now.keeper c.keep.new.self
    (ReadsOrReplied g.K.Keeper.reads_as (IsEditReply (fields_of c.args.row.now)) c.args.round.now.book)
kept g c = λ keeps stands.
    let book = c.edit_row.new.book in
    named g.K.Keeper.moment g.K.Keeper.left_since c.args.round.now.keeper c.keep.new.self _ _
    (c.keep.ensures.any_moment keeps c.args.round.now.book book stands c.in-Ok.ensures.made)
    (λ left is.
    either_read (IsEditReply (fields_of c.args.row.now)) c.args.round.now.book book (pages_answer (length book)) g.K.Keeper.reads_as left
    (inl (c.in-Ok.ensures.made, refl)) is)

pub returns-in_err-keep-clause-cut : goal.returns-in_err-keep-clause-cut
returns-in_err-keep-clause-cut g c = λ keeps is_known stands.
    let only = kept g (goal.at.returns-in_err-keep-clause-cut g c).After-keep keeps stands in
    if_err c.from_residual.result _
    (untold refl (λ left now. only.each left (g.K.Keeper.counts_now c.keep.new.self (g.K.Keeper.moment c.args.round.now.keeper) left keeps only.later now)))

pub returns-in_err-keep-clause-any_moment : goal.returns-in_err-keep-clause-any_moment
returns-in_err-keep-clause-any_moment g c = kept g (goal.at.returns-in_err-keep-clause-any_moment g c).After-keep

pub returns-clause-any_moment : goal.returns-clause-any_moment
returns-clause-any_moment g c = kept g (goal.at.returns-clause-any_moment g c).After-keep

pub returns-in-Err-clause-replied : goal.returns-in-Err-clause-replied
returns-in-Err-clause-replied g c = λ is_known.
    told_more c.refuse.result _ _ _ (IsEditReply (fields_of c.args.row.now) c.args.round.now.book c.edit_row.new.book)
    (inr (c.in-Err.ensures.unchanged, (c.in-Err.refusal, c.in-Err.ensures.refused, c.in-Err.ensures.reason, refl))) (c.refuse.ensures.printed is_known)

pub returns-clause-replied : goal.returns-clause-replied
returns-clause-replied g c = λ is_known.
    told_more c.print_pages.result _ _ _ (IsEditReply (fields_of c.args.row.now) c.args.round.now.book c.edit_row.new.book)
    (inl (c.in-Ok.ensures.made, refl)) (c.print_pages.ensures.printed is_known)
