use Rattle.pocsag_open.proofs.Prelude.{inl, ℕ, ◌<◌, ◌^◌, [], ◌∷◌, List, rules, refl, subst, sym, fields_of, IsEdit, IsLine, HasFailed, line_length, named, HasFailedOutput, placed_plan, AsksForPlan, ReadsOrReplied, RepliesAndPlaces, RepliesTo, untold, LeavesOnly}
use Rattle.pocsag_open.proofs.Ends.{not_kept, not_told, sent_line}
use Rattle.pocsag_open.proofs.Fronts.{all_replied, front_replied, front_small, front_taken, if_err, if_ok}
use Rattle.pocsag_open.proofs.Sessions.{plan_refused}
use Rattle.pocsag_open.proofs.Survival.{cut_told, either_read, unmoved}
use Rattle.pocsag_open.proofs.Printed.{told_this}
use Rattle.pocsag_open.proofs.round_plan.answer_plan.Goals.{After-keep}
use Rattle.pocsag_open.proofs.round_plan.answer_plan.Goals as goal

pub returns-in-Err-clause-replied : goal.returns-in-Err-clause-replied
returns-in-Err-clause-replied g c = λ is_known line asks.
    let un = c.in-Err.ensures.unplaced in
    told_this c.refuse.result _ _ _ _ _ _ un.placed _ (plan_refused _ _ _ _ _ _ _ _ _ _ _ asks c.in-Err.ensures.explained un.refused) un.outputs
    ((c.refuse.ensures.printed is_known).0)

pub returns-in-Err-clause-cut : goal.returns-in-Err-clause-cut
returns-in-Err-clause-cut g c = λ keeps is_known stands line asks.
    let un = c.in-Err.ensures.unplaced in
    cut_told g.K.Keeper keeps stands c.refuse.result _ _ _
    (un.placed, plan_refused _ _ _ _ _ _ _ _ _ _ _ asks c.in-Err.ensures.explained un.refused, un.outputs) (c.refuse.ensures.printed is_known)

pub returns-in-Err-clause-explained : goal.returns-in-Err-clause-explained
returns-in-Err-clause-explained g c = λ counts stands.
    not_told c.refuse.result _ _ c.refuse.ensures.lost c.refuse.ensures.failures.1

pub returns-in-Err-clause-any_moment : goal.returns-in-Err-clause-any_moment
returns-in-Err-clause-any_moment g c = λ keeps stands line asks. unmoved g.K.Keeper keeps stands (λ left is. inl is)

pub returns-in_default-clause-replied : goal.returns-in_default-clause-replied
returns-in_default-clause-replied g c = λ is_known line asks.
    let done = c.in-Ok.ensures.planned in
    told_this c.print_planned.result _ _ _ _ _ _ (placed_plan c.args.asked.tx.now c.args.asked.cert.now done.sent ∷ []) _
    (all_replied _ _ _ _ _ _ _ _ _ _ _ _ asks (rw c.in_default.is at done.planned)) done.placed ((c.print_planned.ensures.printed is_known).0)

pub returns-in_default-clause-cut : goal.returns-in_default-clause-cut
returns-in_default-clause-cut g c = λ keeps is_known stands line asks.
    let done = c.in-Ok.ensures.planned in
    cut_told g.K.Keeper keeps stands c.print_planned.result _ _ _ (
      placed_plan c.args.asked.tx.now c.args.asked.cert.now done.sent ∷ [],
      all_replied _ _ _ _ _ _ _ _ _ _ _ _ asks (rw c.in_default.is at done.planned),
      done.placed,
    )
    (c.print_planned.ensures.printed is_known)

pub returns-in_default-clause-any_moment : goal.returns-in_default-clause-any_moment
returns-in_default-clause-any_moment g c = λ keeps stands line asks. unmoved g.K.Keeper keeps stands (λ left is. inl is)

pub returns-in_default-clause-explained : goal.returns-in_default-clause-explained
returns-in_default-clause-explained g c = λ counts stands.
    not_told c.print_planned.result _ _ c.print_planned.ensures.lost c.print_planned.ensures.failures.1

-- the pages of a front are taken out by an edit
taken : (g : _) (c : After-keep g) → IsEdit (fields_of c.in-Some.front.row) c.args.round.now.book c.drop_first.new.self
taken g c =
    front_taken _ _ _ _ _ _ _ _ _ _ (rw c.in-Some.is at c.in-Ok.ensures.planned.planned) c.drop_first.ensures _ (rw c.in-Some.is at c.in-Ok.ensures.edit)

-- once what keeps the edit was given it, a crash leaves what is read as the pages before it, or as those after it
kept : (g : _) (c : After-keep g) → g.K.Keeper.is_known → g.K.Keeper.represents c.args.round.now.keeper c.args.round.now.book → (line : List ℕ) →
    AsksForPlan c.args.asked.end c.args.asked.at_most c.args.asked.tx.now c.args.asked.cert.now line →
    LeavesOnly g.K.Keeper.moment g.K.Keeper.left_since c.args.round.now.keeper c.keep.new.self
    (ReadsOrReplied g.K.Keeper.reads_as (RepliesTo g.P.OutputStore.is_known (HasFailedOutput g.P.Output.Sink.failures) c.args.settings.now.on_limit line)
    c.args.round.now.book)
kept g c = λ keeps stands line asks.
    let done = c.in-Ok.ensures.planned in
    named g.K.Keeper.moment g.K.Keeper.left_since c.args.round.now.keeper c.keep.new.self _ _
    (c.keep.ensures.any_moment keeps c.args.round.now.book c.drop_first.new.self stands (taken g c))
    (λ left is.
    either_read (RepliesTo g.P.OutputStore.is_known (HasFailedOutput g.P.Output.Sink.failures) c.args.settings.now.on_limit line)
    c.args.round.now.book c.drop_first.new.self _ g.K.Keeper.reads_as left
    (placed_plan c.args.asked.tx.now c.args.asked.cert.now done.sent ∷ [], front_replied _ _ _ _ _ _ _ _ _ _ _ _ _ _ asks (rw c.in-Some.is at done.planned) c.drop_first.ensures)
    is)

pub returns-in_err-keep-clause-any_moment : goal.returns-in_err-keep-clause-any_moment
returns-in_err-keep-clause-any_moment g c = kept g (goal.at.returns-in_err-keep-clause-any_moment g c).After-keep

pub returns-clause-any_moment : goal.returns-clause-any_moment
returns-clause-any_moment g c = kept g (goal.at.returns-clause-any_moment g c).After-keep

pub returns-in_err-keep-clause-cut : goal.returns-in_err-keep-clause-cut
returns-in_err-keep-clause-cut g c = λ keeps is_known stands line asks.
    let done = c.in-Ok.ensures.planned in
    let only = c.keep.ensures.any_moment keeps c.args.round.now.book c.drop_first.new.self stands
    (taken g (goal.at.returns-in_err-keep-clause-cut g c).After-keep) in
    if_err c.from_residual.result _
    (untold refl
    (λ left now.
    either_read
    (RepliesAndPlaces g.P.OutputStore.is_known (HasFailedOutput g.P.Output.Sink.failures) c.args.settings.now.on_limit line
    (g.P.OutputStore.placed c.args.settings.now.store) (g.P.OutputStore.placed c.place_plan.new.settings.store))
    c.args.round.now.book c.drop_first.new.self _ g.K.Keeper.reads_as left (
      placed_plan c.args.asked.tx.now c.args.asked.cert.now done.sent ∷ [],
      front_replied _ _ _ _ _ _ _ _ _ _ _ _ _ _ asks (rw c.in-Some.is at done.planned) c.drop_first.ensures,
      done.placed,
    )
    (only.each left (g.K.Keeper.counts_now c.keep.new.self (g.K.Keeper.moment c.args.round.now.keeper) left keeps only.later now))))

pub returns-clause-replied : goal.returns-clause-replied
returns-clause-replied g c = λ is_known line asks.
    let done = c.in-Ok.ensures.planned in
    told_this c.print_planned-2.result _ _ _ _ _ _ (placed_plan c.args.asked.tx.now c.args.asked.cert.now done.sent ∷ []) _
    (front_replied _ _ _ _ _ _ _ _ _ _ _ _ _ _ asks (rw c.in-Some.is at done.planned) c.drop_first.ensures) done.placed ((c.print_planned-2.ensures.printed is_known).0)

pub returns-clause-stands : goal.returns-clause-stands
returns-clause-stands g c = λ stands.
    if_ok c.print_planned-2.result _
    (c.in_ok-keep.ensures.stands c.args.round.now.book c.drop_first.new.self stands (taken g (goal.at.returns-clause-stands g c).After-keep))

pub returns-clause-cut : goal.returns-clause-cut
returns-clause-cut g c = λ keeps is_known stands line asks.
    let done = c.in-Ok.ensures.planned in
    let kept = c.in_ok-keep.ensures.stands c.args.round.now.book c.drop_first.new.self stands (taken g (goal.at.returns-clause-cut g c).After-keep) in
    cut_told g.K.Keeper keeps kept c.print_planned-2.result _ _ _ (
      placed_plan c.args.asked.tx.now c.args.asked.cert.now done.sent ∷ [],
      front_replied _ _ _ _ _ _ _ _ _ _ _ _ _ _ asks (rw c.in-Some.is at done.planned) c.drop_first.ensures,
      done.placed,
    )
    (c.print_planned-2.ensures.printed is_known)

pub returns-in_err-keep-clause-explained : goal.returns-in_err-keep-clause-explained
returns-in_err-keep-clause-explained g c = λ counts stands.
    let done = c.in-Ok.ensures.planned in
    let small : c.in-Some.front.pages < 2 ^ 64 = front_small _ _ _ _ _ _ _ _ _ (rw c.in-Some.is at done.planned) in
    let line : IsLine (fields_of c.in-Some.front.row) = subst IsLine (sym (rw c.in-Some.is at c.in-Ok.ensures.edit)) (sent_line c.in-Some.front.pages small) in
    let cause = not_kept (HasFailed (g.O.Sink.failures c.args.out.now) (g.O.Sink.failures c.args.out.now)) _ _ _ _ _ _ c.in_err-keep.field-0.0
    line.line (line_length _ _ _ (taken g (goal.at.returns-in_err-keep-clause-explained g c).After-keep))
    (c.in_err-keep.ensures.explained counts c.args.round.now.book stands) in
    search (rules, cause)

pub returns-clause-explained : goal.returns-clause-explained
returns-clause-explained g c = λ counts stands.
    not_told c.print_planned-2.result _ _ c.print_planned-2.ensures.lost c.print_planned-2.ensures.failures.1
