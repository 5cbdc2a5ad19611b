use Rattle.pocsag_open.proofs.Prelude.{[], List, ℕ, ◌++◌, ap, arith, refl, sym, append-nil, rules, LeavesOnly, then_on, ahead_of, HasFailedOutput, too_long, ReadsAfterLines}
use Rattle.pocsag_open.proofs.Survival.{Answered, all_answered, cut_due, none_answered, one_answered, read_next, read_now, restarted, survives_between, survives_within, unmoved}
use Rattle.pocsag_open.proofs.Printed.{told_once}
use Rattle.pocsag_open.proofs.session.run_open_kept.Goals.{After-compact_if_due, in-TooLong+in_ok-refuse-in-TooLong, in-Kept+in_ok-answer_line-in-Kept}
use Rattle.pocsag_open.proofs.Ends.{line_counts}
use Rattle.pocsag_open.proofs.session.run_open_kept.Goals as goal

pub returns-in_err-lines-clause-survives : goal.returns-in_err-lines-clause-survives
returns-in_err-lines-clause-survives g c = λ keeps reads is_known stands.
    survives_between (none_answered refl) (restarted g.K.Keeper keeps stands)

pub returns-in_err-lines-clause-any_moment : goal.returns-in_err-lines-clause-any_moment
returns-in_err-lines-clause-any_moment g c = λ keeps reads is_known stands.
    unmoved g.K.Keeper keeps stands (λ left is. read_now (none_answered {out = []} {placed = []} refl) is)

pub loop-answered-init : goal.loop-answered-init
loop-answered-init g c = record {
  unfailed = refl;
  on_limit = refl;
  none_left = λ is_known none. none;
  output = refl;
  keeper = λ counts. refl;
  counted = λ reads. rw c.in_ok-lines.ensures.ahead (omega arith);
  stands = λ stands. stands;
  answered = λ reads is_known.
      none_answered (ap (λ (l : List ℕ). l ++ g.I.Source.held c.args.input.now) c.in_ok-lines.ensures.ahead);
  moments = λ keeps reads is_known stands. unmoved g.K.Keeper keeps stands (λ left is. read_now (none_answered {out = []} {placed = []} refl) is);
}

pub returns-in_err-read_line-clause-survives : goal.returns-in_err-read_line-clause-survives
returns-in_err-read_line-clause-survives g c = λ keeps reads is_known stands.
    survives_between (c.loop-answered.invariant.answered reads is_known) (restarted g.K.Keeper keeps (c.loop-answered.invariant.stands stands))

pub returns-in-End-clause-survives : goal.returns-in-End-clause-survives
returns-in-End-clause-survives g c = λ keeps reads is_known stands.
    survives_between (c.loop-answered.invariant.answered reads is_known) (restarted g.K.Keeper keeps (c.loop-answered.invariant.stands stands))

pub returns-clause-survives : goal.returns-clause-survives
returns-clause-survives g c = λ keeps reads is_known stands.
    survives_between (c.loop-answered.invariant.answered reads is_known) (restarted g.K.Keeper keeps (c.loop-answered.invariant.stands stands))

pub returns-in-End-clause-session : goal.returns-in-End-clause-session
returns-in-End-clause-session g c = λ reads is_known.
    let none = rw c.in-End.is at (c.in_ok-read_line.ensures.found reads) in
    all_answered (c.loop-answered.invariant.answered reads is_known) none

pub returns-in_err-refuse-in-TooLong-clause-survives : goal.returns-in_err-refuse-in-TooLong-clause-survives
returns-in_err-refuse-in-TooLong-clause-survives g c = λ keeps reads is_known stands.
    let found = rw c.in-TooLong.is at (c.in_ok-read_line.ensures.found reads) in
    survives_within (c.loop-answered.invariant.answered reads is_known) found.1
    (cut_due _ _ _ _ _ _ _ _ ([], too_long found.2 refl refl refl, λ known. sym (append-nil _))
    (restarted g.K.Keeper keeps (c.loop-answered.invariant.stands stands)) (c.in_err-refuse-in-TooLong.ensures.printed is_known).1)

pub returns-in_err-answer_line-in-Kept-clause-survives : goal.returns-in_err-answer_line-in-Kept-clause-survives
returns-in_err-answer_line-in-Kept-clause-survives g c = λ keeps reads is_known stands.
    let found = rw c.in-Kept.is at (c.in_ok-read_line.ensures.found reads) in
    let cut = rw (c.as_slice.ensures.value, c.loop-answered.invariant.on_limit) at
    (c.in_err-answer_line-in-Kept.ensures.cut keeps is_known (c.loop-answered.invariant.stands stands)) in
    survives_within (c.loop-answered.invariant.answered reads is_known) found.0 cut

pub returns-in_err-answer_line-in-Kept-clause-any_moment : goal.returns-in_err-answer_line-in-Kept-clause-any_moment
returns-in_err-answer_line-in-Kept-clause-any_moment g c = λ keeps reads is_known stands.
    let found = rw c.in-Kept.is at (c.in_ok-read_line.ensures.found reads) in
    let more = rw (c.as_slice.ensures.value, c.loop-answered.invariant.on_limit) at (c.answer_line.ensures.any_moment keeps (c.loop-answered.invariant.stands stands)) in
    then_on g.K.Keeper.moment g.K.Keeper.left_since _ c.loop-answered.round.keeper c.answer_line.new.round.keeper _ _
    (c.loop-answered.invariant.moments keeps reads is_known stands) more
    (λ left is. read_next (c.loop-answered.invariant.answered reads is_known) found.0 is)

-- what was read is answered before what keeps the edits may put them shorter
answered : (g : _) (c : After-compact_if_due g) → g.I.Source.is_known → g.O.Sink.is_known →
    Answered g.P.OutputStore.is_known (HasFailedOutput g.P.Output.Sink.failures) c.args.settings.now.on_limit (g.I.Source.held c.args.input.now) (ahead_of c.read_line.new.self ++ g.I.Source.held c.read_line.new.source)
    c.args.round.now.book c.match-branch-3.round.book (g.O.Sink.taken c.args.out.now) (g.O.Sink.taken c.match-branch-3.out)
    (g.P.OutputStore.placed c.args.settings.now.store) (g.P.OutputStore.placed c.match-branch-3.settings.store)
answered g c reads is_known = elim c.match-branch-3.branch [
  | in-TooLong+in_ok-refuse-in-TooLong w ↦
      let found = rw w.in-TooLong.is at (c.in_ok-read_line.ensures.found reads) in
      let printed = w.in_ok-refuse-in-TooLong.ensures.printed is_known in
      rw (w.settings-is, w.round-is, w.out-is)
      (one_answered (c.loop-answered.invariant.answered reads is_known) found.1
      (told_once _ _ _ _ _ _ (too_long found.2 refl refl refl) printed.0))
  | in-Kept+in_ok-answer_line-in-Kept w ↦
      let found = rw w.in-Kept.is at (c.in_ok-read_line.ensures.found reads) in
      let reply = rw (w.as_slice.ensures.value, c.loop-answered.invariant.on_limit) at (w.in_ok-answer_line-in-Kept.ensures.replied is_known) in
      rw (w.settings-is, w.round-is, w.out-is)
      (one_answered (c.loop-answered.invariant.answered reads is_known) found.0 reply)
]

now_stands : (g : _) (c : After-compact_if_due g) → g.K.Keeper.represents c.args.round.now.keeper c.args.round.now.book →
    g.K.Keeper.represents c.match-branch-3.round.keeper c.match-branch-3.round.book
now_stands g c stands = elim c.match-branch-3.branch [
  | in-TooLong+in_ok-refuse-in-TooLong w ↦ rw w.round-is (c.loop-answered.invariant.stands stands)
  | in-Kept+in_ok-answer_line-in-Kept w ↦
      rw w.round-is (w.in_ok-answer_line-in-Kept.ensures.stands (c.loop-answered.invariant.stands stands))
]

moments : (g : _) (c : After-compact_if_due g) → g.K.Keeper.is_known → g.I.Source.is_known → g.O.Sink.is_known →
    g.K.Keeper.represents c.args.round.now.keeper c.args.round.now.book →
    LeavesOnly g.K.Keeper.moment g.K.Keeper.left_since c.args.round.now.keeper c.compact_if_due.new.self
    (ReadsAfterLines g.P.OutputStore.is_known (HasFailedOutput g.P.Output.Sink.failures) c.args.settings.now.on_limit (g.I.Source.held c.args.input.now) c.args.round.now.book g.K.Keeper.reads_as)
moments g c keeps reads is_known stands =
    let so_far : LeavesOnly g.K.Keeper.moment g.K.Keeper.left_since c.args.round.now.keeper c.match-branch-3.round.keeper
    (ReadsAfterLines g.P.OutputStore.is_known (HasFailedOutput g.P.Output.Sink.failures) c.args.settings.now.on_limit (g.I.Source.held c.args.input.now) c.args.round.now.book g.K.Keeper.reads_as) = elim c.match-branch-3.branch [
      | in-TooLong+in_ok-refuse-in-TooLong w ↦ rw w.round-is (c.loop-answered.invariant.moments keeps reads is_known stands)
      | in-Kept+in_ok-answer_line-in-Kept w ↦
          let found = rw w.in-Kept.is at (c.in_ok-read_line.ensures.found reads) in
          let more = rw (w.as_slice.ensures.value, c.loop-answered.invariant.on_limit) at (w.answer_line.ensures.any_moment keeps (c.loop-answered.invariant.stands stands)) in
          rw w.round-is
          (then_on g.K.Keeper.moment g.K.Keeper.left_since _ c.loop-answered.round.keeper w.answer_line.new.round.keeper _ _
          (c.loop-answered.invariant.moments keeps reads is_known stands) more
          (λ left is. read_next (c.loop-answered.invariant.answered reads is_known) found.0 is))
    ] in
    then_on g.K.Keeper.moment g.K.Keeper.left_since _ c.match-branch-3.round.keeper c.compact_if_due.new.self _ _ so_far
    (c.compact_if_due.ensures.any_moment keeps (now_stands g c stands)) (λ left is. read_now (answered g c reads is_known) is)

pub returns-in_err-compact_if_due-clause-survives : goal.returns-in_err-compact_if_due-clause-survives
returns-in_err-compact_if_due-clause-survives g c = λ keeps reads is_known stands.
    let settled = (goal.at.returns-in_err-compact_if_due-clause-survives g c).After-compact_if_due in
    let settling = c.compact_if_due.ensures.any_moment keeps (now_stands g settled stands) in
    survives_between (answered g settled reads is_known)
    (λ left now.
    settling.each left (g.K.Keeper.counts_now c.compact_if_due.new.self (g.K.Keeper.moment c.match-branch-3.round.keeper) left keeps settling.later now))

pub returns-in_err-compact_if_due-clause-any_moment : goal.returns-in_err-compact_if_due-clause-any_moment
returns-in_err-compact_if_due-clause-any_moment g c = moments g (goal.at.returns-in_err-compact_if_due-clause-any_moment g c).After-compact_if_due

pub loop-answered-preserved : goal.loop-answered-preserved
loop-answered-preserved g c = record {
  unfailed = search rules;
  on_limit = search rules;
  none_left = search rules;
  output = search rules;
  keeper = search rules;
  counted = λ reads.
      let was = c.loop-answered.invariant.counted reads in
      elim c.match-branch-3.branch [
        | in-TooLong+in_ok-refuse-in-TooLong w ↦
            let found = rw w.in-TooLong.is at (c.in_ok-read_line.ensures.found reads) in
            let less = line_counts _ _ _ found.1 in
            omega (arith, was, less)
        | in-Kept+in_ok-answer_line-in-Kept w ↦
            let found = rw w.in-Kept.is at (c.in_ok-read_line.ensures.found reads) in
            let less = line_counts _ _ _ found.0 in
            omega (arith, was, less)
      ];
  stands = λ stands. c.in_ok-compact_if_due.ensures.stands (now_stands g (goal.at.loop-answered-preserved g c).After-compact_if_due stands);
  answered = answered g (goal.at.loop-answered-preserved g c).After-compact_if_due;
  moments = moments g (goal.at.loop-answered-preserved g c).After-compact_if_due;
}
