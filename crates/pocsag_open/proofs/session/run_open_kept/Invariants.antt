use Rattle.pocsag_open.proofs.Prelude.{◌≡◌, ◌+◌, ◌≤◌, ◌++◌, length, None, LeavesOnly, ahead_of, HasFailedOutput, ReadsAfterLines}
use Rattle.pocsag_open.proofs.Survival.{Answered}
use Rattle.pocsag_open.proofs.session.run_open_kept.Given as goal

-- the input, the output and what keeps the edits have not failed, each line so far took a byte, no output is left over, the lines so far are answered, what is kept stands for the pages, and whatever a crash left so far is
-- read as those after some of the lines
abbrev pub invariant-loop-answered : goal.invariant-loop-answered
invariant-loop-answered g l = record {
  unfailed : g.I.Source.failures l.input ≡ g.I.Source.failures l.initial.input;
  on_limit : l.settings.on_limit ≡ l.fn.settings.on_limit;
  none_left : g.P.OutputStore.is_known → g.P.OutputStore.made_for l.fn.settings.store ≡ None → g.P.OutputStore.made_for l.settings.store ≡ None;
  output : g.O.Sink.failures l.out ≡ g.O.Sink.failures l.fn.out;
  keeper : g.K.Keeper.counts → g.K.Keeper.failures l.round.keeper ≡ g.K.Keeper.failures l.fn.round.keeper;
  counted : g.I.Source.is_known → l._answered + length (ahead_of l.lines ++ g.I.Source.held l.input) ≤ length (g.I.Source.held l.fn.input);
  stands : g.K.Keeper.represents l.fn.round.keeper l.fn.round.book → g.K.Keeper.represents l.round.keeper l.round.book;
  answered : g.I.Source.is_known → g.O.Sink.is_known → Answered g.P.OutputStore.is_known (HasFailedOutput g.P.Output.Sink.failures) l.fn.settings.on_limit (g.I.Source.held l.fn.input)
      (ahead_of l.lines ++ g.I.Source.held l.input) l.fn.round.book l.round.book (g.O.Sink.taken l.fn.out) (g.O.Sink.taken l.out)
      (g.P.OutputStore.placed l.fn.settings.store) (g.P.OutputStore.placed l.settings.store);
  moments : g.K.Keeper.is_known → g.I.Source.is_known → g.O.Sink.is_known → g.K.Keeper.represents l.fn.round.keeper l.fn.round.book →
      LeavesOnly g.K.Keeper.moment g.K.Keeper.left_since l.fn.round.keeper l.round.keeper
      (ReadsAfterLines g.P.OutputStore.is_known (HasFailedOutput g.P.Output.Sink.failures) l.fn.settings.on_limit (g.I.Source.held l.fn.input) l.fn.round.book g.K.Keeper.reads_as);
}
