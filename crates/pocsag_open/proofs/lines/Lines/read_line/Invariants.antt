use Rattle.pocsag_open.proofs.Prelude.{◌≡◌, ◌≤◌, List, ℕ, ◌++◌, length, HasNoLineFeed, IsSeen, ahead_of, line_limit}
use Rattle.pocsag_open.proofs.lines.Lines.read_line.Given as goal

-- the source has not failed, and what was seen of the line and what is left are what was there
abbrev pub invariant-loop-seen : goal.invariant-loop-seen
invariant-loop-seen g l = record {
  unfailed : g.S.Source.failures l.source ≡ g.S.Source.failures l.initial.source;
  short : length l.self.line.items ≤ line_limit;
  seen : g.S.Source.is_known → (seen : List ℕ) × HasNoLineFeed seen × IsSeen l.found seen l.self.line.items
      × (ahead_of l.fn.self ++ g.S.Source.held l.fn.source ≡ seen ++ (ahead_of l.self ++ g.S.Source.held l.source)) × (length seen ≡ l._seen);
}
