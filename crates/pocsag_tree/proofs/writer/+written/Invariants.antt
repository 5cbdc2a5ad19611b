use Rattle.pocsag_tree.proofs.Prelude.{◌≡◌, ◌≤◌, ◌++◌, drop, length, second_ranges, bounds_of, AreInRange, row}
use Rattle.pocsag_tree.proofs.writer.+written.Given as goal

-- what was taken so far, and the text of the trees that are left, are the text of the row
abbrev pub invariant-write_row-loop-tree : goal.invariant-write_row-loop-tree
invariant-write_row-loop-tree g l = record {
  in_range : AreInRange second_ranges (bounds_of (drop l.tree-index l.trees));
  succeeded : g.S.Sink.failures l.writer ≡ g.S.Sink.failures l.fn.writer;
  grown : g.S.Sink.is_known → length (g.S.Sink.taken l.fn.writer) ≤ length (g.S.Sink.taken l.writer);
  taken : g.S.Sink.is_known → g.S.Sink.taken l.writer ++ row (bounds_of (drop l.tree-index l.trees)) ≡ g.S.Sink.taken l.fn.writer
      ++ row (bounds_of l.trees);
}
