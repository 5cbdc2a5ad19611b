use Rattle.pocsag_pages.proofs.Prelude.{◌≡◌, ◌+◌, ◌-◌, ◌≤◌, false, length, ◌++◌}
use Rattle.pocsag_pages.proofs.whole.read_whole.Given as goal

-- what was read so far, and what is still held, are what was held; each read so far gave a byte
abbrev pub invariant-loop-count : goal.invariant-loop-count
invariant-loop-count g l = record {
  size : length l.piece ≡ 8192;
  fits : l.len ≤ l.max;
  kept : l.is_refused ≡ false → length l.bytes.items ≡ l.len;
  held : g.S.Source.is_known → l.is_refused ≡ false → g.S.Source.held l.fn.source ≡ l.bytes.items ++ g.S.Source.held l.source;
  long : g.S.Source.is_known → length (g.S.Source.held l.fn.source) ≡ l.len + length (g.S.Source.held l.source);
  still : g.S.Source.is_known → g.S.Source.is_cut l.source ≡ g.S.Source.is_cut l.fn.source;
  called : g.S.Source.calls l.fn.source ≤ g.S.Source.calls l.source;
  calls : g.S.Source.calls l.source ≤ g.S.Source.calls l.fn.source + l.len;
  failures : g.S.Source.failures l.source ≡ g.S.Source.failures l.fn.source;
}

abbrev pub decreases-loop-count : goal.decreases-loop-count
decreases-loop-count g l = l.max - l.len
