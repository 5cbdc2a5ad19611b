-- How contracts see findings: without where their lists lie in memory.
use Rattle.std.specs.Prelude.{ℕ, Bool, List, map}
use Rattle.pocsag_findings.specs.declared.finding.Column.{Column}
use Rattle.pocsag_findings.specs.declared.finding.Fact.{Fact}
use Rattle.pocsag_findings.specs.declared.finding.Finding.{Finding}
use Rattle.pocsag_findings.specs.declared.finding.Narrowed.{Narrowed}
use Rattle.pocsag_findings.specs.declared.finding.Reached.{Reached}
use Rattle.pocsag_findings.specs.declared.finding.Share.{Share}

-- What a finding states.
pub record Stated : Type 0 where
  pub depth : ℕ
  pub reached : Reached
  pub fact : Fact
  pub shares : List Share
  pub columns : List Column
  pub narrowed : List Narrowed
  pub caps : List ℕ
  pub holds : Bool

abbrev pub stated : Finding → Stated
stated f = record {
  depth = f.depth;
  reached = f.reached;
  fact = f.fact;
  shares = f.shares.items;
  columns = f.columns.items;
  narrowed = f.narrowed.items;
  caps = f.caps.items;
  holds = f.holds;
}

-- What several findings state, in order.
abbrev pub all_stated : List Finding → List Stated
all_stated fs = map stated fs
