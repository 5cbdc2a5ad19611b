use Rattle.pocsag_journal.proofs.Prelude.{subst, sym, IsWholeLine}
use Rattle.pocsag_journal.proofs.TextLines.{line_found}
use Rattle.pocsag_journal.proofs.lines.split_line.Goals as goal

pub returns-clause-line : goal.returns-clause-line
returns-clause-line c =
    subst IsWholeLine (sym c.split_at.ensures.front)
    (line_found c.args.bytes.now c.in_ok-end.end c.in_ok-end.ensures.0 c.in_ok-end.ensures.1)
