use Rattle.pocsag_open.proofs.ReadJournals.{read_lines}
use Rattle.pocsag_open.proofs.kept_streams.print_read.Goals as goal

pub returns-clause-printed : goal.returns-clause-printed
returns-clause-printed g c = λ known.
    rw (← read_lines c.args.line c.args.torn c.args.edits c.args.pages _ _ _ _ (c.in_ok-print_torn.ensures.printed known)
    c.by_count-of_edits.ensures c.by_count-of_pages.ensures) (c.print_numbers.ensures.delivers known).0
