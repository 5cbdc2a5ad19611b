use Rattle.pocsag_pages.proofs.Prelude.{bytes_left}
use Rattle.pocsag_pages.proofs.CsvRecords.{rows_read, rows_over, unread_is}
use Rattle.pocsag_pages.proofs.csv_row.next_row.Goals as goal

pub returns-in-Ok-clause-found : goal.returns-in-Ok-clause-found
returns-in-Ok-clause-found c = λ h.
    let r = c.in-Ok.ensures.reads c.requires.trim c.requires.ready in
    let n = rw (c.requires.config, h) at r.0 in
    rw (unread_is bytes_left c.read_byte_record.new.self r.1) (rows_read _ _ _ _ _ c.requires.known n)

pub returns-in-Ok-clause-none : goal.returns-in-Ok-clause-none
returns-in-Ok-clause-none c = λ h.
    let r = c.in-Ok.ensures.reads c.requires.trim c.requires.ready in
    let n = rw (c.requires.config, h) at r.0 in
    rows_over _ _ _ _ _ c.requires.known n
