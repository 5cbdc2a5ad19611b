use Rattle.pocsag_pages.proofs.Prelude.{◌≤◌, ◌+◌, take, HasSeen}
use Rattle.pocsag_pages.proofs.quotes.quote_fault.Given as goal

abbrev pub invariant-loop-byte : goal.invariant-loop-byte
invariant-loop-byte l = record {
  seen : HasSeen l.place (take l.byte-index l.text);
  few_records : l.place.number ≤ l.byte-index;
  few_lines : l.place.line ≤ l.byte-index + 1;
}
