use Rattle.pocsag_pages.proofs.Prelude.{◌≡◌, ◌<◌, ◌^◌, drop, decimal}
use Rattle.pocsag_pages.proofs.record.parse_decimal.Given as goal

-- the value of all the digits is that of those that are left, after the value so far
abbrev pub invariant-loop-digit : goal.invariant-loop-digit
invariant-loop-digit l = record {
  rest : decimal 0 l.digits ≡ decimal l.value (drop l.digit-index l.digits);
  small : l.value < 10 ^ l.digit-index;
}
