use Rattle.pocsag_pages.proofs.Prelude.{◌≡◌, false, take, has_address}
use Rattle.pocsag_pages.proofs.round_builder.RoundBuilder.has.Given as goal

abbrev pub invariant-loop-page : goal.invariant-loop-page
invariant-loop-page l = has_address (take l.page-index l.page-items) l.address ≡ false
