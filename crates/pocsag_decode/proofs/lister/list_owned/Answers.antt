use Rattle.pocsag_decode.proofs.Prelude.{arith}
use Rattle.pocsag_decode.proofs.PageRows.{listing_some}
use Rattle.pocsag_decode.proofs.lister.list_owned.Goals as goal

pub returns-in_err-records-clause-stopped : goal.returns-in_err-records-clause-stopped
returns-in_err-records-clause-stopped g c = λ is_known _. omega (arith, listing_some c.args.pages.items)
