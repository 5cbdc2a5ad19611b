use Rattle.pocsag_c.proofs.Prelude.{inr, refl, subst, sym, AreReadAs}
use Rattle.pocsag_pager.specs.declared.fault.PagerFault.TheVariants as hearing
use Rattle.pocsag_c.proofs.Devices.{never_failed}
use Rattle.pocsag_c.proofs.Fronts.{told}
use Rattle.pocsag_c.proofs.listings.text_heard.Goals as goal

pub returns-in-Err-clause-of_bytes : goal.returns-in-Err-clause-of_bytes
returns-in-Err-clause-of_bytes c =
    c.refused_hearing.ensures.of_bytes (never_failed c.args.address _ c.in-Err.fault c.in-Err.ensures.err)

pub returns-clause-fault : goal.returns-clause-fault
returns-clause-fault c = inr (record {
  reading = c.args.reading;
  same_number = refl;
  bytes = c.bytes.result.now;
  read = subst (AreReadAs c.args.reading c.args.tx.now) (sym c.bytes.ensures) c.in_ok-read.ensures.read;
  holds = told _ _ hearing.OutOfMemory c.plain.result _ _ (inr (c.in-Ok.ensures.ok, refl)) c.plain.ensures refl refl;
})
