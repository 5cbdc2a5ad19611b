use Rattle.pocsag_c.proofs.Prelude.{inr, refl, subst, sym, AreReadAs}
use Rattle.pocsag_decode.specs.declared.fault.DecodeFault.TheVariants as decoding
use Rattle.pocsag_c.proofs.Devices.{fault_of_bytes}
use Rattle.pocsag_c.proofs.Fronts.{told}
use Rattle.pocsag_c.proofs.listings.text_decoded.Goals as goal

pub returns-in-Err-clause-of_bytes : goal.returns-in-Err-clause-of_bytes
returns-in-Err-clause-of_bytes c =
    let known = fault_of_bytes _ c.in-Err.fault c.in-Err.ensures.err in
    c.refused_transmission.ensures.of_bytes known.0 known.1

pub returns-clause-fault : goal.returns-clause-fault
returns-clause-fault c = inr (record {
  reading = c.args.reading;
  same_number = refl;
  bytes = c.bytes-bytes.result.now;
  read = subst (AreReadAs c.args.reading c.args.tx.now) (sym c.bytes-bytes.ensures) c.in_ok-read.ensures.read;
  holds = told _ _ decoding.OutOfMemory c.plain.result _ _ (inr (refl, c.in_default.ensures.ok)) c.plain.ensures refl refl;
})
