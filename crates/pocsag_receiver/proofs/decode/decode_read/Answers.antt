use Rattle.pocsag_receiver.proofs.Prelude.{decodes, lists}
use Rattle.pocsag_receiver.specs.declared.repair.Repairing.{Repairing}
use Rattle.pocsag_receiver.proofs.Works.{over_read, over_repaired}
use Rattle.pocsag_receiver.proofs.decode.decode_read.Goals as goal

pub returns : goal.returns
returns g c =
    let before = c.args.decoding.now in
    let read = c.in_ok-read.ensures in
    let repaired = c.repair_asked-decoding in
    let listed = c.list_decoded_in in
    let after : Repairing = record { is_asked = before.repairing.is_asked; corrected = repaired.result } in
    record {
      streams = over_read g.O.Sink _ _ listed.result (decodes before.form before.repairing after) g.T.Source c.args.tx.now c.read_transmission.new.tx _ _
          c.as_mut_slice-bytes.ensures.value read.whole read.uncut read.fits
          (over_repaired g.O.Sink _ _ listed.result (lists before.form) before.repairing after _ repaired.new.bytes repaired.ensures.read repaired.ensures.counted
          listed.ensures.streams);
    }
