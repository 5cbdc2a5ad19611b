use Rattle.pocsag_receiver.proofs.Prelude.{shows, views}
use Rattle.pocsag_receiver.specs.declared.repair.Repairing.{Repairing}
use Rattle.pocsag_receiver.proofs.Works.{over_read, over_repaired}
use Rattle.pocsag_receiver.proofs.show.show_read.Goals as goal

pub returns : goal.returns
returns g c =
    let before = c.args.showing.now in
    let read = c.in_ok-read.ensures in
    let repaired = c.repair_asked-showing in
    let shown = c.show_bytes in
    let after : Repairing = record { is_asked = before.repairing.is_asked; corrected = repaired.result } in
    record {
      streams = over_read g.O.Sink _ _ shown.result (shows before.view before.repairing after) g.T.Source c.args.tx.now c.read_transmission.new.tx _ _
          c.as_mut_slice-bytes.ensures.value read.whole read.uncut read.fits
          (over_repaired g.O.Sink _ _ shown.result (views before.view) before.repairing after _ repaired.new.bytes repaired.ensures.read repaired.ensures.counted
          shown.ensures.streams);
    }
