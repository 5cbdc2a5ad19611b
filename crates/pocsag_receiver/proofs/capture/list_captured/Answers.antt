use Rattle.pocsag_receiver.proofs.Prelude.{Ok, Err, inl, refl, err_from_is_err_and, fault_of_list, lists_capture}
use Rattle.pocsag_receiver.proofs.CapturedTexts.{captured_streamed}
use Rattle.pocsag_receiver.proofs.Received.{passed_on}
use Rattle.pocsag_receiver.proofs.Works.{over_read}
use Rattle.pocsag_receiver.proofs.capture.list_captured.Goals as goal

pub returns-in_err-judge_address : goal.returns-in_err-judge_address
returns-in_err-judge_address g c =
    let p = err_from_is_err_and c.from_residual-in_err-judge_address.result c.from_residual-in_err-judge_address.ensures.1 in
    let asked = c.args.capture_listing.now in
    let read = c.in_ok-read.ensures in
    record {
      streams = rw (p.1, p.2) (over_read g.O.Sink _ _ (Err c.in_err-judge_address.field-0.0) (lists_capture asked.picking asked.heard.items) g.T.Source c.args.tx.now c.read_transmission.new.tx _ _
          c.as_slice-capture.ensures.value read.whole read.uncut read.fits
          (λ _. tt, inl (c.in_err-judge_address.ensures.explained c.as_slice-capture.result.now, refl)));
    }

pub returns-in_err-listed : goal.returns-in_err-listed
returns-in_err-listed g c =
    let p = err_from_is_err_and c.from_residual-in_err-listed.result c.from_residual-in_err-listed.ensures.1 in
    let found = passed_on _ _ _ _ _ c.map_err.ensures.cases c.map_err.ensures.variant c.in_ok-found.was c.receptions_in.ensures.found in
    let few = passed_on _ _ _ _ _ c.map_err.ensures.cases c.map_err.ensures.variant c.in_ok-found.was c.receptions_in.ensures.few in
    let last = c.finish.ensures.ends in
    let picking = c.args.capture_listing.now.picking in
    let read = c.in_ok-read.ensures in
    let put = captured_streamed g.O.Sink c.as_slice-capture.result.now picking _ c.in_ok-found.found.items c.finish.result.items
    _ _ c.args.out.now c.list_rows-listed.new.sink (Err (fault_of_list c.in_err-listed.field-0.0)) few c.in_ok-judge_address.ensures.ok found c.as_slice.ensures.value
    c.in-Ok.ensures.all c.in_err-listed.ensures.lists last.0 last.1 in record {
      streams = rw (p.1, p.2) (over_read g.O.Sink _ _ (Err (fault_of_list c.in_err-listed.field-0.0)) (lists_capture picking c.finish.result.items) g.T.Source c.args.tx.now c.read_transmission.new.tx _ _
          c.as_slice-capture.ensures.value read.whole read.uncut read.fits put);
    }

pub returns : goal.returns
returns g c =
    let found = passed_on _ _ _ _ _ c.map_err.ensures.cases c.map_err.ensures.variant c.in_ok-found.was c.receptions_in.ensures.found in
    let few = passed_on _ _ _ _ _ c.map_err.ensures.cases c.map_err.ensures.variant c.in_ok-found.was c.receptions_in.ensures.few in
    let last = c.finish.ensures.ends in
    let picking = c.args.capture_listing.now.picking in
    let read = c.in_ok-read.ensures in
    let put = captured_streamed g.O.Sink c.as_slice-capture.result.now picking _ c.in_ok-found.found.items c.finish.result.items _
    _ c.args.out.now c.list_rows-listed.new.sink (Ok 0) few c.in_ok-judge_address.ensures.ok found c.as_slice.ensures.value c.in-Ok.ensures.all
    c.in_ok-listed.ensures.lists last.0 last.1 in record {
      streams = over_read g.O.Sink _ _ (Ok 0) (lists_capture picking c.finish.result.items) g.T.Source c.args.tx.now c.read_transmission.new.tx _ _
          c.as_slice-capture.ensures.value read.whole read.uncut read.fits put;
    }
