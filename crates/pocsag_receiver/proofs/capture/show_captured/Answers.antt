use Rattle.pocsag_receiver.proofs.Prelude.{ℕ, List, subst, streams_as, over_bytes, ExplainsShowing, IsViewed, shows_capture, views}
use Rattle.pocsag_receiver.proofs.CapturedTexts.{show_explained}
use Rattle.pocsag_receiver.proofs.Received.{passed_on}
use Rattle.pocsag_receiver.proofs.Works.{over_read}
use Rattle.pocsag_receiver.proofs.capture.show_captured.Goals as goal

pub returns : goal.returns
returns g c =
    let one = c.in_ok-bytes.field-0 in
    let read = c.in_ok-read.ensures in
    let capture = c.as_slice-capture.result.now in
    let extracted = passed_on _ _ _ _ _ c.map_err.ensures.cases c.map_err.ensures.variant c.in_ok-bytes.was c.extract_one.ensures.extracted in
    let view = c.args.viewing.now.view in
    let nth = c.args.viewing.now.nth in
    let shown = streams_as (over_bytes (views view) g.O.Sink c.as_slice.result.now) (over_bytes (shows_capture view nth one.heard.items) g.O.Sink capture)
    g.O.Sink c.args.out.now c.show_bytes.new.out c.show_bytes.result (λ k. k) (λ s text p. (
      p.0,
      record {
        bytes = one.bytes.items;
        extracts = extracted;
        holds = subst (λ (l : List ℕ). IsViewed view l text) c.as_slice.ensures.value p.1;
      },
    )) (λ e why. show_explained view capture one.bytes.items nth one.heard.items e extracted
    (c.readings_have_no_fault.ensures one.bytes.items extracted.extracts.pages extracted.extracts.reads)
    (subst (λ (l : List ℕ). ExplainsShowing view l e) c.as_slice.ensures.value why)) (λ f why. why) (λ f why. why) c.show_bytes.ensures.streams in record {
      streams = over_read g.O.Sink _ _ c.show_bytes.result (shows_capture view nth one.heard.items) g.T.Source c.args.tx.now c.read_transmission.new.tx _ _
          c.as_slice-capture.ensures.value read.whole read.uncut read.fits shown;
    }
