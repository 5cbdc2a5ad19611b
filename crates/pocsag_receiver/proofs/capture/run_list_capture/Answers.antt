use Rattle.pocsag_receiver.proofs.Prelude.{over_reader, ran_streamed, lists_capture}
use Rattle.pocsag_receiver.proofs.CapturedTexts.{captured_sent, captured_whole}
use Rattle.pocsag_receiver.proofs.capture.run_list_capture.Goals as goal

pub returns : goal.returns
returns g c =
    let picking = c.args.capture_listing.now.picking in
    let heard = c.list_captured.new.capture_listing.heard.items in
    let ran = ran_streamed (over_reader (lists_capture picking heard) g.T.Source g.O.Sink c.args.tx.now c.list_captured.new.tx) c.list_captured.result
    c.list_captured.ensures.streams c.end.ensures.done c.end.ensures.fault in record {
      ran = ran;
      whole = captured_whole g.T.Source picking heard ran;
      sent = captured_sent g.T.Source picking heard ran;
    }
