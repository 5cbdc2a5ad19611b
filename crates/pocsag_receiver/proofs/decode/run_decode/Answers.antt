use Rattle.pocsag_receiver.proofs.Prelude.{over_reader, ran_streamed, decodes}
use Rattle.pocsag_receiver.proofs.Works.{decoded_restored, decoded_taken}
use Rattle.pocsag_receiver.proofs.decode.run_decode.Goals as goal

pub returns : goal.returns
returns g c =
    let before = c.args.decoding.now in
    let after = c.decode_read.new.decoding.repairing in
    let ran = ran_streamed (over_reader (decodes before.form before.repairing after) g.T.Source g.O.Sink c.args.tx.now c.decode_read.new.tx) c.decode_read.result
    c.decode_read.ensures.streams c.end.ensures.done c.end.ensures.fault in record {
      ran = ran;
      restored = decoded_restored g.T.Source before.repairing after before.form ran;
      taken = decoded_taken g.T.Source before.repairing after before.form ran;
    }
