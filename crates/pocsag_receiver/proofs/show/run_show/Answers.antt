use Rattle.pocsag_receiver.proofs.Prelude.{over_reader, ran_streamed, shows}
use Rattle.pocsag_receiver.proofs.Works.{shown_restored}
use Rattle.pocsag_receiver.proofs.show.run_show.Goals as goal

pub returns : goal.returns
returns g c =
    let before = c.args.showing.now in
    let after = c.show_read.new.showing.repairing in
    let ran = ran_streamed (over_reader (shows before.view before.repairing after) g.T.Source g.O.Sink c.args.tx.now c.show_read.new.tx) c.show_read.result
    c.show_read.ensures.streams c.end.ensures.done c.end.ensures.fault in record {
      ran = ran;
      restored = shown_restored g.T.Source before.repairing after before.view ran;
    }
