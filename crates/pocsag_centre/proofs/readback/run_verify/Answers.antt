use Rattle.pocsag_centre.proofs.Prelude.{subst, sym, ran_streamed, HasFailed, verdict}
use Rattle.pocsag_centre.proofs.Verified.{streamed}
use Rattle.pocsag_centre.proofs.readback.run_verify.Goals as goal

pub returns : goal.returns
returns g c =
    let read = c.read_round-round.ensures in
    record {
      ran = ran_streamed _ c.verify.result
          (streamed g.P.Source g.T.Source g.C.Source g.O.Sink verdict c.args.search c.args.files.now c.verify.new.files c.args.out.now c.verify.new.out c.read_round-round.result c.verify.result
          read.ok read.err read.uncut read.cut
          (λ same. subst (λ p. HasFailed (g.P.Source.failures c.args.files.now.pages) (g.P.Source.failures p)) (sym c.verify.ensures.kept) (read.failed same))
          c.verify.ensures.no_round c.verify.ensures.streams)
          c.end.ensures.done c.end.ensures.fault;
    }
