use Rattle.pocsag_findings.proofs.Prelude.{err_from_is_err_and}
use Rattle.pocsag_findings.proofs.Adding.{added_on, adds_on}
use Rattle.pocsag_findings.proofs.json.write_members.Goals as goal

pub returns-in_err-flush_text : goal.returns-in_err-flush_text
returns-in_err-flush_text g c =
    let p = err_from_is_err_and c.from_residual-in_err-flush_text.result c.from_residual-in_err-flush_text.ensures.1 in
    rw (p.1, p.2)
    (adds_on g.O.Sink c.args.out.now c.loop-numbering.out c.flush_text.new.out _ c.loop-numbering.invariant c.in_err-flush_text.ensures)

pub loop-numbering-preserved : goal.loop-numbering-preserved
loop-numbering-preserved g c =
    added_on g.O.Sink c.args.out.now c.loop-numbering.out c.flush_text.new.out _ c.loop-numbering.invariant c.in_ok-flush_text.ensures

pub returns : goal.returns
returns g c =
    adds_on g.O.Sink c.args.out.now c.loop-numbering.out c.flush_text-2.new.out c.flush_text-2.result c.loop-numbering.invariant
    c.flush_text-2.ensures
