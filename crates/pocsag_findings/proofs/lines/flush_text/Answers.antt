use Rattle.pocsag_findings.proofs.Prelude.{err_from_is_err_and}
use Rattle.pocsag_findings.proofs.Adding.{adds_failed}
use Rattle.pocsag_findings.proofs.lines.flush_text.Goals as goal

pub returns-in_err-write_all : goal.returns-in_err-write_all
returns-in_err-write_all g c =
    let p = err_from_is_err_and c.from_residual.result c.from_residual.ensures.1 in
    rw (p.1, p.2) (adds_failed g.O.Sink c.args.out.now c.write_all.new.sink c.as_bytes.result.now (λ k. (c.in_err-write_all.ensures.delivers k).1)
    c.in_err-write_all.ensures.failures.1)
