use Rattle.pocsag_show.proofs.Prelude.{◌≡◌, subst, err_from_is_err_and, Explains}
use Rattle.pocsag_show.specs.declared.fault.ShowFault.TheVariants as fault
use Rattle.pocsag_show.proofs.Shown.{explained, failures_named, others_none, shows, shows_less, shows_nothing, shows_part}
use Rattle.pocsag_show.proofs.views.show.Goals as goal

pub returns-in_err-judged-clause-stopped : goal.returns-in_err-judged-clause-stopped
returns-in_err-judged-clause-stopped g c = λ is_known e.
    let p = err_from_is_err_and c.from_residual.result c.from_residual.ensures.1 in
    let X = c.args.bytes.now in
    let same : c.in_err-judged.field-0.0 ≡ fault.OutOfMemory = cc (p.1, p.2, e) in
    let why : Explains X fault.OutOfMemory = subst (Explains X) same c.in_err-judged.ensures.judged in
    shows_nothing c.args.view X (g.S.Sink.taken c.args.sink.now) why.0 why.1

pub returns : goal.returns
returns g c =
    let j = c.in_ok-judged.ensures.judged in
    let X = c.args.bytes.now in
    let start = c.args.sink.now in
    let now = c.emit_view.new.sink in
    let result = c.emit_view.result in
    let p = c.emit_view.ensures X j in
    record {
      shown = shows g.S.Sink start now c.args.view X j.pages j.reading result p;
      part = shows_part g.S.Sink start now c.args.view X j.pages j.reading result p;
      stopped = shows_less g.S.Sink start now c.args.view X j.pages j.reading result p;
      fault = explained g.S.Sink start now c.args.view X j.pages j.reading result p;
      untouched = others_none g.S.Sink start now c.args.view X j.pages j.reading result p;
      failures = failures_named g.S.Sink start now c.args.view X j.pages j.reading result p;
    }
