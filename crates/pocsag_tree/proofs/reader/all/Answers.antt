use Rattle.pocsag_tree.proofs.Prelude.{◌≡◌, ℕ, ◌≤◌, List, [], length, Err, refl, ap, arith, err_from_is_err_and, but_last, rules}
use Rattle.pocsag_tree.specs.declared.refusals.CertificateFault.TheVariants as fault
use Rattle.pocsag_tree.proofs.Fronts.{but_last_all, but_last_none}
use Rattle.pocsag_tree.proofs.Results.{all_ends, all_reads, all_stops}
use Rattle.pocsag_tree.proofs.reader.all.Goals as goal

pub returns-in_err-certificate-clause-bytes : goal.returns-in_err-certificate-clause-bytes
returns-in_err-certificate-clause-bytes g c = λ is_known.
    let p = err_from_is_err_and c.from_residual.result c.from_residual.ensures.1 in
    rw (p.1, p.2) (all_stops c.in_err-certificate.field-0.0 _ _ ((c.in_err-certificate.ensures.reads is_known).bytes 0 (omega arith)))

pub returns-in_err-certificate-clause-wanting : goal.returns-in_err-certificate-clause-wanting
returns-in_err-certificate-clause-wanting g c = λ is_known.
    let p = err_from_is_err_and c.from_residual.result c.from_residual.ensures.1 in
    let after : List ℕ = g.S.Source.held c.certificate.new.source in
    rw (p.1, p.2) (λ is.
    let same : c.in_err-certificate.field-0.0 ≡ fault.ReadFault = cc in
    rw ((rw same at ((c.in_err-certificate.ensures.reads is_known).bytes (length after) (omega arith))) refl) refl)

pub returns-in_err-certificate-clause-room : goal.returns-in_err-certificate-clause-room
returns-in_err-certificate-clause-room g c = λ is_known.
    let p = err_from_is_err_and c.from_residual.result c.from_residual.ensures.1 in
    let after : List ℕ = g.S.Source.held c.certificate.new.source in
    rw (p.1, p.2) (λ is.
    let same : c.in_err-certificate.field-0.0 ≡ fault.OutOfMemory = cc in
    (rw same at ((c.in_err-certificate.ensures.reads is_known).bytes (length after) (omega arith))) refl)

pub returns-in_err-end-clause-bytes : goal.returns-in_err-end-clause-bytes
returns-in_err-end-clause-bytes g c = λ is_known.
    let held : List ℕ = g.S.Source.held c.args.source.now in
    let rest : List ℕ = g.S.Source.held c.certificate.new.source in
    let p = err_from_is_err_and c.from_residual-in_err-end.result c.from_residual-in_err-end.ensures.1 in
    let read = rw (but_last_none held, but_last_none rest) at ((c.in_ok-certificate.ensures.reads is_known).bytes 0 (omega arith)) in
    rw (p.1, p.2) (all_ends c.in_err-end.field-0.0 held rest _ _ _ read (c.in_err-end.ensures.bytes is_known))

pub returns-in_err-end-clause-wanting : goal.returns-in_err-end-clause-wanting
returns-in_err-end-clause-wanting g c = λ is_known.
    let held : List ℕ = g.S.Source.held c.args.source.now in
    let rest : List ℕ = g.S.Source.held c.certificate.new.source in
    let after : List ℕ = g.S.Source.held c.end.new.source in
    let p = err_from_is_err_and c.from_residual-in_err-end.result c.from_residual-in_err-end.ensures.1 in
    rw (p.1, p.2) (λ is.
    let read_fault : c.in_err-end.field-0.0 ≡ fault.ReadFault = cc in
    let same : after ≡ rest = c.in_err-end.ensures.kept is_known (ap Err read_fault) in
    let shorter : length after ≤ length rest = omega (arith, ap length same) in
    let nothing : but_last (length after) rest ≡ [] = but_last_all (length after) rest (ap length same) in
    rw ((c.in_ok-certificate.ensures.reads is_known).bytes (length after) shorter) nothing)

pub returns-clause-bytes : goal.returns-clause-bytes
returns-clause-bytes g c = λ is_known.
    all_reads _ _ _ _ _ ((c.in_ok-certificate.ensures.reads is_known).bytes 0 (omega arith)) (search rules)
