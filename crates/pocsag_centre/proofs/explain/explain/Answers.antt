use Rattle.pocsag_centre.proofs.Prelude.{◌≡◌, ℕ, List, Bool, ap, inl, inr, refl, err_from_is_err_and, HasFailed, End, bound_tree_of, IsStreamOf, Work, fault_of_explanation, ExplainsJudging, verdict_status, judges, streaming, CentreFault}
use Rattle.std.proofs.Common.{Err}
use Rattle.pocsag_words.specs.declared.device.Sink.{Ghosts as Writer}
use Rattle.pocsag_findings.specs.Beginnings.{GivesVerdict}
use Rattle.pocsag_findings.specs.Writing.{TookLessOfVerdict, TookPartOfVerdict}
use Rattle.pocsag_findings.specs.declared.fault.ExplanationFault.{ExplanationFault}
use Rattle.pocsag_findings.specs.declared.fault.ExplanationFault.TheVariants as explanation
use Rattle.pocsag_findings.specs.declared.format.Format.{Format}
use Rattle.pocsag_centre.specs.declared.fault.CentreFault.TheVariants as fault
use Rattle.pocsag_shell.specs.declared.fault.FileFault.TheVariants as file_fault
use Rattle.pocsag_centre.proofs.Judged.{not_shown_told, shown_told, verdict_told}
use Rattle.pocsag_centre.proofs.explain.explain.Goals as goal

-- a text that was begun, and why it was not ended
unended : {O : Type 0} (Out : Writer O) (out out' : O) (work : Work CentreFault) (f : Format) (is_shown : Bool) (end : End) (batches : ℕ)
    (e : ExplanationFault) → ((text : List ℕ) → GivesVerdict f is_shown end batches text → work.prints (verdict_status is_shown) text)
    → work.lost (fault.File file_fault.Write) → (e ≡ explanation.WriteFault → HasFailed (Out.failures out) (Out.failures out'))
    → (e ≡ explanation.WriteFault → TookPartOfVerdict Out f is_shown end batches out out')
    → (e ≡ explanation.OutOfMemory → TookLessOfVerdict Out f is_shown end batches out out')
    → IsStreamOf (streaming work) Out out out' (Err (fault_of_explanation e))
unended Out out out' work f is_shown end batches explanation.WriteFault prints lost failed part less =
    let p = part refl in
    (λ _. tt, inr (inl (lost, failed refl, λ _. (verdict_status is_shown, p.text, prints p.text p.told, p.taken))))
unended Out out out' work f is_shown end batches explanation.OutOfMemory prints lost failed part less =
    let p = less refl in
    (λ _. tt, inr (inr (refl, λ _. (verdict_status is_shown, p.text, prints p.text p.told, λ k. (p.taken k, p.less k)))))

pub returns-in_err-write_explanation : goal.returns-in_err-write_explanation
returns-in_err-write_explanation g c =
    let certificate = c.in-Ok.certificate in
    let judged = c.verdict_on-verdict in
    let p = err_from_is_err_and c.from_residual-in_err-write_explanation.result c.from_residual-in_err-write_explanation.ensures.1 in
    record {
      streams = rw (p.1, p.2)
          (unended g.O.Sink c.args.out.now c.write_explanation.new.out
          (judges g.P.Source g.C.Source (GivesVerdict c.args.format) ExplainsJudging c.args.files.now.pages c.read_round.new.source
          c.args.files.now.cert c.read_certificate.new.reader)
          c.args.format judged.result.is_shown certificate.end certificate.batches
          c.in_err-write_explanation.field-0.0
          (λ text told. (
            λ k. c.in_ok-round.ensures.uncut k,
            verdict_told g.P.Source g.C.Source _ _ c.in_ok-round.round certificate.end certificate.batches (bound_tree_of certificate.tree)
                (λ k. c.in_ok-round.ensures.ok k) (λ u. c.in-Ok.ensures.found u) (GivesVerdict c.args.format) text judged.result.is_shown told
                judged.ensures.accepted judged.ensures.bound,
          ))
          refl (λ e. c.in_err-write_explanation.ensures.failed (ap Err e))
          (λ e. c.in_err-write_explanation.ensures.part (ap Err e)) (λ e. c.in_err-write_explanation.ensures.stopped (ap Err e)));
    }

pub returns-then-verdict : goal.returns-then-verdict
returns-then-verdict g c =
    let certificate = c.in-Ok.certificate in
    let judged = c.verdict_on-verdict in
    let told = c.in_ok-write_explanation.ensures.told in
    record {
      streams = (
        λ _. (
          told.text,
          (
            λ k. c.in_ok-round.ensures.uncut k,
            shown_told g.P.Source g.C.Source _ _ c.in_ok-round.round certificate.end certificate.batches (bound_tree_of certificate.tree)
                (λ k. c.in_ok-round.ensures.ok k) (λ u. c.in-Ok.ensures.found u) (GivesVerdict c.args.format) _ _ _ refl refl
                (rw c.if-verdict.true at told.told) (judged.ensures.accepted.0 c.if-verdict.true) (judged.ensures.bound c.if-verdict.true),
          ),
          told.taken,
        ),
        tt,
      );
    }

pub returns : goal.returns
returns g c =
    let certificate = c.in-Ok.certificate in
    let judged = c.verdict_on-verdict in
    let told = c.in_ok-write_explanation.ensures.told in
    record {
      streams = (
        λ _. (
          told.text,
          (
            λ k. c.in_ok-round.ensures.uncut k,
            not_shown_told g.P.Source g.C.Source _ _ c.in_ok-round.round certificate.end certificate.batches (bound_tree_of certificate.tree)
                (λ k. c.in_ok-round.ensures.ok k) (λ u. c.in-Ok.ensures.found u) (GivesVerdict c.args.format) _ _ _ refl refl
                (rw c.if-verdict.false at told.told) (λ accepted. let yes = judged.ensures.accepted.1 accepted in cc),
          ),
          told.taken,
        ),
        tt,
      );
    }
