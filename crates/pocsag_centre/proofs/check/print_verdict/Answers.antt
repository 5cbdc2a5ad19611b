use Rattle.pocsag_centre.proofs.Prelude.{inl, inr, refl, false, err_from_is_err_and, bound_tree_of, IsVerdictLine, bound_text, verdict_text}
use Rattle.pocsag_centre.proofs.Judged.{not_shown_told, shown_told}
use Rattle.pocsag_centre.proofs.check.print_verdict.Goals as goal

pub returns-in_err-print_bound : goal.returns-in_err-print_bound
returns-in_err-print_bound g c =
    let certificate = c.in-Ok.certificate in
    let judged = c.verdict_on-verdict in
    let p = err_from_is_err_and c.from_residual-in_err-print_bound.result c.from_residual-in_err-print_bound.ensures.1 in
    let done = c.in_err-print_bound.ensures in
    let text = bound_text judged.result.end judged.result.batches in
    let told = shown_told g.P.Source g.C.Source c.args.pages.now c.args.cert.now c.in_ok-round.round certificate.end certificate.batches (bound_tree_of certificate.tree)
    (λ k. c.in_ok-round.ensures.ok k) (λ u. c.in-Ok.ensures.found u) IsVerdictLine text judged.result.end judged.result.batches
    judged.ensures.end judged.ensures.batches refl (judged.ensures.accepted.0 c.if-verdict.true) (judged.ensures.bound c.if-verdict.true) in
    record { streams = rw (p.1, p.2, done.lost) (λ _. tt, inr (inl (refl, done.failures.1, λ _. (0, text, (λ k. c.in_ok-round.ensures.uncut k, told), λ known. (done.delivers known).1)))) }

pub returns-then-verdict : goal.returns-then-verdict
returns-then-verdict g c =
    let certificate = c.in-Ok.certificate in
    let judged = c.verdict_on-verdict in
    let text = bound_text judged.result.end judged.result.batches in
    let told = shown_told g.P.Source g.C.Source c.args.pages.now c.args.cert.now c.in_ok-round.round certificate.end certificate.batches (bound_tree_of certificate.tree)
    (λ k. c.in_ok-round.ensures.ok k) (λ u. c.in-Ok.ensures.found u) IsVerdictLine text judged.result.end judged.result.batches
    judged.ensures.end judged.ensures.batches refl (judged.ensures.accepted.0 c.if-verdict.true) (judged.ensures.bound c.if-verdict.true) in
    record { streams = (λ _. (text, (λ k. c.in_ok-round.ensures.uncut k, told), λ known. (c.in_ok-print_bound.ensures.delivers known).0), tt) }

pub returns-in_err-put_whole : goal.returns-in_err-put_whole
returns-in_err-put_whole g c =
    let certificate = c.in-Ok.certificate in
    let judged = c.verdict_on-verdict in
    let p = err_from_is_err_and c.from_residual-in_err-put_whole.result c.from_residual-in_err-put_whole.ensures.1 in
    let done = c.in_err-put_whole.ensures in
    let text = verdict_text false certificate.end certificate.batches in
    let told = not_shown_told g.P.Source g.C.Source c.args.pages.now c.args.cert.now c.in_ok-round.round certificate.end certificate.batches (bound_tree_of certificate.tree)
    (λ k. c.in_ok-round.ensures.ok k) (λ u. c.in-Ok.ensures.found u) IsVerdictLine text certificate.end certificate.batches refl refl refl
    (λ accepted. let yes = judged.ensures.accepted.1 accepted in cc) in
    record { streams = rw (p.1, p.2, done.lost) (λ _. tt, inr (inl (refl, done.failures.1, λ _. (1, text, (λ k. c.in_ok-round.ensures.uncut k, told), λ known. (done.delivers known).1)))) }

pub returns : goal.returns
returns g c =
    let certificate = c.in-Ok.certificate in
    let judged = c.verdict_on-verdict in
    let text = verdict_text false certificate.end certificate.batches in
    let told = not_shown_told g.P.Source g.C.Source c.args.pages.now c.args.cert.now c.in_ok-round.round certificate.end certificate.batches (bound_tree_of certificate.tree)
    (λ k. c.in_ok-round.ensures.ok k) (λ u. c.in-Ok.ensures.found u) IsVerdictLine text certificate.end certificate.batches refl refl refl
    (λ accepted. let yes = judged.ensures.accepted.1 accepted in cc) in
    record { streams = (λ _. (text, (λ k. c.in_ok-round.ensures.uncut k, told), λ known. (c.in_ok-put_whole.ensures.delivers known).0), tt) }
