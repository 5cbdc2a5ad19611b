use Rattle.pocsag_centre.proofs.Prelude.{ap, inl, inr, refl, err_from_is_err_and, Err, bound_tree_of}
use Rattle.pocsag_centre.specs.Verification.ExplainsUnverified.{no_certificate, not_due, not_taken}
use Rattle.pocsag_centre.proofs.Verified.{not_certificate, verified}
use Rattle.pocsag_centre.proofs.readback.verify.Goals as goal

pub returns-in_err-batches-clause-streams : goal.returns-in_err-batches-clause-streams
returns-in_err-batches-clause-streams g c =
    let p = err_from_is_err_and c.from_residual-in_err-batches.result c.from_residual-in_err-batches.ensures.1 in
    rw (c.in_ok-round.was, p.1, p.2) (λ _. tt, inl (not_taken c.in_err-batches.ensures.explained, refl))

pub returns-in-Err-clause-streams : goal.returns-in-Err-clause-streams
returns-in-Err-clause-streams g c =
    let e = c.in-Err.fault in
    rw c.in_ok-round.was (
      λ _. tt,
      inl (
        no_certificate e refl
            (not_certificate g.C.Source _ _ e (λ k. c.in-Err.ensures.fault k) (λ same. c.in-Err.ensures.failed (ap Err same)) (λ k same. c.in-Err.ensures.room k (ap Err same)))
            (c.in_ok-batches.batches, c.in_ok-batches.ensures.taken),
        refl,
      ),
    )

pub returns-then-not-shows_due-clause-streams : goal.returns-then-not-shows_due-clause-streams
returns-then-not-shows_due-clause-streams g c =
    let certificate = c.in-Ok.certificate in
    rw c.in_ok-round.was (
      λ _. tt,
      inl (
        not_due refl (λ u v.
            let sent = c.in_ok-batches.ensures.taken in
            record {
              batches = c.in_ok-batches.batches;
              transmission = rw (sent.held u) at sent.holds;
              end = certificate.end;
              bound = certificate.batches;
              tree = bound_tree_of certificate.tree;
              text = c.in-Ok.ensures.found v;
              undue = λ due. let yes = c.shows_due.ensures.due.1 due in cc;
            }),
        refl,
      ),
    )

pub returns-clause-streams : goal.returns-clause-streams
returns-clause-streams g c =
    let certificate = c.in-Ok.certificate in
    let sent = c.in_ok-batches.ensures.taken in
    rw c.in_ok-round.was (
      λ _. (
        _,
        (
          refl,
          refl,
          λ u v. verified c.args.search _ _ c.in_ok-round.round c.in_ok-batches.batches certificate.end certificate.batches (bound_tree_of certificate.tree)
              (rw (sent.held u) at sent.holds) (c.in-Ok.ensures.found v)
              (c.shows_due.ensures.due.0 c.if-not-shows_due.false) (c.shows_due.ensures.bound c.if-not-shows_due.false),
        ),
        λ known. (c.in_ok-put_whole.ensures.delivers known).0,
      ),
      tt,
    )

pub returns-in_err-put_whole-clause-streams : goal.returns-in_err-put_whole-clause-streams
returns-in_err-put_whole-clause-streams g c =
    let p = err_from_is_err_and c.from_residual-in_err-put_whole.result c.from_residual-in_err-put_whole.ensures.1 in
    let certificate = c.in-Ok.certificate in
    let sent = c.in_ok-batches.ensures.taken in
    let done = c.in_err-put_whole.ensures in
    rw (c.in_ok-round.was, p.1, p.2, done.lost) (
      λ _. tt,
      inr (inl (
        refl,
        done.failures.1,
        λ _. (
          0,
          _,
          (
            refl,
            refl,
            λ u v. verified c.args.search _ _ c.in_ok-round.round c.in_ok-batches.batches certificate.end certificate.batches (bound_tree_of certificate.tree)
                (rw (sent.held u) at sent.holds) (c.in-Ok.ensures.found v)
                (c.shows_due.ensures.due.0 c.if-not-shows_due.false) (c.shows_due.ensures.bound c.if-not-shows_due.false),
          ),
          λ known. (done.delivers known).1,
        ),
      )),
    )
