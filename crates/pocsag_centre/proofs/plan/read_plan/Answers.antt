use Rattle.pocsag_centre.proofs.Prelude.{err_from_is_err_and, fault_of_plan}
use Rattle.pocsag_centre.proofs.CutFiles.{told_of_round, told_of_whole}
use Rattle.pocsag_centre.proofs.plan.read_plan.Goals as goal

pub returns-in_err-round-clause-cut : goal.returns-in_err-round-clause-cut
returns-in_err-round-clause-cut g c =
    let p = err_from_is_err_and c.from_residual.result c.from_residual.ensures.1 in
    let e = c.in_err-round.field-0.0 in
    rw (p.1, p.2) (told_of_round g.P.Source _ e (λ k. c.in_err-round.ensures.cut k))

pub returns-in_err-bounded-clause-cut : goal.returns-in_err-bounded-clause-cut
returns-in_err-bounded-clause-cut g c =
    let p = err_from_is_err_and c.from_residual-in_err-bounded.result c.from_residual-in_err-bounded.ensures.1 in
    rw (p.1, p.2) (told_of_whole g.P.Source _ (fault_of_plan c.in_err-bounded.field-0.0) (λ k. c.in_ok-round.ensures.uncut k))
