use Rattle.pocsag_findings.proofs.Prelude.{◌-◌, arith}
use Rattle.pocsag_laws.proofs.Prelude.{limits_of_all, all_ordered, Root}
use Rattle.pocsag_laws.proofs.AllHold.{all_within}
use Rattle.pocsag_laws.proofs.Accepted.{accepts}
use Rattle.pocsag_laws.proofs.bound.accepted_trees_hold.Goals as goal

pub returns-clause-hold : goal.returns-clause-hold
returns-clause-hold c = λ k end batches depth t a.
    all_within t k end (batches - 1) depth (limits_of_all k (batches - 1)) 0 Root (all_ordered k (batches - 1)) a

pub returns-clause-accepted : goal.returns-clause-accepted
returns-clause-accepted c = λ k end batches depth t deep a.
    accepts t k end (batches - 1) depth (limits_of_all k (batches - 1)) 0 Root (all_ordered k (batches - 1))
    (omega (arith, deep)) a
