use Rattle.pocsag_findings.proofs.Prelude.{count_of_bounds, arith, bound_tree_of-cut, bound_tree_of-close}
use Rattle.pocsag_findings.proofs.judgement.fact_of.Goals as goal

pub returns-in-Cut : goal.returns-in-Cut
returns-in-Cut c =
    let is = bound_tree_of-cut c.args.tree.now c.in-Cut.set c.in-Cut.needed c.in-Cut.children c.in-Cut.is in
    let count = count_of_bounds c.in-Cut.children.items in
    rw is (grind (arith, count))

pub returns-in-Close : goal.returns-in-Close
returns-in-Close c =
    let is = bound_tree_of-close c.args.tree.now c.in-Close.children c.in-Close.is in
    let count = count_of_bounds c.in-Close.children.items in
    rw is (grind (arith, count))
