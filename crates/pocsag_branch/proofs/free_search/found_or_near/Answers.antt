use Rattle.pocsag_branch.proofs.Prelude.{◌≡◌, ℕ, arith, subst, Classes, IsLeast, bound_tree_of, IsLimit, IsSearchFault}
use Rattle.pocsag_branch.proofs.free_search.found_or_near.Goals as goal

one_least : (k : Classes) (a b : ℕ) → IsLeast k a → IsLeast k b → a ≡ b
one_least k a b first second = omega (arith, first.least b second.carried, second.least a first.carried)

pub returns-in_ok-fallback-in-Err-SearchLimit-clause-fault : goal.returns-in_ok-fallback-in-Err-SearchLimit-clause-fault
returns-in_ok-fallback-in-Err-SearchLimit-clause-fault c =
    let k = c.args.classes.now in
    let stop = c.in-Err-SearchLimit.stop in
    let said : IsLimit k c.args.end c.args.node_limit stop.least stop.found (bound_tree_of stop.tree) =
    subst (IsSearchFault k c.args.end c.args.node_limit) c.in-Err-SearchLimit.field-0-is c.in-Err-SearchLimit.ensures.fault in
    let fallback = c.in_ok-fallback-in-Err-SearchLimit.ensures in
    (fallback, one_least k stop.least c.in_ok-fallback-in-Err-SearchLimit.fallback.least said.is_least fallback.is_least, said)
