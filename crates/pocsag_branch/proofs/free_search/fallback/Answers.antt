use Rattle.pocsag_branch.proofs.Prelude.{Overload, bound_tree_of, arith}
use Rattle.pocsag_branch.proofs.TreeEnds.{bound_tree_of-overload, least_tree, tree_bound}
use Rattle.pocsag_branch.proofs.free_search.fallback.Goals as goal

pub returns : goal.returns
returns c =
    let k = c.args.classes.now in
    let least = c.least_of-least.result in
    let tree = least_tree k c.args.end least.batches 1 least.set (omega arith) c.least_of-least.ensures.refuses in
    record {
      is_least = c.least_of-least.ensures.least;
      bound = tree_bound k c.args.end least.batches (bound_tree_of (Overload least.set)) tree.accepted;
      accepted = tree.accepted;
      set = least.set;
      one_node = bound_tree_of-overload least.set;
      choice = λ d h. c.least_of-least.ensures.admitted.within.most d h;
      tour = c.in_ok-steps.ensures;
    }
