use Rattle.pocsag_branch.proofs.Prelude.{◌+◌, refl, inr, bound_tree_of}
use Rattle.pocsag_branch.proofs.TreeEnds.{free_whole, tree_bound}
use Rattle.pocsag_branch.proofs.free_search.search_freely.Goals as goal

pub returns-in_ok-steps-in-Ok-clause-found : goal.returns-in_ok-steps-in-Ok-clause-found
returns-in_ok-steps-in-Ok-clause-found c =
    let k = c.args.classes.now in
    let least = c.least_of-least.result in
    let tree = bound_tree_of c.in-Ok.tree in
    let accepted = free_whole k _ tree c.in-Ok.ensures.tree in
    record {
      least = least.batches;
      is_least = c.least_of-least.ensures.least;
      or_one_more = inr refl;
      choice = λ d h. c.least_of-least.ensures.admitted.within.most d h;
      tour = c.in_ok-steps-in-Ok.ensures;
      accepted = accepted;
      bound = tree_bound k c.args.end (least.batches + 1) tree accepted;
      few = c.in-Ok.ensures.tree.few;
    }
