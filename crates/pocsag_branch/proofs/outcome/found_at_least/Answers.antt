use Rattle.pocsag_branch.proofs.Prelude.{refl, inl, Overload, bound_tree_of, at_least}
use Rattle.pocsag_branch.proofs.TreeEnds.{least_tree, tree_bound}
use Rattle.pocsag_branch.proofs.outcome.found_at_least.Goals as goal

pub returns : goal.returns
returns c =
    let tree = least_tree c.args.classes.now c.args.task.end c.args.task.batches c.args.task.limit c.args.set
    c.args.task.limited.some c.requires.refuses in
    record {
      least = c.args.task.batches;
      is_least = c.requires.least;
      or_one_more = inl refl;
      choice = c.requires.answer.choice;
      tour = c.requires.answer.tour;
      accepted = tree.accepted;
      bound = tree_bound c.args.classes.now c.args.task.end c.args.task.batches (bound_tree_of (Overload c.args.set)) tree.accepted;
      examined = tree.examined;
      few = tree.few;
      shaped = at_least refl tree.one;
    }
