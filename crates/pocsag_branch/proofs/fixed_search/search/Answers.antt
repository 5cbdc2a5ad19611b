use Rattle.pocsag_branch.proofs.Prelude.{◌≡◌, ◌+◌, ap, refl, sym, ◌∙◌, arith, inr, slice_index, replicate, false, true, ◌++◌, append-nil, bound_tree_of, one_more, set_taking, spare_tour, tour_worded}
use Rattle.pocsag_branch.proofs.TreeEnds.{closed_is, has_room, least_bound, none_unseen, some_unseen, tree_bound, tree_open, tree_whole}
use Rattle.pocsag_branch.proofs.fixed_search.search.Goals as goal

pub returns-then-is_unfinished-clause-fault : goal.returns-then-is_unfinished-clause-fault
returns-then-is_unfinished-clause-fault c =
    let k = c.args.classes.now in
    let tree = bound_tree_of c.in-Ok.tree in
    let fills = c.in-Ok.ensures.tree.examined.fills c.in-Ok.ensures.tree.fixed in
    let some = some_unseen tree fills.closed fills.unseen fills.layout (sym c.if-is_unfinished.ensures) in
    let full : fills.closed ≡ c.args.node_limit = omega (arith, fills.spent, fills.whole some) in
    record {
      is_least = c.least_of-least.ensures.least;
      bound = least_bound k c.args.end c.least_of-least.result.batches c.least_of-least.ensures.least;
      one_more = refl;
      sent = λ R round counted.
          let toured = spare_tour set_taking k c.args.end (slice_index c.least_of-least.result.choice.early)
          (c.least_of-least.result.batches + 1)
          (λ d h. c.least_of-least.ensures.admitted.within.most d h)
          (has_room k (slice_index c.least_of-least.result.choice.early) c.least_of-least.result.batches c.least_of-least.ensures.admitted) in
          let said = tour_worded k c.args.end (slice_index c.least_of-least.result.choice.early)
          (c.least_of-least.result.batches + 1) toured.0 R
          (omega arith) round counted toured.1 in
          (said.0, said.2);
      unseen = fills.unseen;
      some = some;
      marks = fills.layout ∙ ap (λ n. replicate n false ++ replicate fills.unseen true) full;
      accepted = tree_open k _ tree c.in-Ok.ensures.tree;
      shaped = c.in-Ok.ensures.tree.examined.shaped c.in-Ok.ensures.tree.fixed;
    }

pub returns-in_ok-steps-in-Ok-clause-found : goal.returns-in_ok-steps-in-Ok-clause-found
returns-in_ok-steps-in-Ok-clause-found c =
    let k = c.args.classes.now in
    let tree = bound_tree_of c.in-Ok.tree in
    let fills = c.in-Ok.ensures.tree.examined.fills c.in-Ok.ensures.tree.fixed in
    let none = none_unseen tree fills.closed fills.unseen fills.layout (sym c.is_unfinished.ensures ∙ c.if-is_unfinished.false) in
    let closed = closed_is tree fills.closed fills.unseen fills.layout in
    let accepted = tree_whole k _ tree c.in-Ok.ensures.tree (sym c.is_unfinished.ensures ∙ c.if-is_unfinished.false) in
    record {
      least = c.least_of-least.result.batches;
      is_least = c.least_of-least.ensures.least;
      or_one_more = inr refl;
      choice = λ d h. c.least_of-least.ensures.admitted.within.most d h;
      tour = c.in_ok-steps-in-Ok.ensures;
      accepted = accepted;
      bound = tree_bound k c.args.end (c.least_of-least.result.batches + 1) tree accepted;
      examined = fills.layout ∙ ap (λ n. replicate fills.closed false ++ replicate n true) none ∙ append-nil (replicate fills.closed false)
          ∙ ap (λ n. replicate n false) (sym closed);
      few = omega (arith, closed, fills.spent, fills.within);
      shaped = one_more refl (c.in-Ok.ensures.tree.examined.shaped c.in-Ok.ensures.tree.fixed);
    }
