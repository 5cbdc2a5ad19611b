use Rattle.pocsag_branch.proofs.Prelude.{◌+◌, ap, arith, false, slice_index, Overload, all_nodes, bound_tree_of, set_taking, spare_tour, tour_worded}
use Rattle.pocsag_branch.proofs.TreeEnds.{bound_tree_of-overload, has_room, least_tree, tree_bound}
use Rattle.pocsag_check.proofs.Spelled.{accepted_text}
use Rattle.pocsag_branch.proofs.least.least_certificate.Goals as goal

pub returns-clause-bound : goal.returns-clause-bound
returns-clause-bound c =
    let least = c.least_of-least.result in
    let tree = least_tree c.args.classes.now c.args.end least.batches 1 least.set (omega arith) c.least_of-least.ensures.refuses in
    tree_bound c.args.classes.now c.args.end least.batches (bound_tree_of (Overload least.set)) tree.accepted

pub returns-clause-accepted : goal.returns-clause-accepted
returns-clause-accepted c =
    let least = c.least_of-least.result in
    (least_tree c.args.classes.now c.args.end least.batches 1 least.set (omega arith) c.least_of-least.ensures.refuses).accepted

pub returns-clause-text : goal.returns-clause-text
returns-clause-text c =
    let least = c.least_of-least.result in
    let small = c.least_of-least.ensures.bound in
    let tree = least_tree c.args.classes.now c.args.end least.batches 1 least.set (omega arith) c.least_of-least.ensures.refuses in
    accepted_text false c.args.classes.now c.args.end least.batches (bound_tree_of (Overload least.set))
    tree.accepted (omega arith) (omega (arith, ap all_nodes (bound_tree_of-overload least.set)))

pub returns-clause-enough : goal.returns-clause-enough
returns-clause-enough c = λ R round counted.
    let k = c.args.classes.now in
    let least = c.least_of-least.result in
    let admitted = c.least_of-least.ensures.admitted in
    let toured = spare_tour set_taking k c.args.end (slice_index least.choice.early) (least.batches + 1)
    (λ d h. admitted.within.most d h) (has_room k (slice_index least.choice.early) least.batches admitted) in
    let said = tour_worded k c.args.end (slice_index least.choice.early) (least.batches + 1) toured.0 R
    (omega arith) round counted toured.1 in
    (said.0, said.2)
