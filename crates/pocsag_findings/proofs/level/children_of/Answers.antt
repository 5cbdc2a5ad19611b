use Rattle.pocsag_findings.proofs.Prelude.{ap, sym, length, ◌∙◌, bound_tree_of-close, bound_tree_of-cut, count_of_bounds, IfOk-weaker}
use Rattle.pocsag_findings.proofs.Children.{held_close, held_cut}
use Rattle.pocsag_findings.proofs.level.children_of.Goals as goal

pub children_by-requires : goal.children_by-requires
children_by-requires c =
    let is = bound_tree_of-cut c.args.tree.now c.in-Cut.set c.in-Cut.needed c.in-Cut.children c.in-Cut.is in
    let says = held_cut c.args.context.now.classes.now c.args.context.now.end c.args.context.now.batches c.args.limits.now _ _ _
    (rw is at (c.requires.holds c.if-not-holds.false)) in
    record {
      long =
          ap length (c.as_slice.ensures.value ∙ c.ways-out.ensures.items) ∙ says.1 ∙ count_of_bounds c.in-Cut.children.items
          ∙ sym (ap length c.deref-in-Cut.ensures.value);
    }

pub children_by-requires-in-Close : goal.children_by-requires-in-Close
children_by-requires-in-Close c =
    let is = bound_tree_of-close c.args.tree.now c.in-Close.children c.in-Close.is in
    let says = held_close c.args.context.now.classes.now c.args.context.now.end c.args.context.now.batches c.args.limits.now _
    (rw is at (c.requires.holds c.if-not-holds.false)) in
    record {
      long =
          ap length (c.as_slice-in-Close.ensures.value ∙ c.ending_ways-out.ensures.items) ∙ says.1 ∙ count_of_bounds c.in-Close.children.items
          ∙ sym (ap length c.deref-in-Close.ensures.value);
    }

pub returns-in-Cut-clause-allowed : goal.returns-in-Cut-clause-allowed
returns-in-Cut-clause-allowed c =
    let is = bound_tree_of-cut c.args.tree.now c.in-Cut.set c.in-Cut.needed c.in-Cut.children c.in-Cut.is in
    let says = held_cut c.args.context.now.classes.now c.args.context.now.end c.args.context.now.batches c.args.limits.now _ _ _
    (rw is at (c.requires.holds c.if-not-holds.false)) in
    IfOk-weaker c.children_by.result _ _
    (λ found all. all c.args.context.now.classes.now c.args.context.now.batches c.args.limits.now says.0
    (rw c.as_slice.ensures.value c.ways-out.ensures.allowed))
    c.children_by.ensures.allowed

pub returns-clause-allowed : goal.returns-clause-allowed
returns-clause-allowed c =
    let is = bound_tree_of-close c.args.tree.now c.in-Close.children c.in-Close.is in
    let says = held_close c.args.context.now.classes.now c.args.context.now.end c.args.context.now.batches c.args.limits.now _
    (rw is at (c.requires.holds c.if-not-holds.false)) in
    IfOk-weaker c.children_by-in-Close.result _ _
    (λ found all. all c.args.context.now.classes.now c.args.context.now.batches c.args.limits.now says.0
    (rw c.as_slice-in-Close.ensures.value c.ending_ways-out.ensures.allowed))
    c.children_by-in-Close.ensures.allowed

pub returns-then-not-holds-clause-allowed : goal.returns-then-not-holds-clause-allowed
returns-then-not-holds-clause-allowed c =
    IfOk-weaker c.unjudged_children.result _ _
    (λ found all. all c.args.context.now.classes.now c.args.context.now.batches c.args.limits.now)
    c.unjudged_children.ensures.allowed
