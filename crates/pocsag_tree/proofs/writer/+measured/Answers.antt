use Rattle.pocsag_tree.proofs.Prelude.{arith}
use Rattle.std.proofs.lemmas.Grind.{common_steps}
use Rattle.pocsag_tree.proofs.Counts.{count_of_bounds, bound_tree_of-cut, bound_tree_of-close}
use Rattle.pocsag_tree.proofs.writer.+measured.Goals as goal

pub measured_node-returns-then-len-lt2-clause-fits : goal.measured_node-returns-then-len-lt2-clause-fits
measured_node-returns-then-len-lt2-clause-fits t c =
    let is = bound_tree_of-cut c.args.tree.now c.in-Cut.set c.in-Cut.needed c.in-Cut.children c.in-Cut.is in
    let count = count_of_bounds c.in-Cut.children.items in
    rw is (grind (arith, common_steps, count))

pub measured_node-returns-else-len-from-clause-fits : goal.measured_node-returns-else-len-from-clause-fits
measured_node-returns-else-len-from-clause-fits t c =
    let is = bound_tree_of-cut c.args.tree.now c.in-Cut.set c.in-Cut.needed c.in-Cut.children c.in-Cut.is in
    let count = count_of_bounds c.in-Cut.children.items in
    rw is (grind (arith, common_steps, count))

pub measured_node-returns-then-len-eq0-clause-fits : goal.measured_node-returns-then-len-eq0-clause-fits
measured_node-returns-then-len-eq0-clause-fits t c =
    let is = bound_tree_of-close c.args.tree.now c.in-Close.children c.in-Close.is in
    let count = count_of_bounds c.in-Close.children.items in
    rw is (grind (arith, common_steps, count))

pub measured_node-returns-else-len-gt2-clause-fits : goal.measured_node-returns-else-len-gt2-clause-fits
measured_node-returns-else-len-gt2-clause-fits t c =
    let is = bound_tree_of-close c.args.tree.now c.in-Close.children c.in-Close.is in
    let count = count_of_bounds c.in-Close.children.items in
    rw is (grind (arith, common_steps, count))
