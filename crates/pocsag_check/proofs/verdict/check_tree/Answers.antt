use Rattle.pocsag_check.proofs.Prelude.{◌-◌, subst, sym, arith, Classes, Limits, bound_tree_of, AcceptsWithin, IsAccepted}
use Rattle.pocsag_check.proofs.Tables.{one_table}
use Rattle.pocsag_check.proofs.verdict.check_tree.Goals as goal

pub returns : goal.returns
returns c =
    let k : Classes = c.classes_of-classes.result in (
      λ yes.
          let both = c.check_node.ensures.accepted.0 yes in
          record {
            table = k;
            counted = c.classes_of-classes.ensures.counted;
            accepted = record {
              some = omega arith;
              shallow = both.0;
              root = rw c.all_limits-limits.ensures.value at both.1;
            };
          },
      λ a.
          let same = one_table a.table k c.args.end c.args.round.now a.counted c.classes_of-classes.ensures.counted in
          let accepted : IsAccepted c.args.takes_open k c.args.end c.args.batches (bound_tree_of c.args.tree.now) =
          subst (λ (j : Classes). IsAccepted c.args.takes_open j c.args.end c.args.batches (bound_tree_of c.args.tree.now)) same a.accepted in
          c.check_node.ensures.accepted.1
          (subst (λ (l : Limits). AcceptsWithin c.args.takes_open k c.args.end (c.args.batches - 1) l 300 (bound_tree_of c.args.tree.now))
          (sym c.all_limits-limits.ensures.value) (accepted.shallow, accepted.root)),
    )
