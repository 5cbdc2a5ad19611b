use Rattle.pocsag_branch.proofs.Prelude.{inl, inr, sym, ◌∙◌, cases_eq}
use Rattle.pocsag_branch.proofs.smaller_cuts.set_with.Goals as goal

pub invariant_of-result : goal.invariant_of-result
invariant_of-result c = record {
  zero = elim (cases_eq c.args.boundary 0) [
    | inl same ↦ rw same at c.with_member-members.ensures.held
    | inr other ↦ c.with_member-members.ensures.others 0 (λ e. other (sym e)) ∙ c.args.growing.set.zero
  ];
}
