use Rattle.pocsag_centre.proofs.Prelude.{◌∙◌, refl}
use Rattle.pocsag_centre.proofs.Plans.{told_plan}
use Rattle.pocsag_centre.proofs.plan.answer_input.Goals as goal

pub returns-in-Ok : goal.returns-in-Ok
returns-in-Ok g c = record {
  answers = (
    λ _. (
      c.in_ok-found.ensures.whole,
      (
        refl,
        λ known.
            let found = c.in_ok-found.found in
            told_plan _ found.round found.bounded (c.in_ok-found.ensures.read known) c.in_ok-found.ensures.plan _
            (c.into_bytes.ensures ∙ rw c.new-text.ensures.kept at (c.in-Ok.ensures.delivers tt).0),
      ),
    ),
    tt,
  );
}
