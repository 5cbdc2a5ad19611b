use Rattle.pocsag_c.proofs.Prelude.{◌∙◌, ap, refl, subst, sym}
use Rattle.pocsag_plan.specs.Frames.{HasClasses, frames_of}
use Rattle.pocsag_c.proofs.Fronts.{told}
use Rattle.pocsag_c.proofs.frames.pocsag_frames.Goals as goal

pub frames_of-requires : goal.frames_of-requires
frames_of-requires c = subst HasClasses (sym c.as_slice.ensures.value) c.in-Ok.ensures.plan.plan_of.tour.no_other

pub returns-in-Err-clause-fault : goal.returns-in-Err-clause-fault
returns-in-Err-clause-fault c = λ _ _.
    told _ _ c.in-Err.fault c.refused_stream.result _ _
    (record { search = c.in-Some.search; asked = c.in-Some.ensures.asked; holds = c.in-Err.ensures.explained })
    c.refused_stream.ensures.value c.put.ensures.status c.put.ensures.place

pub returns-clause-frames : goal.returns-clause-frames
returns-clause-frames c = λ _. record {
  search = c.in-Some.search;
  asked = c.in-Some.ensures.asked;
  holds = record {
    round = c.in-Ok.found.round;
    read = c.in-Ok.ensures.read;
    holds = (
      c.in-Ok.found.bounded,
      c.in-Ok.ensures.plan,
      c.frames_of.ensures ∙ ap (frames_of c.in-Ok.found.round) c.as_slice.ensures.value,
      refl,
      refl,
    );
  };
}
