-- What `pocsag_frames` promises.
use Rattle.std.specs.Prelude.{◌≡◌, ℕ, List, replicate}
use Rattle.pocsag_plan.specs.Frames.{frame_count, frames_of}
use Rattle.pocsag_plan.specs.Plans.{IsPlanFor}
use Rattle.pocsag_plan.specs.Streams.{IsOfRound}
use Rattle.pocsag_plan.specs.declared.bounded.BoundedPlan.{BoundedPlan}
use Rattle.pocsag_c.specs.Reports.{IsSoAsAsked}
use Rattle.pocsag_c.specs.declared.frames.FramesInfo.{FramesInfo}
use Rattle.pocsag_c.specs.declared.refusal.Place.{Place}

-- The structure has the eight frames of a plan of the page file's round for the end of this number, and its batches and bound.
abbrev pub HasFramesOf : (file : List ℕ) → (number limit always : ℕ) → FramesInfo → Type 0
HasFramesOf file number limit always info = IsSoAsAsked number limit always (λ search. IsOfRound file (λ round.
    (bounded : BoundedPlan) × IsPlanFor search round bounded × (info.frames ≡ frames_of round bounded.plan.steps.items)
    × (info.batches ≡ bounded.plan.batches) × (info.bound ≡ bounded.bound)))

-- The structure where there is no plan, but for the place.
abbrev pub no_frames : Place → FramesInfo
no_frames place = record {
  frames = replicate frame_count (record { frame = 0; pages = 0; codewords = 0; room = 0 });
  batches = 0;
  bound = 0;
  place = place;
}
