use Rattle.pocsag_centre.proofs.Prelude.{◌≡◌, ◌∙◌, List, ap, arith, refl, rules, zero, suc, IsSortedByKey, nat_cmp, IsNonDecreasingBy-from_sort_by_key, ties_still_rise, Page, FrameRoom}
use Rattle.std.proofs.lemmas.Fn.{always_returns_same}
use Rattle.pocsag_slots.specs.declared.step.Step.{Step}
use Rattle.pocsag_plan.specs.Frames.{frames_of}
use Rattle.pocsag_centre.proofs.report.rooms_asked.Goals as goal

-- the eight frames are in order of their numbers
numbers_rise : (R : List Page) (steps : List Step) → IsSortedByKey (λ (r : FrameRoom). r.frame) nat_cmp (frames_of R steps)
numbers_rise R steps zero d low high = refl
numbers_rise R steps (suc zero) d low high = refl
numbers_rise R steps (suc (suc zero)) d low high = refl
numbers_rise R steps (suc (suc (suc zero))) d low high = refl
numbers_rise R steps (suc (suc (suc (suc zero)))) d low high = refl
numbers_rise R steps (suc (suc (suc (suc (suc zero))))) d low high = refl
numbers_rise R steps (suc (suc (suc (suc (suc (suc zero)))))) d low high = refl
numbers_rise R steps (suc (suc (suc (suc (suc (suc (suc k))))))) d low high = absurd (omega arith)

pub returns-clause-all : goal.returns-clause-all
returns-clause-all c = λ _.
    let R = c.args.found.now.round in
    let steps = c.args.found.now.bounded.plan.steps.items in
    let same = c.in_ok-rooms.ensures.items ∙ (c.frames_of-by_number.ensures ∙ ap (frames_of R) c.as_slice.ensures.value) in
    let stable = c.in_ok-sort_by_key.ensures.stable (λ (r : FrameRoom). r.room)
    (always_returns_same _ (λ a r. r ≡ a.0.now.room) _ (λ f a r h. search rules)) in
    record {
      each = rw same at c.in_ok-sort_by_key.ensures.permutation;
      order = IsNonDecreasingBy-from_sort_by_key (λ (r : FrameRoom). r.room) _ c.in_ok-sort_by_key.ensures.sorted (λ f a r h. search rules);
      ties = ties_still_rise (λ (r : FrameRoom). r.frame) (λ (r : FrameRoom). r.room) (frames_of R steps) _ (numbers_rise R steps) (rw same at stable);
    }
