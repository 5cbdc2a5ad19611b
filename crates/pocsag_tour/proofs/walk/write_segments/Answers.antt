use Rattle.pocsag_tour.proofs.Prelude.{◌≡◌, ◌++◌, ap, ◌∙◌, step_of, append_assoc, map, repeat}
use Rattle.pocsag_tour.proofs.Segments.{repeat_more}
use Rattle.pocsag_tour.proofs.walk.write_segments.Goals as goal

pub segments-preserved : goal.segments-preserved
segments-preserved c =
    let segment = map step_of c.args.arcs.now in
    let more : c.extend_from_slice.new.self.items ≡ c.segments.steps.items ++ segment =
    c.in_ok-extend_from_slice.ensures.items ∙ ap (λ piece. c.segments.steps.items ++ piece) c.steps_of_batch-piece.ensures.steps in
    more
    ∙ ap (λ steps. steps ++ segment) c.segments.invariant
    ∙ append_assoc c.args.steps.now.items (repeat c.segments._segment segment) segment
    ∙ ap (λ steps. c.args.steps.now.items ++ steps) (repeat_more c.segments._segment segment)
