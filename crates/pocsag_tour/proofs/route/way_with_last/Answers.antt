use Rattle.pocsag_tour.proofs.Prelude.{◌≡◌, ◌-◌, [], ◌∷◌, ◌++◌, arith, slice_index, slice_set, step_of}
use Rattle.pocsag_tour.proofs.Joined.{balanced_without, closed_way, joined_closed}
use Rattle.pocsag_tour.proofs.Walks.{less_by_set}
use Rattle.pocsag_tour.proofs.route.way_with_last.Goals as goal

pub walk-requires-clause-balanced : goal.walk-requires-clause-balanced
walk-requires-clause-balanced c =
    let z = c.requires.last in
    balanced_without (slice_index c.args.counts.now)
    (slice_index (slice_set c.args.counts.now c.args.last (slice_index c.args.counts.now c.args.last - 1))) c.args.last
    c.requires.balanced z (less_by_set c.args.counts.now c.args.last (omega (arith, z.known, c.told-counts)) z.there)

pub walk-requires-clause-joined : goal.walk-requires-clause-joined
walk-requires-clause-joined c =
    let z = c.requires.last in
    joined_closed (slice_index c.args.counts.now)
    (slice_index (slice_set c.args.counts.now c.args.last (slice_index c.args.counts.now c.args.last - 1))) c.args.last
    c.requires.balanced c.requires.joined z (less_by_set c.args.counts.now c.args.last (omega (arith, z.known, c.told-counts)) z.there)

pub returns : goal.returns
returns c =
    let z = c.requires.last in
    let pushed : c.push.new.self.items ≡ c.in_ok-steps.steps.items ++ (step_of c.args.last ∷ []) = cc c.in_ok-push.ensures.items in
    rw pushed (closed_way (slice_index c.args.counts.now)
    (slice_index (slice_set c.args.counts.now c.args.last (slice_index c.args.counts.now c.args.last - 1))) c.args.last
    c.in_ok-steps.steps.items z (less_by_set c.args.counts.now c.args.last (omega (arith, z.known, c.told-counts)) z.there)
    c.in_ok-steps.ensures)
