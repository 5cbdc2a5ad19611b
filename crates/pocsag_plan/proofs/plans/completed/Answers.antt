use Rattle.pocsag_plan.proofs.Prelude.{ℕ, ◌*◌, ◌≤◌, false, List, length, refl, sym, ap, subst, arith, slice_index, apart_pages, Step, IsTourFor, bound_tree_of, IsOrder, accepted_closed, accepted_text, tour_worded}
use Rattle.pocsag_check.proofs.Bounds.{admitted_all}
use Rattle.pocsag_plan.proofs.Explained.{no_worse}
use Rattle.pocsag_plan.proofs.Completed.{found_room, most, nodes_few, some_batch, tour_for}
use Rattle.pocsag_plan.proofs.plans.completed.Goals as goal

pub order_of-requires : goal.order_of-requires
order_of-requires c =
    let is = c.requires.of_round in
    let outcome = c.args.outcome in
    subst (λ (steps : List Step). IsTourFor c.args.search.end c.args.round.now steps) (sym c.deref.ensures.value)
    (tour_for is.table c.args.search.end c.args.search.limit outcome.bound outcome.found is.of_classes.within c.args.round.now is.classes)

pub returns-clause-plan : goal.returns-clause-plan
returns-clause-plan c =
    let k = c.requires.of_round.table in
    let counted = c.requires.of_round.classes in
    let end = c.args.search.end in
    let R = c.args.round.now in
    let limit = c.args.search.limit in
    let bound = c.args.outcome.bound in
    let found = c.args.outcome.found in
    let left = c.requires.of_round.of_classes in
    let is = left.within in
    let fallback : found.batches ≤ 1760001 = most k end limit bound found is in
    let at_least : bound ≤ found.batches = is.at_least in
    let sent = tour_worded k end (slice_index found.choice.early) found.batches found.steps.items R
    (some_batch k end limit bound found is) c.pages.ensures.round counted is.tour in
    let room = found_room end R found c.pages.ensures.round sent.0 sent.2 in
    let few = nodes_few k end limit bound found is c.requires.limited
    (accepted_closed k end bound (bound_tree_of found.tree) is.accepted) in
    record {
      plan_of = record {
        asked = refl;
        pages = ap length c.pages.ensures.pages;
        codewords = c.codewords_of.ensures;
        in_order = c.in_order_batches.ensures;
        table = k;
        classes = counted;
        admitted = admitted_all k end (slice_index found.choice.early) found.batches found.steps.items is.tour;
        tour = is.tour;
        order = subst (λ (steps : List Step). IsOrder end R steps c.in_ok-order.order.items) c.deref.ensures.value
            c.in_ok-order.ensures.order;
        room = subst (λ (n : ℕ). n ≤ 16 * found.batches) (sym c.codewords_of.ensures) room;
        fallback_least = record { least = is.least; is_least = is.is_least; fallback = is.or_one_more };
        most = fallback;
        fewest = λ T n legal. is.bounded R T n (apart_pages R c.pages.ensures.round.good) counted legal;
        at_least = at_least;
        within_one = is.within_one;
        accepted = record { table = k; counted = counted; accepted = is.accepted };
        text = accepted_text false k end bound (bound_tree_of found.tree) is.accepted (omega arith) few;
      };
      small = is.few;
      no_worse = no_worse k end R limit bound found.batches _ c.args.outcome.stopped c.pages.ensures.round counted c.requires.limited refl
          left.stopped;
      fewest = left.fewest;
      shaped = λ same. record {
        table = k;
        classes = counted;
        least = is.least;
        is_least = is.is_least;
        shaped = left.shaped same;
      };
    }
