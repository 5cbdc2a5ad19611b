use Rattle.pocsag_check.proofs.Prelude.{◌≡◌, ◌∙◌, ◌<◌, refl, arith, length, get_or, IsTrue, Way, narrowed_limits, bound_tree_of, AcceptsWithin, set-get_or, set-set, MayTake, IdleIn}
use Rattle.std.proofs.lemmas.List.Elements.{All-get_or}
use Rattle.pocsag_check.proofs.RowChecks.{as_long, one_first, one_more, none_left, way_at}
use Rattle.pocsag_check.proofs.checker.+checking.Goals as goal

pub check_each-returns-then-ways-children-clause-accepted : goal.check_each-returns-then-ways-children-clause-accepted
check_each-returns-then-ways-children-clause-accepted t c =
    (λ h. absurd (cc h), λ a. absurd (c.if-ways-children.true (as_long _ _ _ _ _ c.args.ways.now c.args.children.now a.1)))

pub check_each-loop-place-init : goal.check_each-loop-place-init
check_each-loop-place-init t c = (record { rest = λ a. a; all = λ a. a }, refl)

pub check_each-check_way-requires : goal.check_each-check_way-requires
check_each-check_way-requires t c =
    let i = c.loop-place.place in
    let w : Way = get_or c.args.ways.now i (IdleIn 0) in
    let some : i < length c.args.ways.now = omega arith in
    let may : MayTake c.args.claim.now.classes.now c.args.limits.now w =
    All-get_or (MayTake c.args.claim.now.classes.now c.args.limits.now) c.args.ways.now i (IdleIn 0) some c.requires.allowed in
    (omega (arith, c.decreases), (rw c.loop-place.invariant.1 c.requires.ordered, (c.requires.batches, rw c.loop-place.invariant.1 may)))

pub check_each-returns-then-not-check_way-clause-accepted : goal.check_each-returns-then-not-check_way-clause-accepted
check_each-returns-then-not-check_way-clause-accepted t c =
    let i = c.loop-place.place in
    let w : Way = get_or c.args.ways.now i (IdleIn 0) in
    let some : i < length c.args.ways.now = omega arith in (
      λ h. absurd (cc h),
      λ a.
          let parts = one_first c.args.claim.now.takes_open c.args.claim.now.classes.now c.args.claim.now.end c.args.claim.now.batches
          c.args.limits.now c.args.depth c.args.ways.now c.args.children.now i w c.index-children-place.result some c.loop-place-test.true
          (way_at c.args.ways.now i (IdleIn 0) some)
          c.index-children-place.is (c.loop-place.invariant.0.rest a) in
          let yes : IsTrue c.check_way.result = c.check_way.ensures.accepted.1
          (rw c.loop-place.invariant.1 parts.0) in
          let no = c.if-not-check_way.true in
          absurd (cc yes),
    )

pub check_each-returns-then-not-check_way-clause-same_limits : goal.check_each-returns-then-not-check_way-clause-same_limits
check_each-returns-then-not-check_way-clause-same_limits t c = c.check_way.ensures.same_limits ∙ c.loop-place.invariant.1

pub check_each-loop-place-preserved : goal.check_each-loop-place-preserved
check_each-loop-place-preserved t c =
    let i = c.loop-place.place in
    let w : Way = get_or c.args.ways.now i (IdleIn 0) in
    let some : i < length c.args.ways.now = omega arith in
    let here : AcceptsWithin c.args.claim.now.takes_open c.args.claim.now.classes.now c.args.claim.now.end c.args.claim.now.batches
    (narrowed_limits c.args.claim.now.classes.now c.args.limits.now w c.args.claim.now.batches) c.args.depth (bound_tree_of c.index-children-place.result) =
    rw c.loop-place.invariant.1 at (c.check_way.ensures.accepted.0 (cc)) in (
      record {
        rest = λ a. (one_first c.args.claim.now.takes_open c.args.claim.now.classes.now c.args.claim.now.end c.args.claim.now.batches c.args.limits.now
            c.args.depth c.args.ways.now c.args.children.now i w c.index-children-place.result some c.loop-place-test.true
            (way_at c.args.ways.now i (IdleIn 0) some)
            c.index-children-place.is (c.loop-place.invariant.0.rest a)).1;
        all = λ a. c.loop-place.invariant.0.all
            (one_more c.args.claim.now.takes_open c.args.claim.now.classes.now c.args.claim.now.end c.args.claim.now.batches c.args.limits.now c.args.depth
            c.args.ways.now c.args.children.now i w c.index-children-place.result some c.loop-place-test.true
            (way_at c.args.ways.now i (IdleIn 0) some)
            c.index-children-place.is here a);
      },
      c.check_way.ensures.same_limits ∙ c.loop-place.invariant.1,
    )

pub check_each-returns-clause-accepted : goal.check_each-returns-clause-accepted
check_each-returns-clause-accepted t c =
    let long : length c.args.ways.now ≡ length c.args.children.now = c.if-ways-children.false in (
      λ h. c.loop-place.invariant.0.all
          (none_left c.args.claim.now.takes_open c.args.claim.now.classes.now c.args.claim.now.end c.args.claim.now.batches c.args.limits.now
          c.args.depth c.args.ways.now c.args.children.now c.loop-place.place (omega arith) (omega arith)),
      λ a. refl,
    )

pub check_way-returns-in-IdleIn-clause-same_limits : goal.check_way-returns-in-IdleIn-clause-same_limits
check_way-returns-in-IdleIn-clause-same_limits t c = rw (c.check_node-accepted.ensures.same_limits, set-set, set-get_or) refl

pub check_way-returns-in-Early-clause-same_limits : goal.check_way-returns-in-Early-clause-same_limits
check_way-returns-in-Early-clause-same_limits t c = rw (c.check_node-accepted-in-Early.ensures.same_limits, set-set, set-get_or) refl

pub check_way-returns-in-Late-clause-same_limits : goal.check_way-returns-in-Late-clause-same_limits
check_way-returns-in-Late-clause-same_limits t c = rw (c.check_node-accepted-in-Late.ensures.same_limits, set-set, set-get_or) refl

pub check_below-returns-clause-same_limits : goal.check_below-returns-clause-same_limits
check_below-returns-clause-same_limits t c = rw (c.check_node-accepted.ensures.same_limits, set-set, set-get_or) refl

pub check_from-returns-clause-same_limits : goal.check_from-returns-clause-same_limits
check_from-returns-clause-same_limits t c = rw (c.check_node-accepted.ensures.same_limits, set-set, set-get_or) refl
