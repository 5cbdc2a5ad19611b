use Rattle.pocsag_tour.proofs.Prelude.{◌≡◌, ◌<◌, arith, sym, ap, ◌∙◌, arc_at, arc_from}
use Rattle.pocsag_tour.proofs.Geometry.{arc_of_kind, from_arc_at, kind_below, kind_of}
use Rattle.pocsag_tour.proofs.walk.detour.Goals as goal

pub returns-then-left-arc-gt0-clause-found : goal.returns-then-left-arc-gt0-clause-found
returns-then-left-arc-gt0-clause-found c = (
  c.arc_of_kind-arc.ensures.below,
  c.if-left-arc-gt0.true,
  ap arc_from c.arc_of_kind-arc.ensures.value
      ∙ from_arc_at c.args.boundary c.loop-kind.kind c.requires.boundary c.loop-kind-test.true,
  c.if-arc-exit.true,
)

pub returns-clause-none : goal.returns-clause-none
returns-clause-none c b h from ne =
    let here : arc_at c.args.boundary (kind_of b) ≡ b = rw from at (arc_of_kind b h) in
    let low : kind_of b < c.loop-kind.kind = omega (arith, kind_below b, c.loop-kind-test.false) in
    rw here at (c.loop-kind.invariant.here (kind_of b) low (λ e. ne (sym here ∙ e)))
