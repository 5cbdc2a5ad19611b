use Rattle.pocsag_tour.proofs.Prelude.{arith, [], ◌∷◌, length-append}
use Rattle.pocsag_tour.proofs.ExitSets.{used_first, used_found, used_passed}
use Rattle.pocsag_tour.proofs.exits.used_arcs.Goals as goal
use Rattle.pocsag_tour.proofs.exits.used_arcs.Goals.{then-counts-arc-gt0, else-counts-arc-gt0}

pub loop-arc-init : goal.loop-arc-init
loop-arc-init c = rw c.new-used.ensures (record {
  used = used_first _;
  few = omega arith;
})

pub loop-arc-preserved : goal.loop-arc-preserved
loop-arc-preserved c =
    let arc = c.loop-arc.arc in
    elim c.if-counts-arc-gt0.branch [
      | then-counts-arc-gt0 w ↦ rw (w.used-is, w.push.ensures.items) (record {
        used = used_found _ arc c.loop-arc.used.items c.loop-arc.invariant.used w.if-counts-arc-gt0.true;
        few = omega (arith, length-append c.loop-arc.used.items (arc ∷ []));
      })
      | else-counts-arc-gt0 w ↦ rw w.used-is (record {
        used = used_passed _ arc c.loop-arc.used.items c.loop-arc.invariant.used (λ some. omega (arith, some));
        few = omega arith;
      })
    ]
