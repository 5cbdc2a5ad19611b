use Rattle.pocsag_tour.proofs.Prelude.{ℕ, ◌<◌, arith, ◌∙◌, length, length-set, refl, slice_index, [], ◌∷◌}
use Rattle.pocsag_tour.proofs.ExitSets.{enters_by, exits_low, grown_keeps, led_start, homes_written}
use Rattle.pocsag_tour.proofs.exits.exits_to.Goals as goal

zeros_low : (q : ℕ) → slice_index (0 ∷ 0 ∷ 0 ∷ 0 ∷ 0 ∷ 0 ∷ 0 ∷ 0 ∷ 0 ∷ 0 ∷ 0 ∷ 0 ∷ 0 ∷ 0 ∷ 0 ∷ 0 ∷ []) q < 288
zeros_low q = grind arith

pub loop-arc-init : goal.loop-arc-init
loop-arc-init c = record {
  root = c.with_member-set.ensures.held;
  long = refl;
  known = λ q h. zeros_low q;
  leads_to_root = led_start (slice_index c.args.counts.now) _ c.args.root c.with_member-set.result (c.with_member-set.ensures.alone refl);
}

pub loop-arc-preserved : goal.loop-arc-preserved
loop-arc-preserved c =
    let here : c.begins-from.result < length c.loop-arc.arcs = omega (arith, c.loop-arc.invariant.long, c.begins-from.ensures.below) in
    let found = rw c.as_slice.ensures.value at c.in-Some.ensures.found in
    let enters =
    enters_by (slice_index c.args.counts.now) c.used_arcs-used.result.items c.loop-arc.set c.in-Some.arc c.used_arcs-used.ensures found.0 found.1 found.2 in
    record {
      root = grown_keeps c.loop-arc.set c.with_member-set-in-Some.result c.begins-from.result c.args.root
          c.with_member-set-in-Some.ensures.held c.with_member-set-in-Some.ensures.others c.loop-arc.invariant.root;
      long = length-set c.loop-arc.arcs c.begins-from.result c.in-Some.arc ∙ c.loop-arc.invariant.long;
      known = exits_low c.loop-arc.arcs c.begins-from.result c.in-Some.arc c.loop-arc.invariant.known here enters.known;
      leads_to_root = homes_written (slice_index c.args.counts.now) c.loop-arc.arcs c.args.root c.loop-arc.set c.with_member-set-in-Some.result
          c.in-Some.arc c.begins-from.result
          c.begins-from.ensures.value here c.loop-arc.invariant.leads_to_root enters
          c.with_member-set-in-Some.ensures.held c.with_member-set-in-Some.ensures.others;
    }
