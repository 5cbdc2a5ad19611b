use Rattle.pocsag_tour.proofs.Prelude.{◌≡◌, ◌==◌, ◌∙◌, eq-eqb, eqb-true, sym, true, ◌++◌, ℕ, [], ◌∷◌, arith, length, slice_index, ◌<◌, step_of, map, repeat, AreTaken}
use Rattle.pocsag_tour.proofs.Segments.{laps_less, laps_on, passed_less, path_known}
use Rattle.pocsag_tour.proofs.Walks.{walk_end, walk_start}
use Rattle.pocsag_tour.proofs.walk.walk.Goals as goal

zero_kinds : (q : ℕ) → slice_index (0 ∷ 0 ∷ 0 ∷ 0 ∷ 0 ∷ 0 ∷ 0 ∷ 0 ∷ 0 ∷ 0 ∷ 0 ∷ 0 ∷ 0 ∷ 0 ∷ 0 ∷ 0 ∷ []) q < 1
zero_kinds q = grind arith

pub segments-init : goal.segments-init
segments-init c = record {
  walk = rw c.in_ok-steps.ensures.items (walk_start (slice_index c.args.counts.now)
      (slice_index c.exits_to-exits.result.arcs) c.args.root c.requires.balanced);
  passed = λ p h j m ne. absurd (omega (arith, zero_kinds p));
}

pub write_segments-requires-clause-known : goal.write_segments-requires-clause-known
write_segments-requires-clause-known c =
    rw c.as_slice.ensures.value (path_known _ _ _ c.segment_from-segment.result.arcs.items _ c.segment_from-segment.ensures.segment.path)

pub take_segments-requires-clause-known : goal.take_segments-requires-clause-known
take_segments-requires-clause-known c =
    rw c.as_slice-in-segments.ensures.value (path_known _ _ _ c.segment_from-segment.result.arcs.items _ c.segment_from-segment.ensures.segment.path)

pub segments-smaller : goal.segments-smaller
segments-smaller c =
    let some : length c.segment_from-segment.result.arcs.items ≡ 0 → ⊥ =
    λ none. let empty : (length c.segment_from-segment.result.arcs.items == 0) ≡ true = eq-eqb _ _ none in
    cc (c.if-is_empty.false, c.is_empty.ensures, empty) in
    let taken : AreTaken c.segment_from-segment.result.times c.segment_from-segment.result.arcs.items (slice_index c.segments.left)
    (slice_index c.take_segments.new.left) =
    rw c.as_slice-in-segments.ensures.value at c.take_segments.ensures in
    laps_less (slice_index c.exits_to-exits.result.arcs) (slice_index c.segments.left) (slice_index c.take_segments.new.left)
    c.segment_from-segment.result.arcs.items c.segment_from-segment.result.times c.segments.at c.segment_from-segment.result.end c.segment_from-segment.ensures.segment
    some taken

pub segments-preserved : goal.segments-preserved
segments-preserved c =
    let arcs = c.segment_from-segment.result.arcs.items in
    let exits = slice_index c.exits_to-exits.result.arcs in
    let left = slice_index c.segments.left in
    let less = slice_index c.take_segments.new.left in
    let taken : AreTaken c.segment_from-segment.result.times arcs left less = rw c.as_slice-in-segments.ensures.value at c.take_segments.ensures in
    let wrote : c.write_segments.new.steps.items ≡ c.segments.steps.items ++ repeat c.segment_from-segment.result.times (map step_of arcs) =
    rw c.as_slice.ensures.value at c.in_ok-write_segments.ensures in
    record {
      walk = rw wrote (laps_on (slice_index c.args.counts.now) exits left less arcs c.segment_from-segment.result.times c.segments.at
          c.segment_from-segment.result.end c.args.root c.segments.steps.items c.segment_from-segment.ensures.segment c.segments.invariant.walk taken);
      passed = passed_less left less exits (slice_index c.segment_from-segment.new.kinds) (λ b. omega (arith, taken b))
          c.segment_from-segment.ensures.passed;
    }

pub returns : goal.returns
returns c =
    walk_end (slice_index c.args.counts.now) (slice_index c.exits_to-exits.result.arcs)
    (slice_index c.segments.left) c.segments.at c.args.root c.exits_to-exits.result.set
    c.segments.steps.items c.segments.invariant.walk
    (c.segment_from-segment.ensures.spent (eqb-true _ _ (sym c.is_empty.ensures ∙ c.if-is_empty.true))) c.requires.joined
    c.exits_to-exits.ensures.root c.exits_to-exits.ensures.closed c.exits_to-exits.ensures.leads_to_root
