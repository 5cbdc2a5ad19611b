use Rattle.pocsag_tour.proofs.Prelude.{◌≡◌, ◌++◌, ◌∙◌, ℕ, [], ◌∷◌, ap, arith, false, true, length, refl, slice_index, sym, arc_to, holds, holds_none, IsPath, often}
use Rattle.pocsag_tour.proofs.Segments.{enough_push, often_none, once_push, path_push}
use Rattle.pocsag_tour.proofs.walk.segment_from.Goals as goal

never : false ≡ true → ⊥
never e = cc e

pub arcs-init : goal.arcs-init
arcs-init c =
    let none : (a : ℕ) → often a c.new-arcs.result.items ≡ 0 = rw c.new-arcs.ensures often_none in
    record {
      long = ap length c.new-arcs.ensures;
      path = rw c.new-arcs.ensures refl;
      end = c.requires.start;
      once = λ a. omega (arith, none a);
      enough = λ a. rw (none a) (omega arith);
      some = omega arith;
      began = λ held. absurd (never (sym (holds_none c.args.start) ∙ held));
      passed = c.requires.passed;
    }

pub arcs-preserved : goal.arcs-preserved
arcs-preserved c =
    let d = c.in-Some.ensures.found in
    let a = c.in-Some.arc in
    let arcs = c.arcs.arcs.items in
    let left = slice_index c.args.left.now in
    let new : holds c.arcs.seen c.arcs.end ≡ false = sym c.holds.ensures ∙ c.if-holds.false in
    let path : IsPath left (slice_index c.args.exits.now) c.args.start (arcs ++ a ∷ []) (arc_to a) =
    path_push left (slice_index c.args.exits.now) c.args.start arcs c.arcs.end a c.arcs.invariant.path d in
    record {
      long = omega (arith, c.push.ensures.len, c.arcs.invariant.long);
      path = rw (c.push.ensures.items, c.ends-end.ensures.value) path;
      end = c.ends-end.ensures.below;
      once = rw c.push.ensures.items (once_push c.arcs.seen c.with_member-seen.result c.arcs.end a arcs
          c.with_member-seen.ensures new d.leaves c.arcs.invariant.once);
      enough = rw c.push.ensures.items (enough_push c.arcs.seen c.arcs.end a c.min-times.result c.arcs.times arcs left new d.leaves
          c.arcs.invariant.once c.arcs.invariant.enough
          (omega (arith, c.min-times.ensures)) (omega (arith, c.min-times.ensures)));
      some = omega (arith, c.min-times.ensures, d.there, c.arcs.invariant.some);
      began = λ held. omega arith;
      passed = c.departure.ensures.passed;
    }
