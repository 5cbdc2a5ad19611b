use Rattle.pocsag_slots.proofs.Prelude.{◌≤◌, ◌+◌, ◌-◌, ◌==◌, cond, ℕ, refl, slice_index, arith, ends_at, starts_at}
use Rattle.pocsag_slots.proofs.EdgeLemmas.{class_added, class_skipped, ends_few, none_end, none_start, part_few, starts_few}
use Rattle.pocsag_slots.proofs.LoadLemmas.{count_few, load_none, loads_few}
use Rattle.pocsag_slots.proofs.SumLemmas.{summed}
use Rattle.pocsag_slots.proofs.edge.add_class.Goals as goal

part : (a b x : ℕ) → cond (a == b) x 0 ≤ x
part a b x = part_few (a == b) x

pub returns-then-classes-class-eq0-clause-starts : goal.returns-then-classes-class-eq0-clause-starts
returns-then-classes-class-eq0-clause-starts c p h =
    class_skipped _ c.args.class.number _ (c.requires.starts p h)
    (none_start c.args.classes.now (slice_index c.args.choice.now.early) p c.args.class.number (omega arith)
    (c.requires.chosen c.args.class.number c.args.class.known))

pub returns-then-classes-class-eq0-clause-ends : goal.returns-then-classes-class-eq0-clause-ends
returns-then-classes-class-eq0-clause-ends c p h =
    class_skipped _ c.args.class.number _ (c.requires.ends p h)
    (none_end c.args.classes.now (slice_index c.args.choice.now.early) p c.args.class.number (omega arith)
    (c.requires.chosen c.args.class.number c.args.class.known))

pub add_to-requires-clause-fits : goal.add_to-requires-clause-fits
add_to-requires-clause-fits c =
    omega (
      arith,
      c.requires.starts c.start.result c.start.ensures.below,
      starts_few c.args.classes.now (slice_index c.args.choice.now.early) c.start.result c.args.class.number (omega arith) c.requires.chosen,
      c.requires.chosen c.args.class.number c.args.class.known,
      count_few c.args.classes.now c.args.class.number c.args.class.known,
    )

pub add_to-requires-2-clause-fits : goal.add_to-requires-2-clause-fits
add_to-requires-2-clause-fits c =
    omega (
      arith,
      c.add_to.ensures c.start-2.result c.start-2.ensures.below,
      c.requires.starts c.start-2.result c.start-2.ensures.below,
      starts_few c.args.classes.now (slice_index c.args.choice.now.early) c.start-2.result c.args.class.number (omega arith) c.requires.chosen,
      part c.start.result c.start-2.result (slice_index c.args.choice.now.early c.args.class.number),
      c.requires.chosen c.args.class.number c.args.class.known,
      count_few c.args.classes.now c.args.class.number c.args.class.known,
    )

pub add_to-requires-3-clause-fits : goal.add_to-requires-3-clause-fits
add_to-requires-3-clause-fits c =
    omega (
      arith,
      c.requires.ends c.finish.result c.finish.ensures.below,
      ends_few c.args.classes.now (slice_index c.args.choice.now.early) c.finish.result c.args.class.number (omega arith) c.requires.chosen,
      c.requires.chosen c.args.class.number c.args.class.known,
      count_few c.args.classes.now c.args.class.number c.args.class.known,
    )

pub add_to-requires-4-clause-fits : goal.add_to-requires-4-clause-fits
add_to-requires-4-clause-fits c =
    omega (
      arith,
      c.add_to-3.ensures c.finish-2.result c.finish-2.ensures.below,
      c.requires.ends c.finish-2.result c.finish-2.ensures.below,
      ends_few c.args.classes.now (slice_index c.args.choice.now.early) c.finish-2.result c.args.class.number (omega arith) c.requires.chosen,
      part c.finish.result c.finish-2.result (slice_index c.args.choice.now.early c.args.class.number),
      c.requires.chosen c.args.class.number c.args.class.known,
      count_few c.args.classes.now c.args.class.number c.args.class.known,
    )

pub returns-clause-starts : goal.returns-clause-starts
returns-clause-starts c p h =
    let k = c.args.classes.now in
    let choice = slice_index c.args.choice.now.early in
    let n = c.args.class.number in
    class_added (starts_at k choice p) n (slice_index c.args.edges.now.starts p) (slice_index c.add_to.new.sums p)
    (slice_index c.add_to-2.new.sums p)
    c.start.result c.start-2.result _ _ p (choice n) (slice_index k.count n - choice n)
    (c.requires.starts p h) (c.add_to.ensures p h) (c.add_to-2.ensures p h) c.start.ensures.value c.start-2.ensures.value refl

pub returns-clause-ends : goal.returns-clause-ends
returns-clause-ends c p h =
    let k = c.args.classes.now in
    let choice = slice_index c.args.choice.now.early in
    let n = c.args.class.number in
    class_added (ends_at k choice p) n (slice_index c.args.edges.now.ends p) (slice_index c.add_to-3.new.sums p)
    (slice_index c.add_to-4.new.sums p)
    c.finish.result c.finish-2.result _ _ p (choice n) (slice_index k.count n - choice n)
    (c.requires.ends p h) (c.add_to-3.ensures p h) (c.add_to-4.ensures p h) c.finish.ensures.value c.finish-2.ensures.value refl

pub returns-then-classes-class-eq0-clause-first : goal.returns-then-classes-class-eq0-clause-first
returns-then-classes-class-eq0-clause-first c =
    class_skipped _ c.args.class.number _ c.requires.first
    (load_none c.args.classes.now 0 c.args.class.number _ (omega arith) c.args.class.known
    (c.requires.chosen c.args.class.number c.args.class.known) (omega arith))

pub overflow_add-edges : goal.overflow_add-edges
overflow_add-edges c =
    let more = summed _ c.args.class.number _ _ c.requires.first c.class_load.ensures.value in
    let few =
    loads_few c.args.classes.now (slice_index c.args.choice.now.early) 0 (c.args.class.number + 1) (omega arith)
    (omega (arith, c.args.class.known)) c.requires.chosen in
    omega (arith, more, few)

pub returns-clause-first : goal.returns-clause-first
returns-clause-first c = summed _ c.args.class.number _ _ c.requires.first c.class_load.ensures.value
