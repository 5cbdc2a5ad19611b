use Rattle.pocsag_slots.proofs.Prelude.{◌-◌, arith, slice_index, sym, mul-le-mul_left}
use Rattle.pocsag_slots.proofs.LoadLemmas.{count_few, load_none}
use Rattle.pocsag_slots.proofs.load.class_load.Goals as goal

pub overflow_add-result : goal.overflow_add-result
overflow_add-result c =
    omega (
      arith,
      mul-le-mul_left c.args.early c.times_covered.ensures.once,
      count_few c.args.classes.now c.args.class.number c.args.class.known,
      c.args.classes.now.tables.short c.args.class.number c.args.class.known,
    )

pub overflow_add-result-2 : goal.overflow_add-result-2
overflow_add-result-2 c =
    omega (
      arith,
      mul-le-mul_left c.args.early c.times_covered.ensures.once,
      mul-le-mul_left (slice_index c.args.classes.now.count c.args.class.number - c.args.early) c.times_covered-2.ensures.once,
      count_few c.args.classes.now c.args.class.number c.args.class.known,
      c.args.classes.now.tables.short c.args.class.number c.args.class.known,
    )

pub returns-then-classes-class-eq0-clause-value : goal.returns-then-classes-class-eq0-clause-value
returns-then-classes-class-eq0-clause-value c =
    sym (load_none c.args.classes.now c.args.slot c.args.class.number c.args.early c.requires.slot c.args.class.known c.requires.early (omega arith))
