use Rattle.pocsag_plan.proofs.Tallies.{gained, gained_tables}
use Rattle.pocsag_plan.proofs.tally.count_page.Goals as goal

pub invariant_of-classes : goal.invariant_of-classes
invariant_of-classes c =
    record {
      tables = gained_tables c.args.classes.now c.args.end c.args.page.now c.class_of-class.result.number c.whole_turns-turns.result
          c.class_of-class.ensures c.whole_turns-turns.ensures.value c.class_of-class.result.known c.requires;
    }

pub returns : goal.returns
returns c before after of =
    let now = gained c.args.classes.now c.args.end c.args.page.now c.class_of-class.result.number c.whole_turns-turns.result
    c.class_of-class.ensures c.whole_turns-turns.ensures.value c.class_of-class.result.known before after of in
    record { count = now.each; turns = now.each_turns }
