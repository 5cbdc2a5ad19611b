use Rattle.pocsag_plan.proofs.Prelude.{IsGoodPage}
use Rattle.pocsag_plan.proofs.Tallies.{All-here, lost, lost_tables}
use Rattle.pocsag_plan.proofs.tally.discount_page.Goals as goal

pub whole_turns-turns-requires : goal.whole_turns-turns-requires
whole_turns-turns-requires c = (All-here IsGoodPage c.requires.before c.requires.after c.args.page.now c.requires.good).few

pub invariant_of-classes : goal.invariant_of-classes
invariant_of-classes c =
    record {
      tables = lost_tables c.args.classes.now c.args.end c.args.page.now c.class_of-class.result.number c.whole_turns-turns.result
          c.class_of-class.ensures c.whole_turns-turns.ensures.value c.class_of-class.result.known c.requires;
    }

pub returns : goal.returns
returns c before after of =
    let now = lost c.args.classes.now c.args.end c.args.page.now c.class_of-class.result.number c.whole_turns-turns.result
    c.class_of-class.ensures c.whole_turns-turns.ensures.value c.class_of-class.result.known before after of in
    record { count = now.each; turns = now.each_turns }
