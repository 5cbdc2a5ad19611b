use Rattle.pocsag_centre.proofs.Prelude.{rules, sym, not-false}
use denote.Enum.Bare.{same_true}
use Rattle.pocsag_words.specs.contracts.ending.End.{the_type}
use Rattle.pocsag_centre.proofs.readback.shows_due.Goals as goal

pub returns-clause-due : goal.returns-clause-due
returns-clause-due c = (
  λ yes. record {
    same_end = same_true the_type (search rules) _ _ (not-false _ (sym (c.if-ne.ensures)));
    due = c.is_due.ensures.0 c.if-not-is_due.false;
    accepted = c.check.ensures.accepted.0 yes;
  },
  λ due. c.check.ensures.accepted.1 due.accepted,
)
