use denote.Enum.Declared.{tag_of}
use Rattle.std.proofs.Common.{rules}
use Rattle.pocsag_c.proofs.Prelude.{◌≡◌, Ok, refl, verdict, IsText, IsTrue, End, number_of_end}
use Rattle.pocsag_words.specs.declared.ending.End.TheVariants as ends
use Rattle.pocsag_words.specs.contracts.ending.End.{the_type}
use Rattle.pocsag_tree.specs.Views.{bound_tree_of}
use Rattle.pocsag_c.proofs.check.verdict_of.Goals as goal

same_end : (end : End) → tag_of the_type end ≡ number_of_end end
same_end ends.Open = refl
same_end ends.Closed = refl
same_end ends.Idle = refl

pub returns-clause-shown : goal.returns-clause-shown
returns-clause-shown c = λ yes.
    let certificate = c.in_ok-certificate.certificate in
    let tree = bound_tree_of certificate.tree in
    let read : verdict c.args.pages.now ≡ Ok c.in_ok-round.round = search rules in
    let text : IsText certificate.end certificate.batches tree c.args.cert.now = search rules in
    record {
      end = certificate.end;
      same_end = same_end certificate.end;
      holds = record {
        round = c.in_ok-round.round;
        read = read;
        tree = tree;
        text = text;
        accepted = c.verdict_on-is_shown.ensures.accepted.0 yes;
        bound = c.verdict_on-is_shown.ensures.bound yes;
      };
    }

pub returns-clause-not_shown : goal.returns-clause-not_shown
returns-clause-not_shown c = λ no.
    let certificate = c.in_ok-certificate.certificate in
    let tree = bound_tree_of certificate.tree in
    let read : verdict c.args.pages.now ≡ Ok c.in_ok-round.round = search rules in
    let text : IsText certificate.end certificate.batches tree c.args.cert.now = search rules in
    record {
      end = certificate.end;
      same_end = same_end certificate.end;
      holds = record {
        round = c.in_ok-round.round;
        read = read;
        tree = tree;
        spelled = text;
        refused = λ is. let yes : IsTrue c.verdict_on-is_shown.result.is_shown = c.verdict_on-is_shown.ensures.accepted.1 is in cc;
      };
    }
