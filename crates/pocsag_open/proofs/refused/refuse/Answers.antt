use Rattle.pocsag_open.proofs.Prelude.{◌≡◌, rules, sym, subst, Delivers, refusal_answer}
use Rattle.pocsag_pages.specs.declared.fault.FieldFault.TheVariants as field
use Rattle.pocsag_journal.specs.declared.refusal.Refusal.{Refusal}
use Rattle.pocsag_journal.specs.declared.refusal.Refusal.TheVariants as refusal
use Rattle.pocsag_open.proofs.refused.refuse.Goals as goal

pub returns-in-Field-BadCharacter-clause-printed : goal.returns-in-Field-BadCharacter-clause-printed
returns-in-Field-BadCharacter-clause-printed g c = λ is_known.
    let same : c.args.refusal ≡ refusal.Field (field.BadCharacter c.in-Field-BadCharacter.place) =
    search rules in
    subst (λ (r : Refusal). Delivers c.print_numbers.result (g.O.Sink.taken c.args.out.now) (g.O.Sink.taken c.print_numbers.new.sink) (refusal_answer r))
    (sym same) (c.print_numbers.ensures.delivers is_known)
