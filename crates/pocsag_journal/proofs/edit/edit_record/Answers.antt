use Rattle.pocsag_journal.proofs.Prelude.{◌≡◌, ◌⊎◌, true, false, ℕ, List, arith, subst, Option, Some, has_address, Page, Asked, IsDone, IsSent, cancel, wants_memory}
use Rattle.pocsag_journal.specs.declared.refusal.Refusal.TheVariants as refusal
use Rattle.pocsag_journal.proofs.Refusals.{not_done}
use Rattle.pocsag_journal.proofs.edit.edit_record.Goals.{in-Ok-take_out, in-Err-take_out}
use Rattle.pocsag_journal.proofs.edit.edit_record.Goals as goal

pub returns-after-take_out-clause-refused : goal.returns-after-take_out-clause-refused
returns-after-take_out-clause-refused g c =
    let pages : List Page = g.P.Editable.pages c.args.pages.now in
    elim c.match-take_out.branch [
      | in-Ok-take_out w ↦ rw w.result-is tt
      | in-Err-take_out w ↦
          rw w.result-is
          (subst (λ (o : Option Asked). (wants_memory (refusal.Cancel w.in-Err-take_out.absent) ≡ true) ⊎ ((after : List Page) → IsDone o pages after → ⊥))
          c.in-Cancel.ensures.edit
          (not_done (Some (cancel c.in-Cancel.field.now)) pages (refusal.Cancel w.in-Err-take_out.absent)
          (λ address spelled.
          let same : c.in-Some.address ≡ address = cc (spelled, c.in-Some.ensures.value) in
          subst (λ (a : ℕ). has_address pages a ≡ false) same w.in-Err-take_out.ensures.not_there)))
    ]

pub returns-in-Some-spelled_count-clause-made : goal.returns-in-Some-spelled_count-clause-made
returns-in-Some-spelled_count-clause-made g c =
    let taken : IsSent c.in-Sent.field.now (g.P.Editable.pages c.args.pages.now) (g.P.Editable.pages c.take_first.new.self) = record {
      count = c.in-Some-spelled_count.count;
      spelled = (c.spelled_count.ensures c.in-Some-spelled_count.count).0 c.in-Some-spelled_count.is;
      there = omega (arith, c.if-count-page_count.true, c.page_count.ensures);
      rest = c.take_first.ensures;
    } in
    subst (λ (o : Option Asked). IsDone o (g.P.Editable.pages c.args.pages.now) (g.P.Editable.pages c.take_first.new.self)) c.in-Sent.ensures.edit taken
