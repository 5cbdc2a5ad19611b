use Rattle.pocsag_batch.proofs.Prelude.{ℕ, ◌/◌, ◌^◌, ◌<◌, sym, ap, ◌∙◌, address_kind, All-rest}
use Rattle.pocsag_batch.proofs.Views.{begun_view}
use Rattle.pocsag_batch.proofs.slots.SlotsIterator.next.Goals as goal

pub invariant_of-self : goal.invariant_of-self
invariant_of-self c = (
  c.self.invariant.0,
  All-rest (λ (item : ℕ). item < 2 ^ 20) _ _ _ c.in-Some.ensures.cases.0 c.self.invariant.1,
  c.self.invariant.2,
)

pub returns-in-Run-clause-steps : goal.returns-in-Run-clause-steps
returns-in-Run-clause-steps c = begun_view {w = c.address_word.result} (record {
  view = c.self.view_is;
  none = c.in_default.ensures.cases;
  split = c.in_ok-step.ensures.cases.0;
  run = c.in-Run.is;
  good = c.self.invariant.0;
  have = c.self.invariant.2;
  is = c.index-self-self.is;
  own = c.as_slice-self-inside.ensures ∙ sym (ap (λ p. p.payload) c.index-self-self.is);
  kind = c.address_word.ensures.kind ∙ sym (ap (λ p. address_kind (p.address / 8) p.function) c.index-self-self.is);
})
