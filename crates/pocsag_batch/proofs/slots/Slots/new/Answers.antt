use Rattle.pocsag_batch.proofs.Prelude.{ap, arith, length, good_pages}
use Rattle.pocsag_batch.proofs.slots.Slots.new.Goals as goal

pub invariant_of-result : goal.invariant_of-result
invariant_of-result c = (
  rw c.pages.ensures.pages (good_pages c.args.round.now c.pages.ensures.round.good),
  λ k d h. absurd (omega arith),
  rw (ap length c.pages.ensures.pages) c.requires,
)
