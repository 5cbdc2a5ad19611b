use Rattle.pocsag_slots.proofs.Prelude.{◌≡◌, ℕ, ◌<◌, slice_index, class_load, ends_at, starts_at, sum_below}
use Rattle.pocsag_slots.proofs.edge.edges_of.Given as goal

abbrev pub invariant-loop-number : goal.invariant-loop-number
invariant-loop-number l = record {
  starts : (p : ℕ) → p < 16 → slice_index l.edges.starts p ≡ sum_below l.number (starts_at l.classes (slice_index l.choice.early) p);
  ends : (p : ℕ) → p < 16 → slice_index l.edges.ends p ≡ sum_below l.number (ends_at l.classes (slice_index l.choice.early) p);
  first : l.edges.first ≡ sum_below l.number (λ c. class_load l.classes 0 c (slice_index l.choice.early c));
}
