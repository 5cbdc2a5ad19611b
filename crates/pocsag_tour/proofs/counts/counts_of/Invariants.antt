use Rattle.pocsag_tour.proofs.Prelude.{◌≡◌, ℕ, ◌<◌, length, slice_index, arc_count}
use Rattle.pocsag_tour.proofs.counts.counts_of.Given as goal

abbrev pub invariant-loop-arc : goal.invariant-loop-arc
invariant-loop-arc l =
    (length l.counts ≡ 288)
    × ((a : ℕ) → a < l.arc → slice_index l.counts a ≡ arc_count l.classes (slice_index l.choice.early) l.batches a)
