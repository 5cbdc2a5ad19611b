use Rattle.pocsag_slots.proofs.Prelude.{◌≡◌, ◌≢◌, ◌<◌, ◌+◌, ◌-◌, ◌∙◌, ℕ, arith, get_or-set_other, get_or-set_same, List, length, slice_index, slice_set, Classes, load, below_more}
use Rattle.std.proofs.Common.{length-set}
use Rattle.pocsag_slots.proofs.EdgeLemmas.{load_step}
use Rattle.pocsag_slots.proofs.LoadLemmas.{load_few}
use Rattle.pocsag_slots.proofs.load.loads.Goals as goal

-- the loads with one slot more
loads_more : (k : Classes) (choice : ℕ → ℕ) (slot : ℕ) (found : List ℕ) (now : ℕ) → slot < 16 → length found ≡ 16 →
    ((s : ℕ) → s < slot → slice_index found s ≡ load k choice s) → now ≡ load k choice slot → (
    record {
      long : length (slice_set found slot now) ≡ 16;
      loads : (s : ℕ) → s < slot + 1 → slice_index (slice_set found slot now) s ≡ load k choice s;
      last : now ≡ load k choice (slot + 1 - 1);
    }
    )
loads_more k choice slot found now h long so_far here = record {
  long = length-set found slot now ∙ long;
  loads = below_more _ slot
      (λ s l. let other : s ≢ slot = omega arith in get_or-set_other found slot s now 0 other ∙ so_far s l)
      (get_or-set_same found slot now 0 (omega arith) ∙ here);
  last = let same : slot + 1 - 1 ≡ slot = omega arith in rw same here;
}

pub overflow_add-load : goal.overflow_add-load
overflow_add-load c =
    let s = load_step c.args.classes.now (slice_index c.args.choice.now.early) c.loop-slot.slot c.loop-slot.load _ _ c.requires
    (omega arith) (omega arith)
    c.loop-slot.invariant.last (c.edges_of-edges.ensures.starts c.loop-slot.slot (omega arith))
    (c.edges_of-edges.ensures.ends c.loop-slot.slot (omega arith)) in
    omega (arith, s.few)

pub overflow_sub-load : goal.overflow_sub-load
overflow_sub-load c =
    (load_step c.args.classes.now (slice_index c.args.choice.now.early) c.loop-slot.slot c.loop-slot.load _ _ c.requires (omega arith)
    (omega arith)
    c.loop-slot.invariant.last (c.edges_of-edges.ensures.starts c.loop-slot.slot (omega arith))
    (c.edges_of-edges.ensures.ends c.loop-slot.slot (omega arith))).enough

pub loop-slot-preserved : goal.loop-slot-preserved
loop-slot-preserved c =
    let choice = slice_index c.args.choice.now.early in
    let s = load_step c.args.classes.now choice c.loop-slot.slot c.loop-slot.load _ _ c.requires (omega arith) (omega arith)
    c.loop-slot.invariant.last (c.edges_of-edges.ensures.starts c.loop-slot.slot (omega arith))
    (c.edges_of-edges.ensures.ends c.loop-slot.slot (omega arith)) in
    loads_more c.args.classes.now choice c.loop-slot.slot c.loop-slot.found _ (omega arith) c.loop-slot.invariant.long
    c.loop-slot.invariant.loads s.next

pub returns-clause-bound : goal.returns-clause-bound
returns-clause-bound c slot h =
    omega (
      arith,
      c.loop-slot.invariant.loads slot (omega arith),
      load_few c.args.classes.now (slice_index c.args.choice.now.early) slot h c.requires,
    )
