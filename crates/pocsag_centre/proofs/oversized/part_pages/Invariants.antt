use Rattle.pocsag_centre.proofs.Prelude.{◌≡◌, ◌++◌, filter, length, not, is_aside}
use Rattle.std.specs.Vec.Iter.{into_iter_items, into_iter_len}
use Rattle.pocsag_centre.proofs.oversized.part_pages.Given as goal

-- the two parts of the pages so far
abbrev pub invariant-loop-page : goal.invariant-loop-page
invariant-loop-page l = record {
  count : into_iter_len l.page-iterator ≡ length (into_iter_items l.page-iterator);
  parts : l.fn.queue.items ≡ l.yielded ++ into_iter_items l.page-iterator;
  planned : l.planned.items ≡ filter (λ p. not (is_aside l.asked l.fn.queue.items p)) l.yielded;
  aside : l.aside.items ≡ filter (is_aside l.asked l.fn.queue.items) l.yielded;
}
