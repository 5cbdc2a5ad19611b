use Rattle.pocsag_pages.proofs.Prelude.{◌≡◌, ℕ, ◌++◌, length, take, contains, nat_cmp, into_iter_items, into_iter_len, has_address, left_after, left_of}
use Rattle.pocsag_pages.proofs.QueueParts.{is_due}
use Rattle.pocsag_pages.proofs.queue.left_pages.Given as goal

abbrev pub invariant-loop-page : goal.invariant-loop-page
invariant-loop-page l = (a : ℕ) → contains nat_cmp l.due a ≡ has_address (take l.page-index l.sent) a

-- the pages that are left so far, and those of the pages to come
abbrev pub invariant-loop-page-2 : goal.invariant-loop-page-2
invariant-loop-page-2 l = record {
  due : (a : ℕ) → contains nat_cmp l.due a ≡ is_due l.sent l.yielded a;
  count : into_iter_len l.page-iterator ≡ length (into_iter_items l.page-iterator);
  parts : l.fn.queue.items ≡ l.yielded ++ into_iter_items l.page-iterator;
  left : left_of l.sent l.fn.queue.items ≡ l.left.items ++ left_after l.sent l.yielded (into_iter_items l.page-iterator);
}
