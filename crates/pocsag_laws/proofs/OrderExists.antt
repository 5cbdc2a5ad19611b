-- The steps of a tour have an order.
use Rattle.pocsag_batch.proofs.Prelude.{◌≡◌, ℕ, zero, suc, ◌+◌, List, [], ◌∷◌, ◌++◌, length, replicate, refl, ◌∙◌, arith, slice_index, slice_set, range_with_len, length-replicate, length-set, End, Page, Step, IsTourFor, Links, AreChains, class_at, page_at, IsOrder}
use Rattle.pocsag_slots.specs.declared.step.Step.TheVariants.{Idle as Stay, Run}
use Rattle.pocsag_batch.proofs.Chains.{chains_added}
use Rattle.pocsag_laws.proofs.Prelude.{Stands, order_stands, stands_first, stands_run}
use Rattle.pocsag_slots.proofs.CountLemmas.{page_class_below}

-- queues of the places from here on
record Queued (end : End) (R : List Page) (at m : ℕ) : Type 0 where
  pub next : List ℕ
  pub head : List ℕ
  pub long : length next ≡ length R
  pub chains : AreChains end R (record { next = next; head = head }) (range_with_len at m)

queued : (end : End) (R : List Page) (at m : ℕ) → at + m ≡ length R → Queued end R at m
queued end R at zero all = record {
  next = replicate (length R) 0;
  head = replicate 136 0;
  long = length-replicate (length R) 0;
  chains = record { long = refl; chain = λ c h. tt };
}
queued end R at (suc m) all =
    let q : Queued end R (at + 1) m = queued end R (at + 1) m (omega arith) in
    let long : length q.next ≡ length R = q.long in
    let c : ℕ = class_at end R at in
    record {
      next = slice_set q.next at (slice_index q.head c);
      head = slice_set q.head c at;
      long = length-set q.next at (slice_index q.head c) ∙ q.long;
      chains = chains_added end R q.next q.head at m c (omega arith) refl (page_class_below end (page_at R at)) q.chains;
    }

order_from : (end : End) (R : List Page) (links : Links) (order : List ℕ) (steps rest : List Step) → Stands end R links order steps rest →
    (all : List ℕ) × IsOrder end R steps all
order_from end R links order steps [] s = (order, order_stands end R links order steps [] refl s)
order_from end R links order steps (Stay ∷ rest) s =
    order_from end R links order steps rest
    (record { left = s.left; chains = s.chains; enough = s.enough; classes = s.classes; in_turn = s.in_turn })
order_from end R links order steps (Run c e ∷ rest) s =
    let k : ℕ = slice_index links.head c in
    let new : Links = record { next = links.next; head = slice_set links.head c (slice_index links.next k) } in
    order_from end R new (order ++ k ∷ []) steps rest (stands_run end R links new order steps rest c k e s refl refl refl)

pub tour_has_order : (end : End) (R : List Page) (steps : List Step) → IsTourFor end R steps → (order : List ℕ) × IsOrder end R steps order
tour_has_order end R steps tour =
    let q : Queued end R 0 (length R) = queued end R 0 (length R) (omega arith) in
    let links : Links = record { next = q.next; head = q.head } in
    order_from end R links [] steps steps (stands_first end R links steps q.chains tour)
