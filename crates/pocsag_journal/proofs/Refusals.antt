-- What is refused is no edit of these pages, or memory was wanting.
use Rattle.pocsag_journal.proofs.Prelude.{◌≡◌, ◌⊎◌, inl, inr, ℕ, zero, suc, ◌<◌, true, List, [], ◌∷◌, length, refl, sym, ap, ◌∙◌, subst, arith, slice_index_or, Option, Some, None, Ok, Contains, or_right, has_address, page_of_fields, Page, FieldFault, add_fault, fault_or_memory, IsAdded, Asked, IsDone, IsReason, add, cancel, clear, sent, wants_memory, Refusal}
use Rattle.std.specs.Prelude.{nat_eq}
use Rattle.pocsag_plan.specs.declared.refusal.AddFault.{AddFault}
use Rattle.pocsag_journal.specs.declared.refusal.Refusal.TheVariants as refusal

pub same_nat : (n : ℕ) → nat_eq n n ≡ true
same_nat n = grind (arith)

at_place : (pages : List Page) (k : ℕ) (d : Page) → k < length pages → has_address pages (slice_index_or pages k d).address ≡ true
at_place [] k d h = absurd (omega arith)
at_place (p ∷ pages) zero d h = rw (same_nat p.address) refl
at_place (p ∷ pages) (suc k) d h = or_right _ _ (at_place pages k d (omega arith))

there : (pages : List Page) (p : Page) → Contains pages p → has_address pages p.address ≡ true
there pages p h = subst (λ (q : Page). has_address pages q.address ≡ true) h.2 (at_place pages h.0 p h.1)

by_fault : (a k m : List ℕ) (pages : List Page) (page : Page) (f : AddFault) (o : Option AddFault) → page_of_fields a k m ≡ Ok page →
    add_fault pages page ≡ o → f ≡ fault_or_memory o →
    (wants_memory (refusal.Add f) ≡ true) ⊎ ((after : List Page) → IsAdded a k m pages after → ⊥)
by_fault a k m pages page f None e t h = inl (ap (λ (g : AddFault). wants_memory (refusal.Add g)) h)
by_fault a k m pages page f (Some g) e t h = inr (λ after d.
    let same : page ≡ d.page = cc (e, d.spelled) in
    cc (sym t ∙ ap (λ (q : Page). add_fault pages q) same ∙ d.free))

pub not_done : (asked : Option Asked) (pages : List Page) (why : Refusal) → IsReason asked pages why →
    (wants_memory why ≡ true) ⊎ ((after : List Page) → IsDone asked pages after → ⊥)
not_done None pages why h = inr (λ after d. d)
not_done (Some (add a k m)) pages (refusal.Field f) (inl h) = inl (ap (λ (g : FieldFault). wants_memory (refusal.Field g)) h.0)
not_done (Some (add a k m)) pages (refusal.Field f) (inr e) = inr (λ after d. cc (e, d.spelled))
not_done (Some (add a k m)) pages (refusal.Add f) h = by_fault a k m pages h.0 f (add_fault pages h.0) h.1 refl h.2
not_done (Some (add a k m)) pages why h = absurd h
not_done (Some (cancel a)) pages (refusal.Cancel f) h = inr (λ after d. cc (there pages d.page d.there, h d.page.address d.spelled))
not_done (Some (cancel a)) pages why h = absurd h
not_done (Some (sent n)) pages (refusal.Cancel f) h = inr (λ after d. let few = h d.count d.spelled in omega (arith, few, d.there))
not_done (Some (sent n)) pages why h = absurd h
not_done (Some clear) pages why h = absurd h
