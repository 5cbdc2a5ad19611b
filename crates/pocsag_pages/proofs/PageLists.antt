-- The first fault of a list of pages, one page at a time.
use Rattle.pocsag_pages.proofs.Prelude.{◌≡◌, ℕ, suc, ◌+◌, ◌^◌, ◌<◌, ◌≤◌, true, false, List, [], ◌∷◌, ◌++◌, length, get_or, take, drop, refl, sym, ap, ◌∙◌, arith, Some, None, take_more, drop_more, length-take, Page, RoundFault, AreGood, has_address, page_fault_of, fault_of_next, first_page_fault, AreApart}
use Rattle.pocsag_pages.specs.declared.fault.PageFault.{PageFault}
use Rattle.pocsag_pages.specs.declared.fault.RecordFault.TheVariants as wrong
use Rattle.pocsag_pages.specs.declared.fault.RoundFault.TheVariants as fault
use Rattle.pocsag_pages.proofs.GoodPages.{few_pages}

-- the fault of the page p, which follows these, is the first; or else it is that of the rest
module _ (before rest : List Page) (p : Page) where
  pub fault_here : (f : RoundFault) → fault_of_next before p ≡ Some f → first_page_fault before (p ∷ rest) ≡ Some f
  unfolding first_page_fault
  fault_here f e = rw e refl

  pub fault_later : fault_of_next before p ≡ None → first_page_fault before (p ∷ rest) ≡ first_page_fault (before ++ p ∷ []) rest
  unfolding first_page_fault
  fault_later e = rw e refl

-- the page p at the place i of a list
module _ (ps : List Page) (i : ℕ) (p : Page) (within : i < length ps) (here : p ≡ get_or ps i p) where
  pub so_far : length (take i ps) ≡ i
  so_far = rw length-take (omega arith)

  pub taken : take (i + 1) ps ≡ take i ps ++ p ∷ []
  taken = take_more ps i p within ∙ ap (λ q. take i ps ++ q ∷ []) (sym here)

  pub left : drop i ps ≡ p ∷ drop (i + 1) ps
  left = drop_more ps i p within ∙ ap (λ q. q ∷ drop (i + 1) ps) (sym here)

  pub few : AreGood (take i ps) → i ≤ 2 ^ 21
  few good = omega (arith, few_pages (take i ps) good, so_far)

  pub broken : (f : PageFault) → page_fault_of p ≡ Some f → fault_of_next (take i ps) p ≡ Some (fault.Record (i + 1) (wrong.Page f))
  unfolding fault_of_next
  broken f e = rw (e, so_far) refl

  pub again :
      page_fault_of p ≡ None → has_address (take i ps) p.address ≡ true →
      fault_of_next (take i ps) p ≡ Some (fault.Record (i + 1) wrong.DuplicateAddress)
  unfolding fault_of_next
  again e h = rw (e, so_far, h) refl

  pub fine : page_fault_of p ≡ None → has_address (take i ps) p.address ≡ false → fault_of_next (take i ps) p ≡ None
  unfolding fault_of_next
  fine e h = rw (e, h) refl

pub apart_rest : (r : Page) (R : List Page) → AreApart (r ∷ R) → AreApart R
apart_rest r R apart = λ j k d below within. apart (suc j) (suc k) d (omega arith) (omega arith)
