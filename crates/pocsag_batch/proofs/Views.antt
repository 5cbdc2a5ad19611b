-- What the iterator over a layout has left.
use Rattle.pocsag_batch.proofs.Prelude.{◌≡◌, ℕ, ◌-◌, ◌/◌, ◌<◌, Bool, List, [], ◌∷◌, ◌++◌, length, map, refl, take, drop, get_or, sym, ap, ◌∙◌, All, get_or_default, nil_from_length, All-get_or, kind_of, address_kind, Kind, Page, IsGoodPage, page_words, Step, HavePlaces, laid_by, page_at, take_rest, Address, Message, kind_unreserved}
use Rattle.pocsag_slots.specs.declared.step.Step.TheVariants.{Run}

page_is : (R : List Page) (k : ℕ) (p : Page) → k < length R → p ≡ get_or R k p → page_at R k ≡ p
page_is R k p within is = get_or_default R k _ p within ∙ sym is

-- a run is the page at the place that comes first, and the other places are left
pub run_view : (R : List Page) (order : List ℕ) (ss : List Step) (c : ℕ) (e : Bool) (p : Page)
    → HavePlaces (length R) order (Run c e ∷ ss) →
    p ≡ get_or R (get_or order 0 0) p
    → laid_by R order (Run c e ∷ ss) ≡ page_words p ++ laid_by R (take (length order - 1) (drop 1 order)) ss
run_view R [] ss c e p have is = elim have [ ]
run_view R (k ∷ order) ss c e p have is =
    ap (λ q. page_words q ++ laid_by R order ss) (page_is R k p have.0 is)
    ∙ ap (λ v. page_words p ++ laid_by R v ss) (sym (take_rest (k ∷ order) 1))

-- the page at the place that comes first is a good one
good_first : (R : List Page) (order : List ℕ) (ss : List Step) (c : ℕ) (e : Bool) (p : Page) → All IsGoodPage R
    → HavePlaces (length R) order (Run c e ∷ ss) →
    p ≡ get_or R (get_or order 0 0) p → IsGoodPage p
good_first R [] ss c e p good have is = elim have [ ]
good_first R (k ∷ order) ss c e p good have is =
    rw is (All-get_or IsGoodPage R k p have.0 good)

-- an unreserved address never makes the idle codeword
good_kind : (p : Page) (w : ℕ) → IsGoodPage p → kind_of w ≡ address_kind (p.address / 8) p.function
    → kind_of w ≡ Address (p.address / 8) p.function
good_kind p w good kind = kind ∙ kind_unreserved p.address p.function good.address good.function good.unreserved

-- a page begins: no item is left of the one before, and the step that comes first is a run of it
pub record Begins (R : List Page) (order items items' : List ℕ) (steps ss : List Step) (c : ℕ) (e : Bool) (p : Page) (s : Step)
    (left : List Kind) (w : ℕ) : Type 0 where
  pub view : map Message items ++ laid_by R order steps ≡ left
  pub none : length items ≡ 0
  pub split : steps ≡ s ∷ ss
  pub run : s ≡ Run c e
  pub good : All IsGoodPage R
  pub have : HavePlaces (length R) order steps
  pub is : p ≡ get_or R (get_or order 0 0) p
  pub own : items' ≡ p.payload
  pub kind : kind_of w ≡ address_kind (p.address / 8) p.function

-- the codewords that are left there
pub begun_view : {R : List Page} {order items items' : List ℕ} {steps ss : List Step} {c : ℕ} {e : Bool} {p : Page} {s : Step}
    {left : List Kind} {w : ℕ} → Begins R order items items' steps ss c e p s left w
    → left ≡ kind_of w ∷ (map Message items' ++ laid_by R (take (length order - 1) (drop 1 order)) ss)
begun_view {R} {order} {items} {items'} {steps} {ss} {c} {e} {p} {left = left} {w = w} b =
    let cut : steps ≡ Run c e ∷ ss = b.split ∙ ap (λ v. v ∷ ss) b.run in
    let here : HavePlaces (length R) order (Run c e ∷ ss) = rw (← cut) b.have in
    let says : kind_of w ≡ Address (p.address / 8) p.function = good_kind p w (good_first R order ss c e p b.good here b.is) b.kind in
    let ended : items ≡ [] = nil_from_length items b.none in
    let began : map Message items ++ laid_by R order steps ≡ laid_by R order (Run c e ∷ ss) = rw (ended, cut) refl in
    sym b.view ∙ (began ∙ (run_view R order ss c e p here b.is ∙ rw (says, b.own) refl))
