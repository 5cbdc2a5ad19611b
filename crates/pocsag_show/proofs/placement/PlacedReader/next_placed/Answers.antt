use Rattle.pocsag_show.proofs.Prelude.{◌≡◌, ℕ, List, ◌∷◌, ap, ap₂, sym, ◌∙◌, pages_left, starts_ahead, number_below, placed_from, Placed}
use Rattle.pocsag_show.proofs.placement.PlacedReader.next_placed.Goals as goal

pub returns : goal.returns
returns c =
    let r = c.args.self.now in
    let number_of = number_below r.numbers.now in
    let page = c.in-Some.page in
    let left = pages_left c.next_page.new.self in
    let first : pages_left r.pages ≡ page ∷ left = rw c.in-Some.is at c.in_ok-page.ensures.next in
    ap (placed_from number_of (starts_ahead r.kinds)) first
    ∙ ap₂ (λ (pl : Placed) (pls : List Placed). pl ∷ pls)
    (ap₂ (λ (x y : ℕ). record { start = x; number = y; page = page }) (sym c.next_start.ensures.start) (sym c.below.ensures))
    (ap (λ (starts : List ℕ). placed_from number_of starts left) (sym c.next_start.ensures.left))
