use Rattle.pocsag_show.proofs.Prelude.{◌≡◌, List, [], ◌∷◌, ◌++◌, All, length, subst, ap, arith, flat_map, All-head, All-tail, err_from_is_err_and, IsListable, page_drawn, placed_left, IsEmitting, Placed}
use Rattle.pocsag_show.proofs.Emitted.{next_put, refused}
use Rattle.pocsag_show.proofs.page_lines.emit_pages.Goals as goal

pub put_page-requires-clause-listable : goal.put_page-requires-clause-listable
put_page-requires-clause-listable g c =
    let first : placed_left c.loop-placed.pages ≡ c.in-Some.placed ∷ placed_left c.next_placed.new.self =
    rw c.in-Some.is at c.in_ok-placed.ensures in
    All-head (λ (pl : Placed). IsListable pl.page) c.in-Some.placed (placed_left c.next_placed.new.self)
    (subst (All (λ (pl : Placed). IsListable pl.page)) first c.loop-placed.invariant.listable)

pub loop-placed-preserved : goal.loop-placed-preserved
loop-placed-preserved g c =
    let loop = c.loop-placed in
    let f = page_drawn c.args.window.low c.args.window.high in
    let left = placed_left c.next_placed.new.self in
    let first : placed_left loop.pages ≡ c.in-Some.placed ∷ left = rw c.in-Some.is at c.in_ok-placed.ensures in
    record {
      listable =
          All-tail (λ (pl : Placed). IsListable pl.page) c.in-Some.placed left
          (subst (All (λ (pl : Placed). IsListable pl.page)) first loop.invariant.listable);
      emits = λ start all rest u.
          c.in_ok-emit.ensures start all _
          (next_put g.S.Sink start loop.sink all _ rest (f c.in-Some.placed) (ap (flat_map f) first) (loop.invariant.emits start all rest u) c.in_ok-put_page.ensures);
    }

pub loop-placed-smaller : goal.loop-placed-smaller
loop-placed-smaller g c =
    let first : placed_left c.loop-placed.pages ≡ c.in-Some.placed ∷ placed_left c.next_placed.new.self =
    rw c.in-Some.is at c.in_ok-placed.ensures in
    omega (arith, ap length first)

pub returns-in_err-placed : goal.returns-in_err-placed
returns-in_err-placed g c =
    let p = err_from_is_err_and c.from_residual.result c.from_residual.ensures.1 in
    rw (p.1, p.2) (λ start all rest u. refused g.S.Sink start c.loop-placed.sink all _ _ (c.loop-placed.invariant.emits start all rest u))

pub returns-in_err-put_page : goal.returns-in_err-put_page
returns-in_err-put_page g c =
    let p = err_from_is_err_and c.from_residual-in_err-put_page.result c.from_residual-in_err-put_page.ensures.1 in
    rw (p.1, p.2) (λ start all rest u. refused g.S.Sink start c.loop-placed.sink all _ _ (c.loop-placed.invariant.emits start all rest u))

pub returns-in_err-emit : goal.returns-in_err-emit
returns-in_err-emit g c =
    let p = err_from_is_err_and c.from_residual-in_err-emit.result c.from_residual-in_err-emit.ensures.1 in
    let loop = c.loop-placed in
    let f = page_drawn c.args.window.low c.args.window.high in
    let left = placed_left c.next_placed.new.self in
    let first : placed_left loop.pages ≡ c.in-Some.placed ∷ left = rw c.in-Some.is at c.in_ok-placed.ensures in
    rw (p.1, p.2) (λ start all rest u.
    c.in_err-emit.ensures start all _
    (next_put g.S.Sink start loop.sink all _ rest (f c.in-Some.placed) (ap (flat_map f) first) (loop.invariant.emits start all rest u) c.in_ok-put_page.ensures))

pub returns : goal.returns
returns g c = λ start all rest u.
    let loop = c.loop-placed in
    let f = page_drawn c.args.window.low c.args.window.high in
    let none : placed_left loop.pages ≡ [] = rw c.in_default.is at c.in_ok-placed.ensures in
    subst (λ (pls : List Placed). IsEmitting g.S.Sink start loop.sink all loop.text.items (flat_map f pls ++ rest)) none
    (loop.invariant.emits start all rest u)
