use Rattle.pocsag_show.proofs.Prelude.{◌≡◌, List, [], ◌∷◌, ◌++◌, All, Err, length, subst, ap, arith, flat_map, All-head, All-tail, err_from_is_err_and, IsListable, default_writer, row_text, text_in, place_record, placed_left, IsEmitting, Placed}
use Rattle.pocsag_show.proofs.Emitted.{emitted_records, next_put, records_stopped, refused}
use Rattle.pocsag_show.proofs.listing.emit_places.Goals as goal

pub put_place-requires-clause-listable : goal.put_place-requires-clause-listable
put_place-requires-clause-listable g c =
    let first : placed_left c.loop-placed.pages ≡ c.in-Some.placed ∷ placed_left c.next_placed.new.self =
    rw c.in-Some.is at c.in_ok-placed.ensures in
    All-head (λ (pl : Placed). IsListable pl.page) c.in-Some.placed (placed_left c.next_placed.new.self)
    (subst (All (λ (pl : Placed). IsListable pl.page)) first c.loop-placed.invariant.listable)

pub loop-placed-preserved : goal.loop-placed-preserved
loop-placed-preserved g c =
    let loop = c.loop-placed in
    let f = λ (pl : Placed). row_text default_writer (place_record pl) in
    let left = placed_left c.next_placed.new.self in
    let first : placed_left loop.pages ≡ c.in-Some.placed ∷ left = rw c.in-Some.is at c.in_ok-placed.ensures in
    let done = c.in_ok-write_many_records.ensures in
    record {
      ready = done.ready;
      listable =
          All-tail (λ (pl : Placed). IsListable pl.page) c.in-Some.placed left
          (subst (All (λ (pl : Placed). IsListable pl.page)) first loop.invariant.listable);
      emits = λ start all rest u.
          let put = next_put g.S.Sink start loop.sink all _ rest (f c.in-Some.placed) (ap (flat_map f) first) (loop.invariant.emits start all rest u)
          c.in_ok-put_place.ensures.1 in
          emitted_records g.S.Sink start loop.sink all c.write_many_records.new.sink (text_in c.put_place.new.writer)
          (text_in c.write_many_records.new.writer) (flat_map f left ++ rest) put (done.kept put.some) done.told done.grown done.failures.0;
    }

pub loop-placed-smaller : goal.loop-placed-smaller
loop-placed-smaller g c =
    let first : placed_left c.loop-placed.pages ≡ c.in-Some.placed ∷ placed_left c.next_placed.new.self =
    rw c.in-Some.is at c.in_ok-placed.ensures in
    omega (arith, ap length first)

pub returns-in_err-placed : goal.returns-in_err-placed
returns-in_err-placed g c =
    let p = err_from_is_err_and c.from_residual.result c.from_residual.ensures.1 in
    rw (p.1, p.2) (λ start all rest u. refused g.S.Sink start c.loop-placed.sink all _ _ (c.loop-placed.invariant.emits start all rest u))

pub returns-in_err-put_place : goal.returns-in_err-put_place
returns-in_err-put_place g c =
    let p = err_from_is_err_and c.from_residual-in_err-put_place.result c.from_residual-in_err-put_place.ensures.1 in
    rw (p.1, p.2) (λ start all rest u. refused g.S.Sink start c.loop-placed.sink all _ _ (c.loop-placed.invariant.emits start all rest u))

pub returns-in_err-write_many_records : goal.returns-in_err-write_many_records
returns-in_err-write_many_records g c =
    let p = err_from_is_err_and c.from_residual-in_err-write_many_records.result c.from_residual-in_err-write_many_records.ensures.1 in
    let loop = c.loop-placed in
    let f = λ (pl : Placed). row_text default_writer (place_record pl) in
    let left = placed_left c.next_placed.new.self in
    let first : placed_left loop.pages ≡ c.in-Some.placed ∷ left = rw c.in-Some.is at c.in_ok-placed.ensures in
    let done = c.in_err-write_many_records.ensures in
    rw (p.1, p.2) (λ start all rest u.
    records_stopped g.S.Sink start loop.sink c.write_many_records.new.sink all (text_in c.put_place.new.writer) (flat_map f left ++ rest) _
    (next_put g.S.Sink start loop.sink all _ rest (f c.in-Some.placed) (ap (flat_map f) first) (loop.invariant.emits start all rest u)
    c.in_ok-put_place.ensures.1)
    done.part (λ is. done.untouched (ap Err is)) (λ is. done.failures.1 (ap Err is)))

pub returns : goal.returns
returns g c = λ start all rest u.
    let loop = c.loop-placed in
    let f = λ (pl : Placed). row_text default_writer (place_record pl) in
    let none : placed_left loop.pages ≡ [] = rw c.in_default.is at c.in_ok-placed.ensures in
    subst (λ (pls : List Placed). IsEmitting g.S.Sink start loop.sink all (text_in loop.writer) (flat_map f pls ++ rest)) none
    (loop.invariant.emits start all rest u)
