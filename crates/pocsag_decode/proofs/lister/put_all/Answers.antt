use Rattle.pocsag_decode.proofs.Prelude.{codes, rules, ◌≡◌, ◌++◌, List, ℕ, length, refl, sym, ap, ◌∙◌, arith, map-id, on_err_weaker, on_ok_weaker, default_writer, row_text, text_in, record_of, rows_of_pages}
use Rattle.std.proofs.Common.{length-append}
use Rattle.std.proofs.lemmas.Iterator.Adapters.{YieldsList-from_vec}
use Rattle.std.proofs.lemmas.Iterator.Consumers.{YieldsList-end, YieldsList-turn}
use Rattle.pocsag_decode.proofs.Listings.{listing_is, poured, row_more, rows_end}
use Rattle.pocsag_decode.proofs.PageRows.{row_some}
use Rattle.pocsag_decode.proofs.Prefixes.{after_fault, some_left, took_on, took_so_far}
use Rattle.pocsag_decode.proofs.lister.put_all.Goals as goal

pub loop-page-init : goal.loop-page-init
loop-page-init g c = record {
  ready = c.requires.ready;
  some = omega (arith, ap length c.requires.begun, row_some (codes "address") (codes "kind") (codes "message"));
  told = λ is_known.
      ap (λ (l : List ℕ). g.S.Sink.taken c.args.sink.now ++ l)
      (listing_is c.args.pages.items ∙ ap (λ (l : List ℕ). l ++ rows_of_pages c.args.pages.items) (sym c.requires.begun));
  grown = λ is_known. omega arith;
  failures = refl;
}

pub loop-page-preserved : goal.loop-page-preserved
loop-page-preserved g c =
    let loop = c.loop-page in
    let gives = c.into_iter-page-iterator.ensures.into_iter_gives in
    let list = YieldsList-from_vec c.args.pages.items gives.0 (gives.1 ∙ c.args.pages.ok.0) in
    let turn = YieldsList-turn list loop.yielded loop.page-iterator loop.yielded_by c.next.result c.next.new.self c.in-Some.page c.in-Some.is
    c.next.ensures.steps in
    record {
      ready = c.in_ok-write_many_records.ensures.ready;
      some = c.in_ok-write_many_records.ensures.kept
          (omega (arith, loop.invariant.some, ap length c.in_ok-put_spent.ensures.row.1, length-append (text_in loop.records) (row_text default_writer (record_of c.in-Some.page))));
      told = λ is_known.
          poured _ (g.S.Sink.taken loop.sink) (g.S.Sink.taken c.write_many_records.new.sink) _ _ _ (c.in_ok-write_many_records.ensures.told is_known)
          (row_more _ (g.S.Sink.taken loop.sink) _ c.args.pages.items loop.yielded (loop.invariant.told is_known) _ c.in-Some.page turn.0 turn.1
          c.in_ok-put_spent.ensures.row.1);
      grown = λ is_known. omega (arith, loop.invariant.grown is_known, c.in_ok-write_many_records.ensures.grown is_known);
      failures = c.in_ok-write_many_records.ensures.failures.0 ∙ loop.invariant.failures;
    }

pub returns-clause-whole : goal.returns-clause-whole
returns-clause-whole g c = λ is_known.
    let loop = c.loop-page in
    let gives = c.into_iter-page-iterator.ensures.into_iter_gives in
    let list = YieldsList-from_vec c.args.pages.items gives.0 (gives.1 ∙ c.args.pages.ok.0) in
    let end = YieldsList-end list loop.yielded loop.page-iterator loop.yielded_by c.next.result c.next.new.self c.in-None.is c.next.ensures.steps in
    let all = rows_end _ (g.S.Sink.taken loop.sink) _ c.args.pages.items loop.yielded (loop.invariant.told is_known)
    (sym (map-id loop.yielded) ∙ end.0) in
    on_ok_weaker c.write_records.result (λ written. written ∙ sym all) (c.write_records.ensures.whole is_known)

pub returns-in_err-put_spent-clause-part : goal.returns-in_err-put_spent-clause-part
returns-in_err-put_spent-clause-part g c = λ is_known.
    let loop = c.loop-page in
    after_fault c.from_residual.result
    (took_so_far (g.S.Sink.taken c.args.sink.now) (g.S.Sink.taken loop.sink) _ _ (loop.invariant.grown is_known) (loop.invariant.told is_known))

pub returns-in_err-write_many_records-clause-part : goal.returns-in_err-write_many_records-clause-part
returns-in_err-write_many_records-clause-part g c = λ is_known.
    let loop = c.loop-page in
    let gives = c.into_iter-page-iterator.ensures.into_iter_gives in
    let list = YieldsList-from_vec c.args.pages.items gives.0 (gives.1 ∙ c.args.pages.ok.0) in
    let turn = YieldsList-turn list loop.yielded loop.page-iterator loop.yielded_by c.next.result c.next.new.self c.in-Some.page c.in-Some.is
    c.next.ensures.steps in
    after_fault c.from_residual-in_err-write_many_records.result
    (took_on (g.S.Sink.taken c.args.sink.now) (g.S.Sink.taken loop.sink) (g.S.Sink.taken c.write_many_records.new.sink) _ _ _
    (loop.invariant.grown is_known)
    (row_more _ (g.S.Sink.taken loop.sink) _ c.args.pages.items loop.yielded (loop.invariant.told is_known) _ c.in-Some.page turn.0 turn.1
    c.in_ok-put_spent.ensures.row.1)
    (c.in_err-write_many_records.ensures.part is_known))

pub returns-clause-part : goal.returns-clause-part
returns-clause-part g c = λ is_known.
    let loop = c.loop-page in
    on_err_weaker c.write_records.result
    (took_on (g.S.Sink.taken c.args.sink.now) (g.S.Sink.taken loop.sink) (g.S.Sink.taken c.write_records.new.sink) _ _ _
    (loop.invariant.grown is_known) (loop.invariant.told is_known))
    (c.write_records.ensures.part is_known)

pub returns-in_err-put_spent-clause-stopped : goal.returns-in_err-put_spent-clause-stopped
returns-in_err-put_spent-clause-stopped g c = λ is_known _.
    let loop = c.loop-page in
    some_left (g.S.Sink.taken c.args.sink.now) (g.S.Sink.taken loop.sink) (text_in loop.records) _ _ (loop.invariant.told is_known)
    loop.invariant.some

pub returns-in_err-write_many_records-clause-stopped : goal.returns-in_err-write_many_records-clause-stopped
returns-in_err-write_many_records-clause-stopped g c = λ is_known refused.
    let loop = c.loop-page in
    let same : c.write_many_records.new.sink ≡ loop.sink = c.in_err-write_many_records.ensures.untouched (search rules) in
    rw same (some_left (g.S.Sink.taken c.args.sink.now) (g.S.Sink.taken loop.sink) (text_in loop.records) _ _ (loop.invariant.told is_known)
    loop.invariant.some)
