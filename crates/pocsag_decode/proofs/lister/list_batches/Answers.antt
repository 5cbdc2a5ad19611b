use Rattle.pocsag_decode.proofs.Prelude.{codes, rules, ◌≡◌, ℕ, ◌+◌, ◌*◌, ◌<◌, ◌≤◌, List, [], ◌++◌, length, refl, sym, ap, ◌∙◌, arith, append-nil, on_err_weaker, on_ok_weaker, text_in, rows_of_pages, closed}
use Rattle.std.proofs.Common.{length-append}
use Rattle.pocsag_decode.proofs.Listings.{all_listed, more_listed, none_listed, poured}
use Rattle.pocsag_decode.proofs.PageRows.{row_some}
use Rattle.pocsag_decode.proofs.Prefixes.{after_fault, some_left, took_last, took_on, took_so_far}
use Rattle.pocsag_decode.proofs.lister.list_batches.Goals as goal

pub loop-i-init : goal.loop-i-init
loop-i-init g c = record {
  can = c.requires.can;
  some = omega (arith, ap length c.requires.begun, row_some (codes "address") (codes "kind") (codes "message"));
  told = λ is_known. none_listed (g.S.Sink.taken c.args.sink.now) c.args.lister.now c.args.bytes.now c.requires.fresh c.requires.begun;
  grown = λ is_known. omega arith;
  failures = refl;
}

pub loop-i-preserved : goal.loop-i-preserved
loop-i-preserved g c =
    let loop = c.loop-i in
    let bytes = c.args.bytes.now in
    let within : 68 * loop.i + 68 ≤ length bytes = omega arith in
    record {
      can = record { ready = c.in_ok-write_many_records.ensures.ready; listable = c.in_ok-take_batch.ensures.can.listable };
      some = c.in_ok-write_many_records.ensures.kept (omega (arith, loop.invariant.some, c.in_ok-take_batch.ensures.grown));
      told = λ is_known.
          poured _ (g.S.Sink.taken loop.sink) (g.S.Sink.taken c.write_many_records.new.sink) _ _ _ (c.in_ok-write_many_records.ensures.told is_known)
          (more_listed _ (g.S.Sink.taken loop.sink) loop.lister c.take_batch.new.self loop.i bytes within c.in_ok-take_batch.ensures.reads
          (loop.invariant.told is_known));
      grown = λ is_known. omega (arith, loop.invariant.grown is_known, c.in_ok-write_many_records.ensures.grown is_known);
      failures = c.in_ok-write_many_records.ensures.failures.0 ∙ loop.invariant.failures;
    }

pub returns-clause-whole : goal.returns-clause-whole
returns-clause-whole g c = λ is_known.
    let loop = c.loop-i in
    let bytes = c.args.bytes.now in
    let long : length bytes ≡ 68 * loop.i = let whole = c.requires.long in omega arith in
    let all = all_listed _ (g.S.Sink.taken loop.sink) loop.lister c.close.new.self loop.i bytes long c.in_ok-close.ensures.text
    (loop.invariant.told is_known) in
    on_ok_weaker c.write_records.result (λ written. written ∙ sym all) (c.write_records.ensures.whole is_known)

pub returns-in_err-take_batch-clause-part : goal.returns-in_err-take_batch-clause-part
returns-in_err-take_batch-clause-part g c = λ is_known.
    let loop = c.loop-i in
    after_fault c.from_residual.result
    (took_so_far (g.S.Sink.taken c.args.sink.now) (g.S.Sink.taken loop.sink) _ _ (loop.invariant.grown is_known) (loop.invariant.told is_known))

pub returns-in_err-write_many_records-clause-part : goal.returns-in_err-write_many_records-clause-part
returns-in_err-write_many_records-clause-part g c = λ is_known.
    let loop = c.loop-i in
    let bytes = c.args.bytes.now in
    let within : 68 * loop.i + 68 ≤ length bytes = omega arith in
    after_fault c.from_residual-in_err-write_many_records.result
    (took_on (g.S.Sink.taken c.args.sink.now) (g.S.Sink.taken loop.sink) (g.S.Sink.taken c.write_many_records.new.sink) _ _ _
    (loop.invariant.grown is_known)
    (more_listed _ (g.S.Sink.taken loop.sink) loop.lister c.take_batch.new.self loop.i bytes within c.in_ok-take_batch.ensures.reads
    (loop.invariant.told is_known))
    (c.in_err-write_many_records.ensures.part is_known))

pub returns-in_err-close-clause-part : goal.returns-in_err-close-clause-part
returns-in_err-close-clause-part g c = λ is_known.
    let loop = c.loop-i in
    after_fault c.from_residual-in_err-close.result
    (took_so_far (g.S.Sink.taken c.args.sink.now) (g.S.Sink.taken loop.sink) _ _ (loop.invariant.grown is_known) (loop.invariant.told is_known))

pub returns-clause-part : goal.returns-clause-part
returns-clause-part g c = λ is_known.
    let loop = c.loop-i in
    let bytes = c.args.bytes.now in
    let long : length bytes ≡ 68 * loop.i = let whole = c.requires.long in omega arith in
    on_err_weaker c.write_records.result
    (took_last (g.S.Sink.taken c.args.sink.now) (g.S.Sink.taken loop.sink) (g.S.Sink.taken c.write_records.new.sink) _ _
    (loop.invariant.grown is_known)
    (all_listed _ (g.S.Sink.taken loop.sink) loop.lister c.close.new.self loop.i bytes long c.in_ok-close.ensures.text
    (loop.invariant.told is_known)))
    (c.write_records.ensures.part is_known)

pub returns-in_err-take_batch-clause-stopped : goal.returns-in_err-take_batch-clause-stopped
returns-in_err-take_batch-clause-stopped g c = λ is_known _.
    let loop = c.loop-i in
    some_left (g.S.Sink.taken c.args.sink.now) (g.S.Sink.taken loop.sink) (text_in loop.lister.records) _ _ (loop.invariant.told is_known)
    loop.invariant.some

pub returns-in_err-write_many_records-clause-stopped : goal.returns-in_err-write_many_records-clause-stopped
returns-in_err-write_many_records-clause-stopped g c = λ is_known refused.
    let loop = c.loop-i in
    let bytes = c.args.bytes.now in
    let within : 68 * loop.i + 68 ≤ length bytes = omega arith in
    let waits = text_in c.take_batch.new.self.records in
    let some : 0 < length waits = omega (arith, loop.invariant.some, c.in_ok-take_batch.ensures.grown) in
    let same : c.write_many_records.new.sink ≡ loop.sink = c.in_err-write_many_records.ensures.untouched (search rules) in
    rw same (some_left (g.S.Sink.taken c.args.sink.now) (g.S.Sink.taken loop.sink) waits _ _
    (more_listed _ (g.S.Sink.taken loop.sink) loop.lister c.take_batch.new.self loop.i bytes within c.in_ok-take_batch.ensures.reads
    (loop.invariant.told is_known)) some)

pub returns-in_err-close-clause-stopped : goal.returns-in_err-close-clause-stopped
returns-in_err-close-clause-stopped g c = λ is_known _.
    let loop = c.loop-i in
    some_left (g.S.Sink.taken c.args.sink.now) (g.S.Sink.taken loop.sink) (text_in loop.lister.records) _ _ (loop.invariant.told is_known)
    loop.invariant.some

pub returns-clause-stopped : goal.returns-clause-stopped
returns-clause-stopped g c = λ is_known refused.
    let loop = c.loop-i in
    let bytes = c.args.bytes.now in
    let long : length bytes ≡ 68 * loop.i = let whole = c.requires.long in omega arith in
    let all = all_listed _ (g.S.Sink.taken loop.sink) loop.lister c.close.new.self loop.i bytes long c.in_ok-close.ensures.text
    (loop.invariant.told is_known) in
    let rows = rows_of_pages (closed loop.lister.current) in
    let some : 0 < length (text_in c.close.new.self.records) =
    omega (arith, loop.invariant.some, ap length c.in_ok-close.ensures.text, length-append (text_in loop.lister.records) rows) in
    rw (c.write_records.ensures.untouched refused) (some_left (g.S.Sink.taken c.args.sink.now) (g.S.Sink.taken loop.sink) _ [] _
    (all ∙ ap (λ (l : List ℕ). g.S.Sink.taken loop.sink ++ l) (sym (append-nil (text_in c.close.new.self.records)))) some)
