use Rattle.pocsag_decode.proofs.Prelude.{◌+◌, ◌<◌, length, [], List, refl, subst, ap, ◌∙◌, arith, drop, ℕ, All-from_get_or, on_err_weaker, on_ok_weaker, TookPrefix}
use Rattle.pocsag_decode.proofs.Listings.{listed_reading}
use Rattle.pocsag_decode.proofs.PageRows.{listing_some}
use Rattle.pocsag_decode.proofs.lister.list_sent.Goals as goal

pub returns-clause-whole : goal.returns-clause-whole
returns-clause-whole g c = λ is_known.
    let bytes = c.args.bytes.now in
    on_ok_weaker c.list_batches.result
    (λ told pages reads.
    listed_reading bytes c.split_at.result.1.now _ (g.S.Sink.taken c.args.sink.now) (g.S.Sink.taken c.list_batches.new.sink) pages
    (All-from_get_or (λ b. b < 256) bytes 0 (λ i h. omega (arith, (c.type_inv.bytes i).fits)))
    (c.split_at.ensures.back ∙ ap (λ (n : ℕ). drop n bytes) c.preamble_len.ensures.value) refl told reads)
    (c.list_batches.ensures.whole is_known)

pub returns-clause-part : goal.returns-clause-part
returns-clause-part g c = λ is_known.
    let bytes = c.args.bytes.now in
    on_err_weaker c.list_batches.result
    (λ took pages reads.
    subst (λ (due : List ℕ). TookPrefix (g.S.Sink.taken c.args.sink.now) (g.S.Sink.taken c.list_batches.new.sink) due)
    (listed_reading bytes c.split_at.result.1.now _ [] _ pages
    (All-from_get_or (λ b. b < 256) bytes 0 (λ i h. omega (arith, (c.type_inv.bytes i).fits)))
    (c.split_at.ensures.back ∙ ap (λ (n : ℕ). drop n bytes) c.preamble_len.ensures.value) refl refl reads)
    took)
    (c.list_batches.ensures.part is_known)

pub returns-in_err-begin_listing-clause-stopped : goal.returns-in_err-begin_listing-clause-stopped
returns-in_err-begin_listing-clause-stopped g c = λ is_known _ pages reads. omega (arith, listing_some pages)

pub returns-clause-stopped : goal.returns-clause-stopped
returns-clause-stopped g c = λ is_known refused pages reads.
    let bytes = c.args.bytes.now in
    subst (λ (due : List ℕ). length (g.S.Sink.taken c.list_batches.new.sink) < length (g.S.Sink.taken c.args.sink.now) + length due)
    (listed_reading bytes c.split_at.result.1.now _ [] _ pages
    (All-from_get_or (λ b. b < 256) bytes 0 (λ i h. omega (arith, (c.type_inv.bytes i).fits)))
    (c.split_at.ensures.back ∙ ap (λ (n : ℕ). drop n bytes) c.preamble_len.ensures.value) refl refl reads)
    (c.list_batches.ensures.stopped is_known refused)
