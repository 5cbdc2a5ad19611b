use Rattle.pocsag_show.proofs.Prelude.{◌≡◌, rules, ℕ, List, [], ◌++◌, ap, subst, ◌∙◌, err_from_is_err_and, default_writer, row_text, text_in, kinds_read, placed_left, place_header, place_listing, IsEmitting, Places}
use Rattle.pocsag_show.proofs.Emitted.{refused, refused_first}
use Rattle.pocsag_show.proofs.Texts.{listing_begun, placed_again, view_some}
use Rattle.pocsag_show.proofs.listing.emit_listing.Goals as goal

pub returns-in_err-put_record : goal.returns-in_err-put_record
returns-in_err-put_record g c =
    let p = err_from_is_err_and c.from_residual.result c.from_residual.ensures.1 in
    rw (p.1, p.2) (λ X j. refused_first g.S.Sink c.args.sink.now c.args.sink.now _ (view_some Places (kinds_read j.reading) j.pages))

pub emit_places-requires-clause-listable : goal.emit_places-requires-clause-listable
emit_places-requires-clause-listable g c = c.new-pages.ensures.listable c.requires.0 c.requires.1

pub returns-in_err-emit_places : goal.returns-in_err-emit_places
returns-in_err-emit_places g c =
    let p = err_from_is_err_and c.from_residual-in_err-emit_places.result c.from_residual-in_err-emit_places.ensures.1 in
    let empty : text_in c.from_writer-writer.result ≡ [] = search rules in
    rw (p.1, p.2) (λ X j.
    c.in_err-emit_places.ensures c.args.sink.now (place_listing (kinds_read j.reading) j.pages) []
    (listing_begun g.S.Sink c.args.sink.now (kinds_read j.reading) j.pages (text_in c.put_record.new.writer) (placed_left c.new-pages.result)
    (c.in_ok-put_record.ensures.1 ∙ ap (λ (l : List ℕ). l ++ row_text default_writer place_header) empty)
    (placed_again X c.args.judged.now j _ c.new-pages.ensures.left)))

pub returns-in_default : goal.returns-in_default
returns-in_default g c =
    let empty : text_in c.from_writer-writer.result ≡ [] = search rules in
    λ X j.
    refused g.S.Sink c.args.sink.now c.emit_places.new.sink (place_listing (kinds_read j.reading) j.pages) _ []
    (c.in_ok-emit_places.ensures c.args.sink.now (place_listing (kinds_read j.reading) j.pages) []
    (listing_begun g.S.Sink c.args.sink.now (kinds_read j.reading) j.pages (text_in c.put_record.new.writer) (placed_left c.new-pages.result)
    (c.in_ok-put_record.ensures.1 ∙ ap (λ (l : List ℕ). l ++ row_text default_writer place_header) empty)
    (placed_again X c.args.judged.now j _ c.new-pages.ensures.left)))

pub returns : goal.returns
returns g c =
    let empty : text_in c.from_writer-writer.result ≡ [] = search rules in
    let text : text_in c.emit_places.new.writer ≡ c.as_slice.result.now = search rules in
    λ X j.
    let all = place_listing (kinds_read j.reading) j.pages in
    c.emit_rest.ensures c.args.sink.now all
    (subst (λ (text : List ℕ). IsEmitting g.S.Sink c.args.sink.now c.emit_places.new.sink all text []) text
    (c.in_ok-emit_places.ensures c.args.sink.now all []
    (listing_begun g.S.Sink c.args.sink.now (kinds_read j.reading) j.pages (text_in c.put_record.new.writer) (placed_left c.new-pages.result)
    (c.in_ok-put_record.ensures.1 ∙ ap (λ (l : List ℕ). l ++ row_text default_writer place_header) empty)
    (placed_again X c.args.judged.now j _ c.new-pages.ensures.left))))
