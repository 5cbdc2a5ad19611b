use Rattle.pocsag_decode.proofs.Prelude.{◌≡◌, take, ◌++◌, flat_map, row_text, default_writer, IsReady, text_in, header, record_in}
use Rattle.pocsag_decode.proofs.listing.pages_text.Given as goal

abbrev pub invariant-loop-page : goal.invariant-loop-page
invariant-loop-page l =
    IsReady l.writer ×
    (text_in l.writer ≡ row_text default_writer header ++ flat_map (λ p. row_text default_writer (record_in l.for_file p)) (take l.page-index l.pages))
