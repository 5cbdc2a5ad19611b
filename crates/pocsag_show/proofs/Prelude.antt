-- What several proofs of the crate import, passed on to all of them.
unfoldable pub use Rattle.csv.specs.Writing.{fields_text, is_blank}
pub use Rattle.csv.specs.Writing.{default_writer, row_text}
pub use Rattle.pocsag_decode.proofs.Prefixes.{some_left, took_on, took_so_far}
pub use Rattle.pocsag_decode.proofs.SentBytes.{codewords_are}
pub use Rattle.pocsag_decode.specs.Faults.{NamesFailures, ReadsAs}
pub use Rattle.pocsag_decode.specs.Lines.{IsReady, text_in}
pub use Rattle.pocsag_decode.specs.PageReaders.{kinds_left, pages_left}
pub use Rattle.pocsag_pages.proofs.Readings.{reads_plainly}
pub use Rattle.pocsag_pages.specs.Bytes.{after_preamble, codewords_in, unsynced, words_of}
pub use Rattle.pocsag_pages.specs.Listable.{IsListable}
pub use Rattle.pocsag_pages.specs.Pages.{addresses_of}
pub use Rattle.pocsag_pages.specs.Plain.{HasNoOrphan, pages_from}
pub use Rattle.pocsag_pages.specs.declared.page.Page.{Page}
unfoldable pub use Rattle.pocsag_show.specs.Drawing.{axes, axis_number, behind_pages, description, drawing, drawing_text, frame_line, frame_lines, headed, heading, opening, page_drawn, piece, row_drawn, seen_before, text_before, title}
pub use Rattle.pocsag_show.specs.Emission.{EmitsAll, HasEmitted, IsEmitting, StoppedEmitting}
unfoldable pub use Rattle.pocsag_show.specs.Grid.{letter_at}
pub use Rattle.pocsag_show.specs.Grid.{idles_in, is_address, letter_after, pages_in, starts_from}
pub use Rattle.pocsag_show.specs.Judged.{IsJudged, kinds_read}
pub use Rattle.pocsag_show.specs.Kinds.{addresses_ahead, kinds_ahead, starts_ahead}
unfoldable pub use Rattle.pocsag_show.specs.Legend.{entry, entry_of, key, left_out, legend}
pub use Rattle.pocsag_show.specs.Legend.{HasLegendOf, drawn_in, is_drawn, legend_lines, place_in, stands_before}
pub use Rattle.pocsag_show.specs.Letters.{letters_with}
pub use Rattle.pocsag_show.specs.Numbers.{capital, numbers_in, pages_below, small}
pub use Rattle.pocsag_show.specs.PageNumbers.{NumbersPages, number_below, pages_begun, smaller_in}
unfoldable pub use Rattle.pocsag_show.specs.Picture.{airtimes_part, batch_line, batch_lines, counts_part, frame_cells, grid_text, number_column, totals_line}
pub use Rattle.pocsag_show.specs.Picture.{batches_in, head_line}
pub use Rattle.pocsag_show.specs.Placed.{placed, placed_in}
pub use Rattle.pocsag_show.specs.PlacedReaders.{placed_from, placed_left}
unfoldable pub use Rattle.pocsag_show.specs.Places.{place_listing}
pub use Rattle.pocsag_show.specs.Places.{place_header, place_record, place_rows}
pub use Rattle.pocsag_show.specs.Rows.{end_row, first_row, rows_between}
pub use Rattle.pocsag_show.specs.Shows.{Explains, IsTextOf, Shows, ShowsLess, ShowsPart, of_list}
pub use Rattle.pocsag_show.specs.Views.{view_text}
pub use Rattle.pocsag_show.specs.declared.judged.Judged.{Judged}
pub use Rattle.pocsag_show.specs.declared.page_numbers.PageNumbers.{PageNumbers}
pub use Rattle.pocsag_show.specs.declared.placed.Placed.{Placed}
pub use Rattle.pocsag_show.specs.declared.view.View.{View}
pub use Rattle.pocsag_show.specs.declared.view.View.TheVariants.{Drawing, Grid, Places}
pub use Rattle.pocsag_words.specs.Kinds.{kind_of}
pub use Rattle.pocsag_words.specs.declared.codeword.Kind.{Kind}
pub use Rattle.std.proofs.Common.{All, Bool, Err, IsTrue, List, Ok, Result, [], ap, append_assoc, ap₂, arith, drop, false, get_or, get_or-set_other, inl, inr, length, length-append, map, max, refl, replicate, rules, set, slice_index, subst, suc, sym, take, true, zero, ℕ, ◌%◌, ◌&&◌, ◌*◌, ◌++◌, ◌+◌, ◌-◌, ◌/◌, ◌<◌, ◌==◌, ◌^◌, ◌∙◌, ◌∷◌, ◌≡◌, ◌≢◌, ◌≤◌}
pub use Rattle.std.proofs.lemmas.Bool.{cases_eq, cases_lt, eq-eqb, le-ltb, lt-leb, lt-ltb, ne_eqb}
pub use Rattle.std.proofs.lemmas.List.{append-nil, drop_all, drop_more, get_or-drop, get_or_default, length-map, length-replicate, length-set, take_more}
pub use Rattle.std.proofs.lemmas.List.Concat.{flat_map-append}
pub use Rattle.std.proofs.lemmas.List.Elements.{All-append, All-cons, All-head, All-nil, All-tail}
pub use Rattle.std.proofs.lemmas.List.Sorted.{IsNonDecreasingBy-from_sort, IsPartitionPoint-from_clause, IsPartitionedBy-ltb, sum_by-IsPermutation}
pub use Rattle.std.proofs.lemmas.List.Sums.{count_by-le-length, sum_by-append, sum_by-cons}
pub use Rattle.std.proofs.lemmas.Result.{err_from_is_err_and}
pub use Rattle.std.specs.Int.{from_be_bytes, w32}
pub use Rattle.std.specs.List.{count_by, flat_map, range_with_len}
pub use Rattle.std.specs.List.Sorted.{IsNonDecreasing, IsPartitionPoint, IsPermutation}
pub use Rattle.std.specs.Prelude.{IfErr, OnOk, codes, cond, nat_le, nat_lt}
