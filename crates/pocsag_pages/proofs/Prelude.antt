-- What several proofs of the crate import, passed on to all of them.
unfoldable pub use Rattle.csv.specs.Machine.{next_record}
pub use Rattle.csv.specs.Machine.{Read, ends_at_end, field_after, fields_after, in_field, is_end, step}
unfoldable pub use Rattle.csv.specs.Reading.{records_from, strip_bom}
pub use Rattle.csv.specs.Reading.{NextIs, ReadsNext, default_config, is_bom, pending_of, records, records_next, source_of}
unfoldable pub use Rattle.csv.specs.Records.{field_at}
pub use Rattle.csv.specs.Records.{fields_of}
unfoldable pub use Rattle.csv.specs.Writing.{escaped}
pub use Rattle.csv.specs.Writing.{default_writer, needs_byte, needs_quotes, quoted}
pub use Rattle.csv.specs.declared.parser.Action.{Action}
pub use Rattle.csv.specs.declared.parser.State.{State}
unfoldable pub use Rattle.pocsag_pages.specs.AddressMarks.{is_marked}
pub use Rattle.pocsag_pages.specs.Bytes.{leading, sync_word, synced, unsynced, words_of}
unfoldable pub use Rattle.pocsag_pages.specs.HeaderFronts.{line_ends_first}
pub use Rattle.pocsag_pages.specs.HeaderFronts.{header_front, starts_with_header}
unfoldable pub use Rattle.pocsag_pages.specs.PageFile.{decimal, fault_of_row, first_fault, held_pages, is_header, kind_of_field, page_of, pages_of, pages_of_all_rows, pages_of_rows}
pub use Rattle.pocsag_pages.specs.PageFile.{IsTone, Row, fault_after, function_of, in_the_way, numbered, only_row, pages_unless, round_fault_of, rows_of, verdict, with_page}
unfoldable pub use Rattle.pocsag_pages.specs.PageList.{fault_of_next, first_page_fault}
pub use Rattle.pocsag_pages.specs.PageList.{or_else, unless_empty}
unfoldable pub use Rattle.pocsag_pages.specs.Pages.{is_bad_payload, is_reserved}
pub use Rattle.pocsag_pages.specs.Pages.{AreGood, IsGoodPage, IsRound, addresses_of, has_address, last_address, page_fault_of, page_limit}
unfoldable pub use Rattle.pocsag_pages.specs.Queues.{firsts_after, left_after}
pub use Rattle.pocsag_pages.specs.Queues.{firsts, is_sent, left_of, pages_for, queue_verdict}
pub use Rattle.pocsag_pages.specs.QuotePlaces.{HasSeen, IsRecordFront, is_empty}
pub use Rattle.pocsag_pages.specs.QuotePlaces.IsRecordFront.{at_start, closed, opened, unquoted}
unfoldable pub use Rattle.pocsag_pages.specs.QuoteStates.{quote_state_from}
pub use Rattle.pocsag_pages.specs.QuoteStates.{MayEnd, MayGoOn, bare_after, quote_state_after, unquoted_after}
unfoldable pub use Rattle.pocsag_pages.specs.Quotes.{line_behind}
pub use Rattle.pocsag_pages.specs.Quotes.{AreRecords, HasQuoteFault, IsFieldStart, IsLostIn, IsOpenFrom, IsWellQuoted, ends_line}
pub use Rattle.pocsag_pages.specs.Quotes.AreRecords.{blank, more, none}
pub use Rattle.pocsag_pages.specs.Reading.{AreApart, BeginsNoMessage, Reads, at_end, past_idle, past_page}
pub use Rattle.pocsag_pages.specs.RecordTexts.{EndsInQuotes, HasNoRecord, HasStrayByte, HasStrayQuote, IsAtQuote, IsFieldText, IsLostAt, IsRowText}
pub use Rattle.pocsag_pages.specs.RecordTexts.IsFieldText.{bare, between_quotes}
pub use Rattle.pocsag_pages.specs.RecordTexts.IsRowText.{before, last}
pub use Rattle.pocsag_pages.specs.RoundBuilders.{IsMarkedRound, IsRoundBuilder}
unfoldable pub use Rattle.pocsag_pages.specs.Rows.{rows_known}
pub use Rattle.pocsag_pages.specs.Rows.{IsAtRecord, bytes_left, rows_ahead, rows_left}
unfoldable pub use Rattle.pocsag_pages.specs.WideRecords.{has_wide, up_to_wide}
pub use Rattle.pocsag_pages.specs.declared.fault.RecordFault.{RecordFault}
pub use Rattle.pocsag_pages.specs.declared.fault.RoundFault.{RoundFault}
pub use Rattle.pocsag_pages.specs.declared.fault.WholeFault.{WholeFault}
pub use Rattle.pocsag_pages.specs.declared.page.Page.{Page}
pub use Rattle.pocsag_pages.specs.declared.quote_place.QuotePlace.{QuotePlace}
pub use Rattle.pocsag_pages.specs.declared.quote_state.QuoteState.{QuoteState}
pub use Rattle.pocsag_pages.specs.declared.record.PageKind.{PageKind}
unfoldable pub use Rattle.pocsag_text.specs.Text.{alpha_payload, numeric_payload}
pub use Rattle.pocsag_text.specs.Text.{item_limit}
pub use Rattle.pocsag_words.proofs.TruthValues.{and_false, is_above, not_above, or_false}
pub use Rattle.pocsag_words.specs.Frame.{input_limit}
pub use Rattle.std.proofs.Common.{All, Bool, List, [], add-one, add-zero, ap, append_assoc, ap₂, arith, bit_and, bit_or, cond, drop, false, get_or, inl, inr, length, lit<, map, min, nat_eq, nat_le, not, refl, rules, set, subst, suc, sym, take, true, zero, ℕ, ◌%◌, ◌&&◌, ◌*◌, ◌++◌, ◌+◌, ◌-◌, ◌/◌, ◌<◌, ◌==◌, ◌^◌, ◌||◌, ◌∙◌, ◌∷◌, ◌≡◌, ◌≢◌, ◌≤◌, ◌⊎◌}
pub use Rattle.std.proofs.lemmas.Bool.{and_parts, cases_Bool, cases_eq, cases_lt, eq-eqb, eqb-true, false_from_ne_true, false≢true, le-ltb, lt-leb, lt-ltb, ltb-true, ne_eqb, not-false, not-true, or_cases, or_from, or_parts}
pub use Rattle.std.proofs.lemmas.Bool.Decides.{nat_tests}
pub use Rattle.std.proofs.lemmas.List.{append-nil, drop-map, drop_all, drop_more, get_or-drop, get_or-set_other, get_or-set_same, get_or-take, get_or_default, get_or_past, length-append, length-drop, length-map, length-take, length-take-le, map-append, nil_from_length, take-append-drop, take-append-le, take-map, take_all, take_min, take_more}
pub use Rattle.std.proofs.lemmas.List.Elements.{All-cons, All-drop, All-head, All-nil, All-push, All-tail, All-take}
pub use Rattle.std.proofs.lemmas.List.Folds.{list_any-append}
pub use Rattle.std.proofs.lemmas.Map.Keys.{IsDistinct-from_apart, IsDistinct-push, apart_from_distinct}
pub use Rattle.std.proofs.lemmas.Result.{err_from_is_err_and}
pub use Rattle.std.proofs.lemmas.Slice.Eq.{bytes_eq-Decides, text_from_reads}
pub use Rattle.std.specs.BTreeSet.{BTreeSet, Updates, contains}
pub use Rattle.std.specs.Char.{is_ascii_digit}
pub use Rattle.std.specs.Int.{bit_at, from_be_bytes, to_be_bytes, w32, w64}
pub use Rattle.std.specs.List.{IsDistinct, flat_map, list_any, starts_with}
pub use Rattle.std.specs.Ordering.{nat_cmp}
pub use Rattle.std.specs.Prelude.{Err, IfErr, IfOk, IsSome, None, Ok, Option, Result, Some, codes, if◌then◌else◌, is_some, nat_lt, option_map, slice_index}
pub use Rattle.std.specs.Vec.Iter.{into_iter_items, into_iter_len}
