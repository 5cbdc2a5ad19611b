-- What several proofs of the crate import, passed on to all of them.
pub use Rattle.pocsag_batch.proofs.FileOrders.{legal_in_order, one_file_order, some_file_order}
pub use Rattle.pocsag_batch.proofs.OrderLaws.{one_order, order_lays}
pub use Rattle.pocsag_batch.proofs.Orders.{Stands, order_has_places, order_stands, stands_first, stands_run}
pub use Rattle.pocsag_capture.proofs.Extracts.{word_cut, word_there}
pub use Rattle.pocsag_capture.proofs.Once.{WordsFit, capture_fits, captured_shown, one_thing, same_polarity}
pub use Rattle.pocsag_capture.proofs.PageEnds.{as_many, cuts_are_counted, plain_pages, transmissions_are_captured_lem, uncut_pages_stand}
pub use Rattle.pocsag_capture.proofs.SentBits.{IsOn, batch_there, batches_long, few_lost, held_of, least_batches, least_words, mended_captured, no_words_behind, only_near, own_place, own_run, placed_words, reading_captured, received_are, shift_back, shift_word, shows_what_was_sent, stands_between, words_long}
pub use Rattle.pocsag_capture.specs.Bits.{as_sent, capture_bits, word_on}
pub use Rattle.pocsag_capture.specs.CapturedPages.{AreCaptured, HasCaptured, without_orphans}
pub use Rattle.pocsag_capture.specs.Receptions.{AreFound, AreReceptions, HasFewLost, HasInFront, IsBeside, IsBridged, IsOnAir, IsQuiet, IsReception, IsSyncRun, IsSynchronised, SlipsInFront, all_batches, batches_in_front, counted, held_end, in_front_of, last_sync, nothing, passed, received, received_word, sent_at}
pub use Rattle.pocsag_capture.specs.Sent.{HoldsSent, IsReceived, NothingFollows}
pub use Rattle.pocsag_capture.specs.declared.polarity.Polarity.{Polarity}
pub use Rattle.pocsag_capture.specs.declared.polarity.Polarity.TheVariants.{Inverted, Upright}
pub use Rattle.pocsag_capture.specs.declared.reception.Reception.{Reception}
pub use Rattle.pocsag_capture.specs.declared.reception.Run.{Run}
pub use Rattle.pocsag_check.proofs.Bounds.{bounded, none_fits}
pub use Rattle.pocsag_check.specs.Acceptance.{Accepts, AcceptsEach}
pub use Rattle.pocsag_decode.proofs.Judgements.{no_fault_whole, whole_no_fault}
pub use Rattle.pocsag_decode.proofs.OneFault.{one_fault, there_stays}
pub use Rattle.pocsag_decode.proofs.PageRows.{read_back}
pub use Rattle.pocsag_decode.proofs.SpellablePages.{of_files, one_name, page_at, page_spellable, paged, pages_spellable, value_of}
pub use Rattle.pocsag_findings.proofs.Prelude.{BoundTree, BoundTrees, Classes, Limits, Stated, Way, children_count, close, cond, cut, more, nat_lt, none, overload, slice_index, split, unexamined}
pub use Rattle.pocsag_findings.specs.Findings.{findings_below, findings_by, findings_with, findings_within, unjudged_below}
pub use Rattle.pocsag_findings.specs.Rules.{asks_for_last, fact_holds, fact_of, least_of_set, room_of}
pub use Rattle.pocsag_findings.specs.declared.finding.Reached.{Reached}
pub use Rattle.pocsag_findings.specs.declared.finding.Reached.TheVariants.{Below, By, From, Root}
pub use Rattle.pocsag_journal.proofs.EditRuns.{edit_once, run_once, runs_join}
pub use Rattle.pocsag_journal.proofs.FieldLines.{read_line, row_spelled}
pub use Rattle.pocsag_journal.proofs.LineLengths.{line_length}
pub use Rattle.pocsag_journal.proofs.LinedPages.{edit_lined, journal_lined, not_unlined, run_lined}
unfoldable pub use Rattle.pocsag_journal.specs.Journals.{rows_text}
pub use Rattle.pocsag_journal.specs.Journals.{IsLine, journal_text}
pub use Rattle.pocsag_journal.specs.LineTexts.{HasNoLineFeed, IsUnread, IsWholeLine, is_return, record_text, without_return}
unfoldable pub use Rattle.pocsag_journal.specs.Runs.{IsRun, asked_of}
pub use Rattle.pocsag_journal.specs.Runs.{Asked, IsDone, IsEdit, add, cancel, clear, first_record, sent_record, wants_memory}
pub use Rattle.pocsag_journal.specs.declared.refusal.Refusal.{Refusal}
pub use Rattle.pocsag_journal.specs.declared.refusal.UndoneFault.{UndoneFault}
pub use Rattle.pocsag_laws.specs.FewestBatches.{AreFewest, AreSendable}
unfoldable pub use Rattle.pocsag_open.specs.Lines.{AreLines}
pub use Rattle.pocsag_open.specs.Lines.{IsFirstLine}
pub use Rattle.pocsag_open.specs.Plans.{HasFailedOutput, PlacementResult}
unfoldable pub use Rattle.pocsag_open.specs.Replies.{AreReplies}
pub use Rattle.pocsag_open.specs.Replies.{IsLineReply, IsRefusalPrinted, IsReply, IsSession, edited, listed, noted, planned, read, refused, sent_first, too_long, unread}
pub use Rattle.pocsag_pager.specs.Shown.{IsMended, said}
pub use Rattle.pocsag_pages.proofs.Lengths.{unsynced_count}
pub use Rattle.pocsag_pages.proofs.Readings.{reads_at, reads_plainly}
pub use Rattle.pocsag_pages.specs.Bytes.{codewords_in, sync_word, synced, unsynced}
unfoldable pub use Rattle.pocsag_pages.specs.PageFile.{address_of, decimal, kind_of_field, page_of, page_of_fields, pages_of, pages_of_rows, payload_of}
pub use Rattle.pocsag_pages.specs.PageFile.{Row, at_most, fault_after, fault_if, of_record, of_text, or_fault, verdict, with_page, ◌>>=◌}
unfoldable pub use Rattle.pocsag_pages.specs.Pages.{is_bad_payload, is_reserved}
pub use Rattle.pocsag_pages.specs.Pages.{AreGood, IsRound, has_address, last_address, page_fault_of, page_limit}
pub use Rattle.pocsag_pages.specs.Plain.{pages_from}
pub use Rattle.pocsag_pages.specs.Reading.{AreApart, BeginsNoMessage, EndsAs, EndsIdle, EndsWhole, IsLegalFor, IsLegalList, Reads, at_end, frame_at, page_length, past_idle, past_page}
pub use Rattle.pocsag_pages.specs.RecordTexts.{EndsInQuotes, HasNoRecord, HasStrayByte, HasStrayQuote, IsAtQuote, IsLostAt, IsRowText}
pub use Rattle.pocsag_pages.specs.declared.page.Page.{Page}
pub use Rattle.pocsag_plan.specs.declared.search.OnLimit.{OnLimit}
pub use Rattle.pocsag_slots.proofs.Fewest.{early_choice, fewest, laid_list_legal, loads_carried}
pub use Rattle.pocsag_slots.proofs.LeastLemmas.{least_is, overload_is}
pub use Rattle.pocsag_slots.proofs.LimitLemmas.{all_ordered}
pub use Rattle.pocsag_slots.proofs.Members.{set_taking}
pub use Rattle.pocsag_slots.proofs.ToursOfLists.{toured}
pub use Rattle.pocsag_slots.specs.Loads.{AreInOrder, Overloads, limits_of_all}
unfoldable pub use Rattle.pocsag_slots.specs.Sums.{holds}
pub use Rattle.pocsag_slots.specs.Sums.{IsSet}
pub use Rattle.pocsag_slots.specs.Tours.{AsksForLast}
unfoldable pub use Rattle.pocsag_slots.specs.Ways.{class_certain, ways_across, ways_to_close}
pub use Rattle.pocsag_slots.specs.Ways.{MayTake, limits_below, limits_from, narrowed_limits}
pub use Rattle.pocsag_text.proofs.BitLists.{AreBits, AreBits-low_first, high_number-lt}
unfoldable pub use Rattle.pocsag_text.specs.Bits.{high_first, high_number, low_first}
pub use Rattle.pocsag_text.specs.Bits.{AreItems}
pub use Rattle.pocsag_tree.proofs.Results.{no_fault, nothing_more, same_fault, texts_same}
pub use Rattle.pocsag_words.proofs.ErrorLemmas.{HasNoneNear-from_far, codewords_differ_lem}
pub use Rattle.pocsag_words.proofs.KindLemmas.{IsCodeword-idle, address_has_codeword, message_has_codeword, same_from_kind_lem}
pub use Rattle.pocsag_words.specs.Codeword.{HasNoneNear, IsCodeword, IsNear}
unfoldable pub use Rattle.pocsag_words.specs.Columns.{check_of, columns, combine, syndrome_of}
pub use Rattle.pocsag_words.specs.Kinds.{idle_word, kind_of}
pub use Rattle.pocsag_words.specs.declared.codeword.Kind.{Kind}
pub use Rattle.pocsag_words.specs.declared.codeword.Kind.TheVariants.{Address, Idle, Message}
pub use Rattle.pocsag_words.specs.declared.ending.End.{End}
pub use Rattle.std.proofs.Common.{All, Bool, List, [], ap, append_assoc, ap₂, arith, bit_xor, count_ones, drop, eq-eqb, false, get_or, inl, inr, leb, length, length-append, lit<, ltb, map, max, min, nat_le, refl, remove, replicate, subst, suc, sym, take, true, zero, ℕ, ◌%◌, ◌&&◌, ◌*◌, ◌++◌, ◌+◌, ◌-◌, ◌/◌, ◌<◌, ◌==◌, ◌^◌, ◌∙◌, ◌∷◌, ◌≡◌, ◌≢◌, ◌≤◌, ◌⊎◌}
pub use Rattle.std.proofs.Math.Nat.{div-zero, min-eq_right, mod-zero, mul-le-mul_right, pow-suc}
pub use Rattle.std.proofs.Math.Seq.{append_snoc, drop-append-add, drop-append_seam, get_or-append_seam, take-append_seam}
pub use Rattle.std.proofs.lemmas.Bool.{and_parts, cases_Bool, cases_eq, cases_lt, eqb-true, false_from_ne_true, leb-true, lt-leb, ltb-true, ne_eqb}
pub use Rattle.std.proofs.lemmas.Bool.Decides.{nat_tests}
pub use Rattle.std.proofs.lemmas.Grind.{div_ceil_times}
pub use Rattle.std.proofs.lemmas.List.{append-nil, drop-append-le, drop-drop, drop-map, get_or-append-add, get_or_append_left, length-drop, length-map, length-replicate, length-take-le, map-append, take-append-drop, take-append-le, take-map, take-take}
pub use Rattle.std.proofs.lemmas.List.Elements.{All-append, All-cons, All-contains, All-contains_itself, All-drop, All-head, All-nil, All-replicate, All-tail, All-take, All-weaker, Contains-append_cases, Contains-append_left, Contains-append_right, recursion_from_All}
pub use Rattle.std.proofs.lemmas.List.Folds.{list_all-append, list_any_none}
pub use Rattle.std.proofs.lemmas.List.FromFn.{length-map-range_with_len}
pub use Rattle.std.specs.List.{AllByRecursion, AllZip, flat_map, list_all, range_with_len}
pub use Rattle.std.specs.Prelude.{Contains, Err, IfOk, IsPermutation, None, Ok, Option, Result, Some, codes, filter, if◌then◌else◌, slice_get, slice_index_or}
