-- What several proofs of the crate import, passed on to all of them.
pub use Rattle.csv.proofs.RoundTrip.{read-write, read-write-many}
unfoldable pub use Rattle.csv.specs.Machine.{next_record}
pub use Rattle.csv.specs.Machine.{Read, line_feed}
unfoldable pub use Rattle.csv.specs.Reading.{strip_bom}
pub use Rattle.csv.specs.Reading.{default_config}
unfoldable pub use Rattle.csv.specs.Records.{field_at}
pub use Rattle.csv.specs.Records.{fields_of}
unfoldable pub use Rattle.csv.specs.Writing.{escaped, fields_text, is_blank}
pub use Rattle.csv.specs.Writing.{default_writer, field_text, needs_quotes, quoted, read_back, row_body, row_text}
pub use Rattle.lru.specs.LruCache.{LruCache, demoted, lru_cache, put_entries}
pub use Rattle.pocsag_decode.proofs.PageRows.{field_short, free_address, record_back}
pub use Rattle.pocsag_decode.proofs.SpellablePages.{one_name, page_at, page_spellable, paged, value_of}
unfoldable pub use Rattle.pocsag_decode.specs.Listing.{kind_field, message_field}
unfoldable pub use Rattle.pocsag_decode.specs.PageFiles.{whole_message}
pub use Rattle.pocsag_journal.specs.Crashes.{IsTorn, RestartsAs}
pub use Rattle.pocsag_journal.specs.Drafts.{IsDraft}
pub use Rattle.pocsag_journal.specs.Edited.{IsAdded, IsCancelled, IsSent, SpellsCount}
pub use Rattle.pocsag_journal.specs.Faults.{ExplainsReplay, HasNoLine, IsPrinted, IsPrintedOf, IsUnspelled}
pub use Rattle.pocsag_journal.specs.Growth.{IsDue, kept_line_limit, small, times_needed}
unfoldable pub use Rattle.pocsag_journal.specs.Journals.{rows_text}
pub use Rattle.pocsag_journal.specs.Journals.{AddsLine, IsAdd, IsBadLine, IsBegun, IsFirstCut, IsLine, IsRead, ListsPages, MakesLine, ReadsFirst, Replays, ReplaysAs, Represents, add_record, journal_limit, journal_text}
pub use Rattle.pocsag_journal.specs.Keepers.{ReadsAsEither}
pub use Rattle.pocsag_journal.specs.LineTexts.{HasNoLineFeed, IsWholeLine, record_text}
pub use Rattle.pocsag_journal.specs.Moments.{Elapses, LeavesOnly}
pub use Rattle.pocsag_journal.specs.Readers.{GivesRow, IsBefore}
unfoldable pub use Rattle.pocsag_journal.specs.Runs.{IsRun, asked_of}
pub use Rattle.pocsag_journal.specs.Runs.{Asked, IsDone, IsEdit, IsReason, IsRefusedFor, add, asked_by_line, cancel, clear, first_record, sent, sent_record, wants_memory}
pub use Rattle.pocsag_journal.specs.Views.{IsHeld, disk_of}
pub use Rattle.pocsag_journal.specs.declared.edits.Line.{Line}
pub use Rattle.pocsag_journal.specs.declared.fault.JournalFault.{JournalFault}
pub use Rattle.pocsag_journal.specs.declared.refusal.Refusal.{Refusal}
pub use Rattle.pocsag_journal.specs.declared.replay.Replayed.{Replayed}
pub use Rattle.pocsag_pages.proofs.FirstPages.{good_last}
pub use Rattle.pocsag_pages.proofs.GrownRounds.{addresses_push, good_none, good_push}
pub use Rattle.pocsag_pages.proofs.QuoteStates.{at_the_end, one_byte, text_of}
unfoldable pub use Rattle.pocsag_pages.specs.PageFile.{address_of, kind_of_field, page_of, page_of_fields, payload_of}
pub use Rattle.pocsag_pages.specs.PageFile.{Row, address_digits, fault_if, of_record, of_text, or_fault, ◌>>=◌}
unfoldable pub use Rattle.pocsag_pages.specs.Pages.{is_reserved}
pub use Rattle.pocsag_pages.specs.Pages.{AreGood, addresses_of, has_address, page_fault_of, page_limit}
unfoldable pub use Rattle.pocsag_pages.specs.QuoteStates.{quote_state_from}
pub use Rattle.pocsag_pages.specs.QuoteStates.{MayEnd}
pub use Rattle.pocsag_pages.specs.declared.fault.FieldFault.{FieldFault}
pub use Rattle.pocsag_pages.specs.declared.page.Page.{Page}
pub use Rattle.pocsag_plan.proofs.Edits.{not_found, rest_is, there_is, values_push, was_there}
pub use Rattle.pocsag_plan.proofs.Entries.{AreKeyed, nothing_out, takes_out, without_is}
pub use Rattle.pocsag_plan.proofs.Refusals.{MayFollow, duplicate_fault, full_fault, may_follow, no_fault}
unfoldable pub use Rattle.pocsag_plan.specs.OpenRound.{add_fault}
pub use Rattle.pocsag_plan.specs.OpenRound.{fault_beside, fault_or_memory, without}
pub use Rattle.pocsag_shell.proofs.StagedFiles.{IsNumberIn, first_some, none_read, none_read_of, parsed}
unfoldable pub use Rattle.pocsag_text.specs.Text.{alpha_payload, numeric_payload, text_fault, trim_end}
pub use Rattle.pocsag_text.specs.Text.{is_bad_byte, trimmed_onto, unless}
pub use Rattle.pocsag_text.specs.declared.fault.TextFault.{TextFault}
pub use Rattle.std.proofs.Common.{All, Bool, List, [], add-one, ap, append_assoc, arith, cond, drop, false, get_or, inl, inr, length, nat_eq, not, refl, replicate, rules, slice_index_or, subst, suc, sym, take, take-append-drop, true, true≢false, zero, ℕ, ⊎_elim, ◌*◌, ◌++◌, ◌+◌, ◌-◌, ◌<◌, ◌==◌, ◌^◌, ◌↔◌, ◌∙◌, ◌∷◌, ◌≡◌, ◌≢◌, ◌≤◌, ◌⊎◌}
pub use Rattle.std.proofs.lemmas.Bool.{cases_Bool, eqb-true, false_from_ne_true, or_parts, or_right}
pub use Rattle.std.proofs.lemmas.Bool.Decides.{Decides-eqb, nat_tests}
pub use Rattle.std.proofs.lemmas.Fmt.{IsAscii-decimal, decimal_by_steps, decimal_injective, length-decimal-le}
pub use Rattle.std.proofs.lemmas.List.{append-nil, append_cancel_right, drop-drop, drop-map, drop_all, drop_more, length-append, length-drop, length-take-le, map-append, take_all, take_more}
pub use Rattle.std.proofs.lemmas.List.Elements.{All-drop, All-filter, All-head, All-nil, All-push, All-tail}
pub use Rattle.std.proofs.lemmas.Option.{same_Some}
pub use Rattle.std.proofs.lemmas.Slice.Eq.{bytes_eq-Decides, starts_is, strip_prefix_is}
pub use Rattle.std.specs.Fmt.{decimal}
pub use Rattle.std.specs.List.{AllByRecursion, list_any}
pub use Rattle.std.specs.Map.{keys_of, lookup, lookup_entry, remove_entry, values_of}
pub use Rattle.std.specs.Prelude.{Contains, Err, IfErr, IfOk, IsSome, MatchResult, None, Ok, Option, Result, Some, codes, filter, is_some, min, nat_lt, option_map, slice_get, slice_index, ◌||◌}
pub use Rattle.std.specs.Str.{IsUtf8, bytes_eq}
