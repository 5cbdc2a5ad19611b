-- What several proofs of the crate import, passed on to all of them.
unfoldable pub use Rattle.csv.specs.Writing.{fields_text, is_blank}
pub use Rattle.csv.specs.Writing.{default_writer, row_text}
pub use Rattle.pocsag_capture.specs.Bits.{capture_bits}
pub use Rattle.pocsag_capture.specs.PageEnds.{CapturedTransmission, IsCapturedTransmission, UncutStandWhole, pages_captured}
pub use Rattle.pocsag_capture.specs.declared.reception.Reception.{Reception}
pub use Rattle.pocsag_capture.specs.declared.reception.ReceptionStats.{ReceptionStats}
pub use Rattle.pocsag_decode.proofs.SentBytes.{body_begins, one_reading}
pub use Rattle.pocsag_decode.specs.Faults.{IsFaultless, NamesFailures, ReadsAs}
unfoldable pub use Rattle.pocsag_decode.specs.Listing.{kind_field, listing, message_field}
pub use Rattle.pocsag_decode.specs.Listing.{header, hex_digit, hex_digits, record_of}
pub use Rattle.pocsag_decode.specs.declared.fault.ListFault.{ListFault}
unfoldable pub use Rattle.pocsag_pager.specs.Faults.{address_fault}
pub use Rattle.pocsag_pager.specs.Faults.{hearing_fault}
pub use Rattle.pocsag_pages.specs.Bytes.{Sent, after_preamble, body_bytes, leading, synced, unsynced, words_of}
pub use Rattle.pocsag_pages.specs.Listable.{IsListable}
pub use Rattle.pocsag_pages.specs.declared.page.Page.{Page}
pub use Rattle.pocsag_receiver.specs.CapturedForms.{is_picked, mark_of, marked, picked_rows}
pub use Rattle.pocsag_receiver.specs.Faults.{fault_of_list, fault_of_show, receiver_status}
unfoldable pub use Rattle.pocsag_receiver.specs.Forms.{kind_read, message_read}
pub use Rattle.pocsag_receiver.specs.Forms.{is_text, listed_in, members_of, names_in, record_read, row_in, row_record, unmarked}
pub use Rattle.pocsag_receiver.specs.Rows.{AreRowsBehind, AreRowsFrom, AreRowsLeft, AreRowsOf, CanHandOut, ListsRows, as_streamed, most_behind, most_rows}
pub use Rattle.pocsag_receiver.specs.Views.{ExplainsShowing, HasRows, IsViewed}
pub use Rattle.pocsag_receiver.specs.Works.{decodes, hears, lists, lists_capture, repairs, shows, shows_capture, streamed, views, writing}
pub use Rattle.pocsag_receiver.specs.declared.captured.Begun.{Begun}
pub use Rattle.pocsag_receiver.specs.declared.captured.PageOrigin.{PageOrigin}
pub use Rattle.pocsag_receiver.specs.declared.fault.ReceiverFault.{ReceiverFault}
pub use Rattle.pocsag_receiver.specs.declared.form.ListForm.{ListForm}
pub use Rattle.pocsag_receiver.specs.declared.form.Row.{Row}
pub use Rattle.pocsag_shell.proofs.Readers.{printed_so, streams_as, told_so}
pub use Rattle.pocsag_shell.proofs.Runs.{ran_streamed}
pub use Rattle.pocsag_shell.specs.ErrorStreams.{printed_by}
pub use Rattle.pocsag_shell.specs.Readers.{WasNotRead, over_bytes, over_reader}
pub use Rattle.pocsag_shell.specs.Runs.{IsStreamOf, Ran}
pub use Rattle.pocsag_shell.specs.declared.error_stream.ErrorStream.{ErrorStream}
pub use Rattle.pocsag_show.specs.Shows.{Explains, Shows, ShowsLess, ShowsPart}
pub use Rattle.pocsag_show.specs.Views.{view_text}
pub use Rattle.pocsag_show.specs.declared.view.View.{View}
pub use Rattle.pocsag_words.specs.Devices.{HasFailed, TookPrefix}
pub use Rattle.pocsag_words.specs.Frame.{input_limit}
pub use Rattle.std.proofs.Common.{All, Bool, Err, List, None, Ok, Option, Result, Some, [], ap, append_assoc, ap₂, arith, drop, false, get_or, if◌then◌else◌, inl, inr, length, map, refl, rules, subst, suc, sym, take, true, zero, ℕ, ◌%◌, ◌*◌, ◌++◌, ◌+◌, ◌-◌, ◌/◌, ◌<◌, ◌==◌, ◌^◌, ◌∙◌, ◌∷◌, ◌≡◌, ◌≢◌, ◌≤◌, ◌⊎◌}
pub use Rattle.std.proofs.lemmas.Grind.{flat_map-append}
pub use Rattle.std.proofs.lemmas.List.{append-nil, drop_all, drop_more, take_more_set}
pub use Rattle.std.proofs.lemmas.List.Elements.{All-cons, All-nil, All-tail, All-weaker}
pub use Rattle.std.proofs.lemmas.Result.{IfOk-weaker, err_from_is_err_and}
pub use Rattle.std.specs.List.{flat_map}
pub use Rattle.std.specs.Prelude.{IfNone, IfSome, IsSome, OnErr, OnOk, codes}
pub use Rattle.std.specs.Str.{IsAscii}
