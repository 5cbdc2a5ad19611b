-- What several proofs of the crate import, passed on to all of them.
pub use Rattle.pocsag_capture.specs.Bits.{as_sent, capture_bits, word_on}
pub use Rattle.pocsag_capture.specs.CapturedPages.{AreCaptured, HasCaptured, without_orphans}
pub use Rattle.pocsag_capture.specs.Extracted.{AreExtracted, count_cut, cuts_from, ends_cut, far_words, lost_synchronisations, near_errors, page_cuts, sum_at_synchronisations, synchronisation_errors}
pub use Rattle.pocsag_capture.specs.ExtractedBytes.{ExtractsAll, ExtractsReception, IsExtract, IsStatsOf, PutsExtract, PutsExtracts}
pub use Rattle.pocsag_capture.specs.Lost.{lost_words, mended_errors, wrong_bits}
pub use Rattle.pocsag_capture.specs.PageEnds.{AreCutsOf, CapturedTransmission, HasTransmissions, IsCapturedTransmission, IsPageEnd, UncutStandWhole, pages_captured}
pub use Rattle.pocsag_capture.specs.PagesLeft.{AreLeft, CanRead, IsReceivedFrom, handed_cuts, most_left, words_from}
pub use Rattle.pocsag_capture.specs.Receptions.{AreFound, AreInFront, AreReceptions, HasBatches, HasFewLost, HasInFront, IsBeside, IsBreak, IsBridged, IsInStep, IsLikeSynchronised, IsOnAir, IsQuiet, IsReadTo, IsReception, IsSyncRun, IsSynchronised, SlipsInFront, all_batches, batches_in_front, behind, count_read_in_front, counted, held_end, in_front_of, last_sync, nothing, own_word, passed, received, received_word, run_end, sent_at}
pub use Rattle.pocsag_capture.specs.Runs.{BeginsRun, Steps}
pub use Rattle.pocsag_capture.specs.Slips.{AreInStep, HasOtherSync, IsBeforeIdle, IsSlip}
pub use Rattle.pocsag_capture.specs.TakenWords.{CountsSync, TakesWord, cut_by, end_by, is_lost}
pub use Rattle.pocsag_capture.specs.declared.corrector.WordCorrector.{WordCorrector}
pub use Rattle.pocsag_capture.specs.declared.polarity.Polarity.{Polarity}
pub use Rattle.pocsag_capture.specs.declared.polarity.Polarity.TheVariants.{Inverted, Upright}
pub use Rattle.pocsag_capture.specs.declared.reception.Reception.{Reception}
pub use Rattle.pocsag_capture.specs.declared.reception.ReceptionStats.{ReceptionStats}
pub use Rattle.pocsag_capture.specs.declared.reception.Run.{Run}
pub use Rattle.pocsag_decode.specs.Faults.{ReadsAs}
pub use Rattle.pocsag_decode.specs.OpenPages.{closed, ends_open, resumed, stays_open, without_orphan}
pub use Rattle.pocsag_decode.specs.PageReaders.{codewords_before}
pub use Rattle.pocsag_decode.specs.declared.open_page.OpenPage.{OpenPage}
pub use Rattle.pocsag_pager.proofs.Mended.{all_mended_same, mended_back, mended_same}
unfoldable pub use Rattle.pocsag_pager.specs.Shown.{is_ours}
pub use Rattle.pocsag_pager.specs.Shown.{AreShown, IsMended, run_of, said, shown_from}
pub use Rattle.pocsag_pages.proofs.Lengths.{synced_count, unsynced_codeword, unsynced_count, unsynced_more, unsynced_sync}
pub use Rattle.pocsag_pages.proofs.Readings.{plain_reads, reads_plainly}
pub use Rattle.pocsag_pages.specs.Bytes.{Sent, after_preamble, body_bytes, sync_word, synced, unsynced, words_of}
pub use Rattle.pocsag_pages.specs.Listable.{IsListable}
pub use Rattle.pocsag_pages.specs.Plain.{HasNoOrphan, items_of, pages_from}
pub use Rattle.pocsag_pages.specs.Reading.{EndsIdle, Reads, frame_at}
pub use Rattle.pocsag_pages.specs.declared.page.Page.{Page}
pub use Rattle.pocsag_text.proofs.BitLists.{AreBits, AreBits-high_first, high_first-join, high_first-split, high_number-high_first, high_number-lt, length-high_first}
pub use Rattle.pocsag_text.proofs.Cuts.{length-flat_map-wide}
unfoldable pub use Rattle.pocsag_text.specs.Bits.{high_first, high_number}
pub use Rattle.pocsag_words.proofs.ErrorLemmas.{HasNoneNear-from_far, numbers_are_repaired_lem}
pub use Rattle.pocsag_words.proofs.Linear.{IsLinear-div, IsLinear-mod, xor_cancel}
pub use Rattle.pocsag_words.specs.Codeword.{HasNoneNear, IsCodeword, IsNear, IsOnlyNear}
unfoldable pub use Rattle.pocsag_words.specs.Columns.{check_of, columns, combine, syndrome_of}
pub use Rattle.pocsag_words.specs.Kinds.{kind_of}
pub use Rattle.pocsag_words.specs.declared.codeword.Kind.{Kind}
pub use Rattle.pocsag_words.specs.declared.codeword.Kind.TheVariants.{Address, Idle, Message}
pub use Rattle.std.proofs.Common.{All, Bool, List, None, Option, Some, [], ap, append_assoc, ap₂, arith, bit_and, bit_xor, cond, count_ones, drop, eq-eqb, false, filter, get_or, if◌then◌else◌, inl, inr, length, lit<, map, nat_eq, nat_lt, not, refl, replicate, rules, slice_get, slice_index, subst, suc, sym, take, true, zero, ℕ, ◌%◌, ◌&&◌, ◌*◌, ◌++◌, ◌+◌, ◌-◌, ◌/◌, ◌<◌, ◌==◌, ◌^◌, ◌∙◌, ◌∷◌, ◌≡◌, ◌≢◌, ◌≤◌, ◌⊎◌}
pub use Rattle.std.proofs.Math.Nat.{min-le_right, pow-suc}
pub use Rattle.std.proofs.Math.Seq.{drop-append-add, drop-cons, get_or-append_seam}
pub use Rattle.std.proofs.lemmas.Bool.{and_parts, cases_eq, cases_lt, le-leb, le-ltb, lt-leb, lt-ltb, ne_eqb}
pub use Rattle.std.proofs.lemmas.Bool.Decides.{nat_tests}
pub use Rattle.std.proofs.lemmas.Grind.{flat_map-append, same_number_lists}
pub use Rattle.std.proofs.lemmas.List.{append-nil, drop-drop, drop_at, drop_more, flat_map_more, length-append, length-map, length-take, length-take-le, map-append, take-append-drop, take_at, take_more}
pub use Rattle.std.proofs.lemmas.List.Elements.{All-append, All-cons, All-drop, All-get_or, All-head, All-nil, All-push, All-tail, All-take, AllZip-get_or}
pub use Rattle.std.proofs.lemmas.List.FromFn.{get_or-map-range_with_len, length-map-range_with_len, map-range_with_len_more}
pub use Rattle.std.proofs.lemmas.Nat.{ones_le_self, xor_comm, xor_lt}
pub use Rattle.std.proofs.lemmas.Slice.Zip.{AllZip-long, all_zipped_more}
pub use Rattle.std.specs.Int.{to_be_bytes, w32}
pub use Rattle.std.specs.List.{AllZip, flat_map, range_with_len}
pub use Rattle.std.specs.Prelude.{IfNone, IfSome, IsTrue, is_some, nat_le, option_to_list}
pub use borrow.Author.Tests.{leb-true}
