-- What several proofs of the crate import, passed on to all of them.
pub use Rattle.csv.specs.Machine.{line_feed}
pub use Rattle.csv.specs.Records.{fields_of}
pub use Rattle.pocsag_journal.proofs.FieldLines.{feedless_front, read_line, row_line}
pub use Rattle.pocsag_journal.proofs.LineLengths.{line_length}
pub use Rattle.pocsag_journal.proofs.Moments.{named, started, then_on}
pub use Rattle.pocsag_journal.specs.Journals.{IsLine, journal_limit}
pub use Rattle.pocsag_journal.specs.Keepers.{ExplainsKeeping, ReadsAsEither}
pub use Rattle.pocsag_journal.specs.LineTexts.{HasNoLineFeed, IsWholeLine, is_return, record_text, without_return}
pub use Rattle.pocsag_journal.specs.Moments.{LeavesOnly}
unfoldable pub use Rattle.pocsag_journal.specs.Runs.{asked_of}
pub use Rattle.pocsag_journal.specs.Runs.{Asked, IsDone, IsEdit, first_record, sent_record}
pub use Rattle.pocsag_journal.specs.Views.{IsHeld, disk_of}
pub use Rattle.pocsag_journal.specs.declared.refusal.UndoneFault.{UndoneFault}
pub use Rattle.pocsag_open.specs.Ahead.{ahead_of}
unfoldable pub use Rattle.pocsag_open.specs.Answers.{pages_answer, plan_answer}
pub use Rattle.pocsag_open.specs.Answers.{refusal_answer}
pub use Rattle.pocsag_open.specs.Ends.{AreCountless, ExplainsEnd, HasGivenUp}
unfoldable pub use Rattle.pocsag_open.specs.KeptRounds.{read_text, torn_end, torn_text}
pub use Rattle.pocsag_open.specs.KeptRounds.{ExplainsKept, HasFileFailed, HasPrintedRead, IsBeginning, ReadsBeginning, ReadsKept, for_count, not_begun}
unfoldable pub use Rattle.pocsag_open.specs.Lines.{AreLines}
pub use Rattle.pocsag_open.specs.Lines.{IsByteKept, IsFirstLine, IsLineFound, IsSeen, line_limit}
pub use Rattle.pocsag_open.specs.Plans.{ArePlacesOfRefused, ExplainsPlanUndone, HasFailedOutput, IsAskedPlanned, IsFrontPlanned, IsUnplaced, PlacementResult, PlanBytes, failed_plan, placed_plan, plan_search, undone_of}
unfoldable pub use Rattle.pocsag_open.specs.Replies.{AreReplies}
pub use Rattle.pocsag_open.specs.Replies.{AsksForPlan, IsEditReply, IsLineReply, IsPlanRefused, IsRefusalDue, IsReply, IsSession, PrintsAndPlaces, TookMore, edited, listed, noted, planned, read, refused, sent_first, too_long, unread}
unfoldable pub use Rattle.pocsag_open.specs.Survival.{AreFirstLines}
pub use Rattle.pocsag_open.specs.Survival.{IsCutBehind, IsCutShort, ReadsAfterLines, ReadsOrReplied, RepliesAndPlaces, RepliesTo, Survives, begun, between, untold, within}
pub use Rattle.pocsag_pages.specs.PageFile.{Row}
pub use Rattle.pocsag_pages.specs.declared.page.Page.{Page}
pub use Rattle.pocsag_plan.specs.declared.search.OnLimit.{OnLimit}
pub use Rattle.pocsag_shell.specs.declared.fault.FileFault.{FileFault}
pub use Rattle.pocsag_words.specs.Devices.{CountsFailures, Delivers, HasFailed, TookPrefix}
pub use Rattle.pocsag_words.specs.declared.ending.End.{End}
pub use Rattle.std.proofs.Common.{Bor, List, [], ap, append-nil, append_assoc, arith, drop, false, inl, inr, length, length-append, refl, rules, subst, sym, take, take-append-drop, ℕ, ⊎_elim, ◌++◌, ◌+◌, ◌-◌, ◌<◌, ◌^◌, ◌∙◌, ◌∷◌, ◌≡◌, ◌≢◌, ◌≤◌, ◌⊎◌}
pub use Rattle.std.proofs.lemmas.List.{length_push}
pub use Rattle.std.specs.Prelude.{Err, IfErr, None, Ok, OnErr, OnOk, Option, Result, Some, codes, option_map, slice_get, ◌==◌}
