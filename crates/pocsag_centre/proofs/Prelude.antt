-- What several proofs of the crate import, passed on to all of them.
pub use Rattle.pocsag_centre.specs.Checks.{IsExpected}
pub use Rattle.pocsag_centre.specs.Faults.{fault_of_explanation, fault_of_front, fault_of_plan, fault_of_stream}
pub use Rattle.pocsag_centre.specs.FrontFiles.{IsFrontOfPages, IsFrontRead, IsPageFileOf, aside_file, certificate_text, front_text, sent_of, sent_pages}
pub use Rattle.pocsag_centre.specs.FrontWorks.ExplainsFrontFiles.{cert_failed, others_failed, tx_failed, unwritten}
pub use Rattle.pocsag_centre.specs.Judgements.{ExplainsJudging, IsVerdictLine, PrintsVerdict, verdict_status}
unfoldable pub use Rattle.pocsag_centre.specs.Lines.{below_text, bound_text, plan_text}
pub use Rattle.pocsag_centre.specs.Lines.{verdict_text}
pub use Rattle.pocsag_centre.specs.Oversized.{aside_of, fits_alone, is_aside, is_parted, planned_of}
unfoldable pub use Rattle.pocsag_centre.specs.Reports.{frame_text}
pub use Rattle.pocsag_centre.specs.Works.{ExplainsPlanFiles, MayBeToldOfCut, judges, streaming}
pub use Rattle.pocsag_centre.specs.declared.fault.CentreFault.{CentreFault}
pub use Rattle.pocsag_centre.specs.declared.front.FrontAsked.{FrontAsked}
pub use Rattle.pocsag_centre.specs.declared.plan.PlanFiles.{PlanFiles}
pub use Rattle.pocsag_decode.specs.Faults.{ReadsAs}
unfoldable pub use Rattle.pocsag_decode.specs.PageFiles.{page_file}
pub use Rattle.pocsag_decode.specs.PageFiles.{IsSpellable}
pub use Rattle.pocsag_pages.proofs.GoodPages.{apart_pages, good_page}
pub use Rattle.pocsag_pages.specs.Listable.{IsListable}
unfoldable pub use Rattle.pocsag_pages.specs.PageFile.{held_pages}
pub use Rattle.pocsag_pages.specs.PageFile.{verdict}
pub use Rattle.pocsag_pages.specs.PageList.{unless_empty}
pub use Rattle.pocsag_pages.specs.Pages.{AreGood, addresses_of, has_address, page_fault_of, page_limit}
unfoldable pub use Rattle.pocsag_pages.specs.Queues.{firsts_after, left_after}
pub use Rattle.pocsag_pages.specs.Queues.{IsQueue, firsts, is_sent, left_of, queue_verdict}
pub use Rattle.pocsag_pages.specs.Reading.{AreApart, BeginsNoMessage, EndsAs, EndsIdle, EndsWhole, IsBatchList}
pub use Rattle.pocsag_pages.specs.declared.fault.RoundFault.{RoundFault}
pub use Rattle.pocsag_pages.specs.declared.page.Page.{Page}
pub use Rattle.pocsag_plan.proofs.Due.{tight_plan, tight_stream}
pub use Rattle.pocsag_plan.specs.Fronts.{ExplainsFront, IsFrontFor, IsLongestFront, IsWhyNoMore}
pub use Rattle.pocsag_plan.specs.Plans.{IsPlanFor, NoneHasFewer}
unfoldable pub use Rattle.pocsag_plan.specs.Reports.{first_lines, last_lines, line_of, report_text}
pub use Rattle.pocsag_plan.specs.Streams.{ExplainsStream, HeadlineOf, IsCertificate, IsOfRound, IsTransmission, IsUnsent, WritesAllOf, WritesBounded, WritesCertificatePart, WritesCertificatePartOf, WritesInTurn, WritesPart, WritesPartOf}
pub use Rattle.pocsag_plan.specs.declared.fault.StreamFault.{StreamFault}
pub use Rattle.pocsag_plan.specs.declared.frames.FrameRoom.{FrameRoom}
pub use Rattle.pocsag_plan.specs.declared.front.FrontPlan.{FrontPlan}
pub use Rattle.pocsag_plan.specs.declared.search.Search.{Search}
pub use Rattle.pocsag_shell.proofs.Runs.{ran_as, ran_streamed}
pub use Rattle.pocsag_shell.specs.Readers.{FailedCut, IsUncut}
pub use Rattle.pocsag_shell.specs.Runs.{IsStreamOf, Work}
pub use Rattle.pocsag_tree.specs.BoundTrees.{BoundTree}
pub use Rattle.pocsag_tree.specs.CertificateText.{IsText}
pub use Rattle.pocsag_tree.specs.Views.{bound_tree_of}
pub use Rattle.pocsag_words.specs.Devices.{HasFailed, IsOfCut}
pub use Rattle.pocsag_words.specs.Kinds.{idle_word, kind_of}
pub use Rattle.pocsag_words.specs.declared.ending.End.{End}
pub use Rattle.std.proofs.Common.{All, Bool, List, Some, [], ap, append_assoc, arith, drop, eq-eqb, false, filter, get_or, inl, inr, length, map, min, nat_eq, not, refl, replicate, rules, subst, suc, sym, take, tests, true, zero, ℕ, ◌%◌, ◌&&◌, ◌*◌, ◌++◌, ◌+◌, ◌-◌, ◌/◌, ◌<◌, ◌==◌, ◌^◌, ◌||◌, ◌∙◌, ◌∷◌, ◌≡◌, ◌≢◌, ◌≤◌, ◌⊎◌}
pub use Rattle.std.proofs.lemmas.Bool.{cases_Bool, cases_eq, cases_lt, le-ltb, lt-ltb, ltb-true, ne_eqb, not-false, not-true, or_right}
pub use Rattle.std.proofs.lemmas.List.{append-nil, drop_at, get_or-drop, get_or_default, length-append, length-drop, length-map, length-take-le, map-append, take-append-drop, take_all, take_at, take_min}
pub use Rattle.std.proofs.lemmas.List.Elements.{All-filter, All-head, All-nil, All-tail, All-weaker}
pub use Rattle.std.proofs.lemmas.List.Sorted.{Contains-permutation, IsNonDecreasingBy-from_sort_by_key, answers_always, ties_still_rise}
pub use Rattle.std.proofs.lemmas.Result.{err_from_is_err_and}
pub use Rattle.std.proofs.lemmas.Slice.Eq.{bytes_eq-Decides}
pub use Rattle.std.specs.List.{AllByRecursion, flat_map, list_any}
pub use Rattle.std.specs.List.Sorted.{IsNonDecreasingBy, IsSortedByKey}
pub use Rattle.std.specs.Ordering.{nat_cmp, ordering_index}
pub use Rattle.std.specs.Prelude.{Contains, Err, IfErr, IfOk, IsOk, IsPermutation, None, Ok, OnOk, Result, codes, ◌↔◌}
