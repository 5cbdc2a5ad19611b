-- What several proofs of the crate import, passed on to all of them.
pub use Rattle.pocsag_batch.proofs.PageLists.{good_at}
pub use Rattle.pocsag_batch.specs.Placement.{HavePlaces, IsOrder, laid_by}
pub use Rattle.pocsag_branch.specs.Found.{HasPage, IsBound, IsLimit, IsNodeLimit, IsSearchFault, IsTightOrStopped, IsWithinOne}
pub use Rattle.pocsag_branch.specs.declared.fault.SearchLimit.{SearchLimit}
pub use Rattle.pocsag_check.proofs.Spelled.{accepted_closed, accepted_text}
pub use Rattle.pocsag_pages.proofs.FirstPages.{first_round, good_last}
pub use Rattle.pocsag_pages.proofs.GoodPages.{apart_pages, good_page, good_pages}
pub use Rattle.pocsag_pages.proofs.PageLists.{left, taken}
pub use Rattle.pocsag_pages.specs.PageFile.{verdict}
pub use Rattle.pocsag_pages.specs.Pages.{AreGood, IsGoodPage, IsRound, addresses_of, has_address, page_fault_of, page_limit}
pub use Rattle.pocsag_pages.specs.Reading.{AreApart, IsLegalList, Reads, at_end, frame_at, page_length, past_idle, past_page}
pub use Rattle.pocsag_pages.specs.declared.page.Page.{Page}
pub use Rattle.pocsag_plan.specs.Attempts.{AreFrontBounds, ExceedsPages, HasSpare, IsCut, IsExcess, IsFit, IsTried, IsUndecidedAt, IsUpper, StopsAt}
pub use Rattle.pocsag_plan.specs.FaultChains.{fault_of_search, stream_fault_of}
pub use Rattle.pocsag_plan.specs.Frames.{HasClasses, frame_codewords, frame_idles, frame_pages, frame_row, frames_of, starts_in}
pub use Rattle.pocsag_plan.specs.Fronts.{AreBeyond, AreToBeSearched, ExplainsFront, FirstNeeds, IsFrontFor, IsLongestFront, IsUndecidedFor, IsWhyNoMore, ShowsBeyond, StopsAtFront}
unfoldable pub use Rattle.pocsag_plan.specs.OpenRound.{add_fault}
pub use Rattle.pocsag_plan.specs.OpenRound.{fault_beside, without}
pub use Rattle.pocsag_plan.specs.Plans.{ExplainsPlan, IsBounded, IsNoWorse, IsPlan, IsPlanFor, MayStop, NoneHasFewer}
unfoldable pub use Rattle.pocsag_plan.specs.Reports.{first_lines, last_lines, line_of, report_text}
pub use Rattle.pocsag_plan.specs.Reports.{AreMostWithin}
pub use Rattle.pocsag_plan.specs.Streams.{ExplainsStream, HasFrontHeadline, HasHeadline, HeadlineOf, IsCertificate, IsOfRound, IsSearchLimit, IsTransmission, IsUnsent, Writes, WritesAllOf, WritesBounded, WritesCertificatePartOf, WritesInTurn, WritesPartOf}
pub use Rattle.pocsag_plan.specs.Tallies.{CanGain, CanLose}
pub use Rattle.pocsag_plan.specs.Within.{IsOutcome, IsOutcomeFault, IsOutcomeFor}
pub use Rattle.pocsag_plan.specs.declared.answer.Plan.{Plan}
pub use Rattle.pocsag_plan.specs.declared.fault.PlanFault.{PlanFault}
pub use Rattle.pocsag_plan.specs.declared.search.OnLimit.{OnLimit}
pub use Rattle.pocsag_plan.specs.declared.search.OnLimit.TheVariants.{Always, Fewest}
pub use Rattle.pocsag_plan.specs.declared.search.Search.{Search}
pub use Rattle.pocsag_slots.proofs.CountLemmas.{AreCounted, IsShort, none_counted, page_class_below, tables_of}
pub use Rattle.pocsag_slots.proofs.Sayable.{tour_worded}
pub use Rattle.pocsag_slots.proofs.Walks.{count_of-cons, turns_of-cons}
unfoldable pub use Rattle.pocsag_slots.specs.Classes.{class_of, finish_of}
pub use Rattle.pocsag_slots.specs.Classes.{class_of_page, count_of, turns_of}
pub use Rattle.pocsag_slots.specs.Loads.{AreClassesOf, IsChoice, IsLeast}
pub use Rattle.pocsag_slots.specs.Tours.{IsTourFor, idles}
pub use Rattle.pocsag_slots.specs.declared.class.Classes.{Classes}
pub use Rattle.pocsag_slots.specs.declared.step.Step.{Step}
pub use Rattle.pocsag_tree.specs.BoundTrees.{BoundTree, all_nodes, closed_nodes}
pub use Rattle.pocsag_tree.specs.CertificateText.{HasText, written_text}
pub use Rattle.pocsag_tree.specs.Views.{bound_tree_of}
pub use Rattle.pocsag_words.specs.declared.codeword.Kind.{Kind}
pub use Rattle.pocsag_words.specs.declared.ending.End.{End}
pub use Rattle.pocsag_words.specs.declared.ending.End.TheVariants.{Closed, Open}
pub use Rattle.std.proofs.Common.{All, Bool, Contains, IsTrue, List, [], ap, append_assoc, arith, cond, drop, eq-eqb, false, get_or, get_or-set_other, get_or-set_same, inl, inr, length, length-append, map, min, nat_eq, nat_le, not, refl, rules, slice_index, slice_set, subst, sum_by, sym, take, true, ℕ, ◌%◌, ◌*◌, ◌++◌, ◌+◌, ◌-◌, ◌/◌, ◌<◌, ◌==◌, ◌↔◌, ◌∙◌, ◌∷◌, ◌≡◌, ◌≢◌, ◌≤◌}
pub use Rattle.std.proofs.lemmas.Bool.{cases_eq, cases_lt, or_parts}
pub use Rattle.std.proofs.lemmas.Bool.Decides.{nat_tests}
pub use Rattle.std.proofs.lemmas.List.{append-nil, drop-map, drop_min, drop_more, get_or-take, length-drop, length-map, length-set, length-take, length-take-le, map-append}
pub use Rattle.std.proofs.lemmas.List.Elements.{All-cons, All-drop, All-from_recursion, All-get_or, All-head, All-nil, All-tail, All-take, All-weaker, Contains-append_right, Contains-get_or}
pub use Rattle.std.proofs.lemmas.List.Sorted.{IsPermutation-middle, sum_by-IsPermutation}
pub use Rattle.std.proofs.lemmas.List.Sums.{count_by_more_no, count_by_more_yes, sum_by-cons, sum_by_more}
pub use Rattle.std.proofs.lemmas.Map.Keys.{IsDistinct-IsPermutation, IsDistinct-head, IsDistinct-tail}
pub use Rattle.std.proofs.lemmas.Result.{IfOk-weaker, err_from_is_err_and}
pub use Rattle.std.specs.List.{IsDistinct}
pub use Rattle.std.specs.Map.{keys_of, lookup, remove_entry, values_of}
pub use Rattle.std.specs.Prelude.{Err, IsErrOf, IsOk, None, Ok, Option, Result, Some, is_some, ◌⊎◌}
