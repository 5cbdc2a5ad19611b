-- What several proofs of the crate import, passed on to all of them.
pub use Rattle.pocsag_slots.proofs.CoverLemmas.{finish_below, start_below}
pub use Rattle.pocsag_slots.proofs.EdgeLemmas.{before, load_edge, sixteen_zeros}
pub use Rattle.pocsag_slots.proofs.Members.{holds_none, set_taking}
pub use Rattle.pocsag_slots.proofs.SumLemmas.{chosen_none, sum_below-add, sum_below-bump, sum_below-le, sum_below-same, sum_below-zero, sum_below_more, sum_below_none, sum_over-add, sum_over-same, sum_over-sum_below, term-le-sum_below}
unfoldable pub use Rattle.pocsag_slots.specs.Classes.{class_frame, class_rest, finish_of, start_of}
unfoldable pub use Rattle.pocsag_slots.specs.Loads.{load}
pub use Rattle.pocsag_slots.specs.Loads.{AreCarried, IsChoice}
unfoldable pub use Rattle.pocsag_slots.specs.Sums.{holds, sum_below, sum_over}
pub use Rattle.pocsag_slots.specs.Sums.{AddsMember, SetsTakeMembers}
pub use Rattle.pocsag_slots.specs.Tours.{AsksForLast, IsTour, LastAs, LastIsIdle, LastIsWhole, Leads, idles}
pub use Rattle.pocsag_slots.specs.declared.class.Classes.{Classes}
pub use Rattle.pocsag_slots.specs.declared.step.Step.{Step}
pub use Rattle.pocsag_tour.specs.Links.{AddsLink, AreLinked, Follows, HaveIdles, HaveRuns, IsLed, IsLinked, at_start, by_link}
unfoldable pub use Rattle.pocsag_tour.specs.Moves.{arc_at, arc_count, arc_from, arc_to, ins, outs, step_of, taken}
pub use Rattle.pocsag_tour.specs.Moves.{AllLeadTo, AreCounts, AreUsed, ExitsLeadToRoot, IsAmong, IsBalanced, IsClosing, IsDeparture, IsEntering, IsExit, IsSpent, IsWalk, IsWay, LeadsToRoot, NoneEnters, NoneLeaves, RunsStart, Visited, at_root, by_arc, by_exit}
unfoldable pub use Rattle.pocsag_tour.specs.Reached.{runs_of}
pub use Rattle.pocsag_tour.specs.Reached.{AreReached, HasRunOutside, IsReached, IsRefused, IsUnclosed, LiesOutside, NoIdleCrosses, NoRunCrosses, by_idle, by_run}
unfoldable pub use Rattle.pocsag_tour.specs.Segments.{often}
pub use Rattle.pocsag_tour.specs.Segments.{ArePassed, AreTaken, IsPassed, IsPath, IsSegment}
pub use Rattle.pocsag_words.proofs.TruthValues.{and_false, and_true, is_above, not_above}
pub use Rattle.pocsag_words.specs.declared.ending.End.{End}
pub use Rattle.std.proofs.Common.{Bool, Err, IfErr, IfOk, IsTrue, List, Ok, Result, [], ap, append_assoc, arith, bit_or, cond, eq-eqb, false, get_or, get_or-set_other, get_or-set_same, inl, inr, length, length-set, ltb, map, max, nat_lt, not, refl, rules, slice_index, slice_set, subst, suc, sym, take, true, zero, ℕ, ◌%◌, ◌&&◌, ◌*◌, ◌++◌, ◌+◌, ◌-◌, ◌<◌, ◌==◌, ◌^◌, ◌∙◌, ◌∷◌, ◌≡◌, ◌≢◌, ◌≤◌, ◌⊎◌}
pub use Rattle.std.proofs.lemmas.Bool.{and_parts, cases_Bool, cases_eq, eqb-true, lt-ltb, ltb-true, ne_eqb, not-false, not-true}
pub use Rattle.std.proofs.lemmas.Bool.Decides.{nat_tests}
pub use Rattle.std.proofs.lemmas.List.{append-nil, get_or_append_left, length-append}
pub use Rattle.std.specs.List.{repeat}
