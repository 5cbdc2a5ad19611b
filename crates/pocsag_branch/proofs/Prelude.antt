-- What several proofs of the crate import, passed on to all of them.
pub use Rattle.pocsag_branch.specs.Examined.{AreExamined, AreRefuted, Fills, IsExamined, IsNodeKind, IsRefuted, IsStop, IsTreeOf, greatest_least}
pub use Rattle.pocsag_branch.specs.Found.{HasPage, IsBound, IsLimit, IsSearchFault}
pub use Rattle.pocsag_branch.specs.FreeNode.{IsFreeTree, IsUndecidedWay}
pub use Rattle.pocsag_branch.specs.Marks.{has_open, have_open, opens, opens_in}
pub use Rattle.pocsag_branch.specs.Shape.{AdmitApart, AdmitSplit, AdmitUnclosed, AreShaped, IsOneOverload, IsShaped, NoneCertain, RefusesOneLess, SplitsAt, at_count, at_least, at_one, one_more}
unfoldable pub use Rattle.pocsag_branch.specs.Undecided.{class_left, slot_left, undecided}
pub use Rattle.pocsag_branch.specs.Undecided.{AreNodeLimits, Falls, IsSplitPoint}
pub use Rattle.pocsag_branch.specs.declared.task.Task.{Task}
pub use Rattle.pocsag_check.specs.Acceptance.{Accepts, AcceptsEach, AcceptsWithin, IsAccepted}
pub use Rattle.pocsag_slots.proofs.CoverLemmas.{start_below}
pub use Rattle.pocsag_slots.proofs.LoadLemmas.{count_few, covered_by, load_few, rest_below}
pub use Rattle.pocsag_slots.proofs.Members.{set_taking}
pub use Rattle.pocsag_slots.proofs.Sayable.{tour_worded}
pub use Rattle.pocsag_slots.proofs.SumLemmas.{sum_below-bump, sum_below-most, sum_over-le, sum_over-same, sum_over-times, term-le-sum_below}
unfoldable pub use Rattle.pocsag_slots.specs.Classes.{class_rest, start_of}
unfoldable pub use Rattle.pocsag_slots.specs.Loads.{class_load, load}
pub use Rattle.pocsag_slots.specs.Loads.{IsAdmitted, IsChoice, IsLeast, IsLeastLoad, IsWithin, Overloads, limits_of_all}
unfoldable pub use Rattle.pocsag_slots.specs.Sums.{holds, joined_below, sum_below, sum_over}
pub use Rattle.pocsag_slots.specs.Sums.{IsSet}
pub use Rattle.pocsag_slots.specs.Tours.{AsksForLast, IsTour}
unfoldable pub use Rattle.pocsag_slots.specs.Ways.{class_certain, class_ways, early_open, idle_crosses, late_open, run_crosses, run_touches, slot_ways, ways_across, ways_to_close}
pub use Rattle.pocsag_slots.specs.Ways.{MayTake, limits_below, limits_from, narrowed_limits}
pub use Rattle.pocsag_slots.specs.declared.class.Classes.{Classes}
pub use Rattle.pocsag_slots.specs.declared.limit.Limits.{Limits}
pub use Rattle.pocsag_slots.specs.declared.way.Way.{Way}
pub use Rattle.pocsag_slots.specs.declared.way.Way.TheVariants.{Early, IdleIn, Late}
pub use Rattle.pocsag_tour.proofs.Spares.{spare_tour}
unfoldable pub use Rattle.pocsag_tour.specs.Reached.{runs_of}
pub use Rattle.pocsag_tour.specs.Reached.{HasRunOutside, IsApart, IsReached, IsUnclosed, at_start, by_idle}
pub use Rattle.pocsag_tree.specs.BoundTrees.{BoundTree, BoundTrees, all_nodes, close, closed_nodes, closed_nodes_in, cut, deepest, depth_of, more, none, overload, split, unexamined}
pub use Rattle.pocsag_tree.specs.Views.{bound_step, bound_tree_of, bounds_of}
pub use Rattle.pocsag_tree.specs.declared.shape.Tree.{Tree}
pub use Rattle.pocsag_tree.specs.declared.shape.Tree.TheVariants.{Overload, rolls-Overload}
pub use Rattle.pocsag_words.specs.declared.ending.End.{End}
pub use Rattle.std.proofs.Common.{All, Bool, Err, IfOk, IfSome, IsTrue, List, Ok, Result, [], ap, append_assoc, arith, cond, drop, false, get_or, get_or-set_other, get_or-set_same, inl, inr, length, map, max, min, nat_lt, refl, replicate, slice_index, slice_set, subst, suc, sym, take, true, zero, ℕ, ◌%◌, ◌&&◌, ◌*◌, ◌++◌, ◌+◌, ◌-◌, ◌/◌, ◌<◌, ◌==◌, ◌^◌, ◌||◌, ◌∙◌, ◌∷◌, ◌≡◌, ◌≢◌, ◌≤◌}
pub use Rattle.std.proofs.lemmas.Bool.{and_parts, cases_eq, cases_lt, lt-ltb, ltb-false, ltb-true, or_parts}
pub use Rattle.std.proofs.lemmas.Bool.Decides.{nat_tests}
pub use Rattle.std.proofs.lemmas.List.{append-nil, get_or-replicate, length-replicate, replicate-append-replicate, take_all, take_more}
pub use Rattle.std.proofs.lemmas.List.Elements.{All-append, All-cons, All-more, All-nil}
pub use Rattle.std.proofs.lemmas.Result.{IfErr-weaker, err_from_is_err_and}
