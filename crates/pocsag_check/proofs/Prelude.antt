-- What several proofs of the crate import, passed on to all of them.
pub use Rattle.pocsag_check.specs.Acceptance.{Accepts, AcceptsEach, AcceptsEachWithin, AcceptsRoot, AcceptsWithin, IsAccepted}
pub use Rattle.pocsag_pages.specs.declared.page.Page.{Page}
pub use Rattle.pocsag_slots.proofs.CoverLemmas.{covered_batches, covered_split, finish_below, finish_is, start_below}
pub use Rattle.pocsag_slots.proofs.Endings.{idle_behind, idles_last, last_behind}
unfoldable pub use Rattle.pocsag_slots.specs.Arcs.{early_in}
pub use Rattle.pocsag_slots.specs.Arcs.{arcs, run_length, runs}
unfoldable pub use Rattle.pocsag_slots.specs.Classes.{class_of, finish_of, start_of}
unfoldable pub use Rattle.pocsag_slots.specs.Loads.{load}
pub use Rattle.pocsag_slots.specs.Loads.{AreClassesOf, IsAdmitted, Overloads, limits_of_all}
unfoldable pub use Rattle.pocsag_slots.specs.Sums.{holds, joined_below}
pub use Rattle.pocsag_slots.specs.Tours.{AsksForLast, IsTour, LastAs, LastIsIdle, LastIsWhole, Leads, idles}
unfoldable pub use Rattle.pocsag_slots.specs.Ways.{class_certain, class_ways, early_open, idle_crosses, late_open, run_crosses, run_touches, slot_ways, ways_across, ways_to_close}
pub use Rattle.pocsag_slots.specs.Ways.{MayTake, limits_below, limits_from, narrowed_limits}
pub use Rattle.pocsag_slots.specs.declared.class.Classes.{Classes}
pub use Rattle.pocsag_slots.specs.declared.limit.Limits.{Limits}
pub use Rattle.pocsag_slots.specs.declared.step.Step.{Step}
pub use Rattle.pocsag_slots.specs.declared.way.Way.{Way}
pub use Rattle.pocsag_slots.specs.declared.way.Way.TheVariants.{Early, IdleIn, Late}
pub use Rattle.pocsag_tree.specs.BoundTrees.{BoundTree, BoundTrees, all_nodes, all_nodes_in, children_count, close, closed_nodes, closed_nodes_in, cut, more, none, overload, split, unexamined}
pub use Rattle.pocsag_tree.specs.Views.{bound_tree_of, bounds_of}
pub use Rattle.pocsag_words.specs.declared.ending.End.{End}
pub use Rattle.std.proofs.Common.{Bool, IsTrue, List, [], add-one, ap, arith, cond, drop, eq-eqb, false, get_or, inl, inr, length, length-append, map, max, min, nat_lt, not, refl, replicate, slice_index, slice_set, subst, suc, sym, true, zero, ℕ, ◌%◌, ◌&&◌, ◌++◌, ◌+◌, ◌-◌, ◌<◌, ◌==◌, ◌^◌, ◌||◌, ◌∙◌, ◌∷◌, ◌≡◌, ◌≤◌, ◌⊎◌}
pub use Rattle.std.proofs.lemmas.Bool.{cases_Bool, cases_eq, cases_lt, eqb-true, not-false, not-true, not_from_false}
pub use Rattle.std.proofs.lemmas.Bool.Decides.{nat_tests}
pub use Rattle.std.proofs.lemmas.List.{append-nil, drop_all, ext_get_or, get_or-replicate, get_or-set_other, get_or-set_same, length-map, set-get_or, set-set, set_past}
