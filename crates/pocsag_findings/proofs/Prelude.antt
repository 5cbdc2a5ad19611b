-- What several proofs of the crate import, passed on to all of them.
pub use Rattle.pocsag_findings.specs.Ahead.{findings_left}
pub use Rattle.pocsag_findings.specs.Beginnings.{BeginsWith, GivesVerdict, drawing_head, end_name, end_words, verdict_members, verdict_words}
pub use Rattle.pocsag_findings.specs.Descents.{MayDescend, position_by}
pub use Rattle.pocsag_findings.specs.Findings.{each_unjudged, finding_of, findings_below, findings_by, findings_of, findings_within, unjudged_below, unjudged_finding, unjudged_within}
pub use Rattle.pocsag_findings.specs.Rules.{column_of, early_limits, fact_holds, fact_of, is_narrower, narrowed_by, share_of}
pub use Rattle.pocsag_findings.specs.Views.{Stated, all_stated, stated}
pub use Rattle.pocsag_findings.specs.Walks.{IsSound, found_at, found_from, is_unreached, levels_left, stated_at}
pub use Rattle.pocsag_findings.specs.Writing.{Adds, HasAdded, TookLessOfVerdict, TookPartOfVerdict, TookVerdict}
pub use Rattle.pocsag_findings.specs.declared.level.Child.{Child}
pub use Rattle.pocsag_findings.specs.declared.level.Level.{Level}
pub use Rattle.pocsag_slots.proofs.WayLemmas.{joined_more, joined_none}
unfoldable pub use Rattle.pocsag_slots.specs.Loads.{least_of_class}
pub use Rattle.pocsag_slots.specs.Loads.{IsLeastLoad}
unfoldable pub use Rattle.pocsag_slots.specs.Sums.{joined_below}
unfoldable pub use Rattle.pocsag_slots.specs.Ways.{ways_across, ways_to_close}
pub use Rattle.pocsag_slots.specs.Ways.{MayTake}
pub use Rattle.pocsag_slots.specs.declared.class.Classes.{Classes}
pub use Rattle.pocsag_slots.specs.declared.limit.Limits.{Limits}
pub use Rattle.pocsag_slots.specs.declared.way.Way.{Way}
pub use Rattle.pocsag_tree.proofs.Counts.{bound_tree_of-close, bound_tree_of-cut, count_of_bounds}
pub use Rattle.pocsag_tree.specs.BoundTrees.{BoundTree, BoundTrees, children_count, close, cut, more, none, overload, split, unexamined}
pub use Rattle.pocsag_tree.specs.Views.{bound_tree_of, bounds_of}
pub use Rattle.pocsag_words.specs.declared.ending.End.{End}
pub use Rattle.std.proofs.Common.{All, Bool, List, OnOk, [], ap, append_assoc, arith, cond, false, length, length-append, nat_eq, nat_lt, refl, rules, slice_index, string_bytes, subst, sym, take, true, ℕ, ◌%◌, ◌*◌, ◌++◌, ◌+◌, ◌-◌, ◌<◌, ◌^◌, ◌∙◌, ◌∷◌, ◌≡◌, ◌≤◌}
pub use Rattle.std.proofs.Math.ListN.{get_or}
pub use Rattle.std.proofs.lemmas.Bool.Decides.{nat_tests}
pub use Rattle.std.proofs.lemmas.List.{append-nil, drop_all, drop_more, flat_map_more, take-append-le}
pub use Rattle.std.proofs.lemmas.List.Elements.{All-get_or, All-pop, All-push}
pub use Rattle.std.proofs.lemmas.Result.{IfOk-weaker, err_from_is_err_and, on_ok_weaker}
pub use Rattle.std.specs.Prelude.{Err, IfOk, IfSome, Ok, Option, Result, Some, codes, drop, if◌then◌else◌, map}
