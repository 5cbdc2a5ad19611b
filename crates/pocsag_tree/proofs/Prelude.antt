-- What several proofs of the crate import, passed on to all of them.
pub use Rattle.pocsag_tree.specs.BoundTrees.{BoundTree, BoundTrees, all_nodes, all_nodes_in, children_count, close, closed_nodes_in, cut, deepest, depth_of, greatest_count, more, none, overload, split, unexamined}
pub use Rattle.pocsag_tree.specs.CertificateText.{AreInRange, HasText, IsInRange, IsText, close_head, cut_head, first_head, first_text, node, row, split_head, version_bytes, written_head, written_text}
pub use Rattle.pocsag_tree.specs.Limits.{first_ranges, greatest_depth, most_nodes, second_ranges}
unfoldable pub use Rattle.pocsag_tree.specs.Parser.{all_of, batches_at, body_at, but_last, certificate_at, close_at, cut_at, end_at, large_at, long_number_at, mark_at, node_at, number_at, overload_at, row_at, small_at, split_at, tagged_at, version_at}
pub use Rattle.pocsag_tree.specs.Parser.{Fails, Gives, IsEarly, IsRowRead, IsWanting, Read, Reader, ReadsBy, byte_at, end_of, node_then, ◌>>=◌}
pub use Rattle.pocsag_tree.specs.Parts.{HasFirst, Meets, Part, asked_by, certificate, children, early, early_fault, field, judged, mark, nodes_with, right, short, trailing, version, whole, width_of, wrong}
pub use Rattle.pocsag_tree.specs.Views.{bound_step, bound_tree_of, bounds_from, bounds_of}
pub use Rattle.pocsag_tree.specs.declared.limits.Ranges.{Ranges}
pub use Rattle.pocsag_tree.specs.declared.refusals.CertificateFault.{CertificateFault}
pub use Rattle.pocsag_tree.specs.declared.shape.Tree.{Tree}
pub use Rattle.pocsag_words.specs.declared.ending.End.{End}
pub use Rattle.std.proofs.Common.{Bool, Err, List, None, Ok, Option, Result, Some, [], add-one, ap, append_assoc, arith, cond, drop, drop-cons, eqb, false, get_or, inl, inr, leb, length, length-append, length-take, lit<, lit≤, ltb, map, max, min, refl, replicate, rules, subst, suc, sym, take, true, vec_capacity, vec_len, zero, ℕ, ◌%◌, ◌*◌, ◌++◌, ◌+◌, ◌-◌, ◌/◌, ◌<◌, ◌^◌, ◌∙◌, ◌∷◌, ◌≡◌, ◌≤◌, ◌⊎◌}
pub use Rattle.std.proofs.lemmas.Bool.{and_from, and_left, and_parts, cond_both, eq-eqb, eqb-false, eqb-true, le-leb, le-ltb, leb-true, lt-ltb, ltb-false, ltb-true}
pub use Rattle.std.proofs.lemmas.List.{append-nil, map_push, take-append-le, take_all}
pub use Rattle.std.proofs.lemmas.Result.{err_from_is_err_and}
pub use Rattle.std.specs.Int.{Width, byte_len, from_be_bytes, to_be_bytes, w16, w32, w8}
pub use Rattle.std.specs.Prelude.{IfErr, IfOk, ◌&&◌, ◌↔◌}
