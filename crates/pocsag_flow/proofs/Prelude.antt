-- What several proofs of the crate import, passed on to all of them.
unfoldable pub use Rattle.pocsag_flow.specs.Choices.{overload}
unfoldable pub use Rattle.pocsag_flow.specs.Search.{same_slot}
pub use Rattle.pocsag_flow.specs.Search.{AreStuck, EndsElsewhere, HasEndAt, Includes, IsLoaded, IsNetworkOf, IsOf, IsStuck, Keeps, LeadsInto, Leaves, Pushes, Relieves, StaysInside}
pub use Rattle.pocsag_flow.specs.declared.network.Network.{Network}
pub use Rattle.pocsag_flow.specs.declared.network.Progress.{Progress}
pub use Rattle.pocsag_slots.proofs.LeastLemmas.{class_load_over_is, load_over, members_more, members_none}
pub use Rattle.pocsag_slots.proofs.SumLemmas.{sum_below-le, sum_below-same, sum_over-add, sum_over-same}
unfoldable pub use Rattle.pocsag_slots.specs.Classes.{class_frame, class_rest, finish_of, start_of}
unfoldable pub use Rattle.pocsag_slots.specs.Loads.{class_load, class_load_over, load}
pub use Rattle.pocsag_slots.specs.Loads.{AreInOrder, ClassLoadsAddUp, IsWithin, Overloads}
unfoldable pub use Rattle.pocsag_slots.specs.Sums.{holds, sum_below, sum_over}
pub use Rattle.pocsag_slots.specs.declared.class.Classes.{Classes}
pub use Rattle.pocsag_slots.specs.declared.limit.Limits.{Limits}
pub use Rattle.std.proofs.Common.{Bool, List, ap, arith, cond, false, get_or-set_other, get_or-set_same, inl, inr, length, length-set, refl, slice_index, slice_set, suc, sym, true, zero, ℕ, ◌%◌, ◌*◌, ◌+◌, ◌-◌, ◌/◌, ◌<◌, ◌∙◌, ◌≡◌, ◌≢◌, ◌≤◌, ◌⊎◌}
pub use Rattle.std.proofs.lemmas.Bool.{cases_eq, cases_lt}
pub use Rattle.std.proofs.lemmas.Bool.Decides.{nat_tests}
