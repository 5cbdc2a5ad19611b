-- What several proofs of the crate import, passed on to all of them.
pub use Rattle.pocsag_pages.proofs.GoodPages.{good_pages}
unfoldable pub use Rattle.pocsag_pages.specs.Pages.{is_reserved}
pub use Rattle.pocsag_pages.specs.Pages.{IsGoodPage, IsRound}
pub use Rattle.pocsag_pages.specs.Reading.{AreApart, BeginsNoMessage, EndsAs, EndsIdle, EndsWhole, IsLegalFor, IsLegalList, Reads, at_end, frame_at, page_length, page_words, past_idle, past_page}
pub use Rattle.pocsag_pages.specs.declared.page.Page.{Page}
unfoldable pub use Rattle.pocsag_slots.specs.Arcs.{early_in}
pub use Rattle.pocsag_slots.specs.Arcs.{arcs, run_length, runs}
unfoldable pub use Rattle.pocsag_slots.specs.Classes.{class_frame, class_of, class_rest, finish_of, start_of}
pub use Rattle.pocsag_slots.specs.Classes.{class_of_page, count_of, turns_of}
unfoldable pub use Rattle.pocsag_slots.specs.Cover.{covered}
pub use Rattle.pocsag_slots.specs.Edges.{ends_at, starts_at}
pub use Rattle.pocsag_slots.specs.Layout.{first_of, laid, without_first}
unfoldable pub use Rattle.pocsag_slots.specs.Loads.{class_load, class_load_over, least_of_class, load}
pub use Rattle.pocsag_slots.specs.Loads.{AreClassesOf, AreInOrder, IsChoice, IsLeast, IsLeastLoad, Overloads, limits_of_all}
unfoldable pub use Rattle.pocsag_slots.specs.Sums.{holds, joined_below, sum_below, sum_over}
pub use Rattle.pocsag_slots.specs.Sums.{AddsMember, SetsTakeMembers}
pub use Rattle.pocsag_slots.specs.Tours.{IsTour, LastAs, LastIsIdle, LastIsWhole, Leads, idles}
unfoldable pub use Rattle.pocsag_slots.specs.Ways.{class_ways, early_open, idle_crosses, late_open, run_crosses, slot_ways, ways_across}
pub use Rattle.pocsag_slots.specs.Ways.{MayTake}
pub use Rattle.pocsag_slots.specs.declared.class.Classes.{Classes}
pub use Rattle.pocsag_slots.specs.declared.limit.Limits.{Limits}
pub use Rattle.pocsag_slots.specs.declared.step.Step.{Step}
pub use Rattle.pocsag_words.specs.Codeword.{IsCodeword}
pub use Rattle.pocsag_words.specs.Kinds.{address_kind, kind_of}
pub use Rattle.pocsag_words.specs.declared.codeword.Kind.{Kind}
pub use Rattle.pocsag_words.specs.declared.codeword.Kind.TheVariants.{Address, Idle, Message}
pub use Rattle.pocsag_words.specs.declared.ending.End.{End}
pub use Rattle.std.proofs.Common.{All, Bool, Contains, Fits, List, [], add-one, add-zero, ap, append-nil, append_assoc, arith, below_more, bit_and, bit_or, cond, eq-eqb, false, get_or, get_or-set_other, get_or-set_same, inl, inr, leb, length, length-append, ltb, map, min, nat_lt, not, refl, remove, replicate, rules, slice_index, slice_index_or, slice_set, subst, suc, sym, take, true, w16, w64, zero, ℕ, ◌%◌, ◌&&◌, ◌*◌, ◌++◌, ◌+◌, ◌-◌, ◌/◌, ◌<◌, ◌==◌, ◌^◌, ◌∙◌, ◌∷◌, ◌≡◌, ◌≢◌, ◌≤◌, ◌⊎◌}
pub use Rattle.std.proofs.Math.Nat.{mul-le-mul_left}
pub use Rattle.std.proofs.lemmas.Bool.{and_parts, cases_eq, cases_lt, eqb-true, lt-ltb, ltb-true, ne_eqb}
pub use Rattle.std.proofs.lemmas.Bool.Decides.{nat_tests}
pub use Rattle.std.proofs.lemmas.List.{get_or-replicate, length-map, length-replicate, length-set, length-take, nil_from_length}
pub use Rattle.std.proofs.lemmas.List.Elements.{All-append, All-cons, All-contains_itself, All-get_or, All-head, All-nil, All-tail, All-take, All-weaker}
pub use Rattle.std.proofs.lemmas.List.Sorted.{All-permutation, Contains-permutation, IsPermutation-cons, IsPermutation-refl, IsPermutation-remove, IsPermutation-sym, IsPermutation-trans, length_permutation, sum_by-IsPermutation}
pub use Rattle.std.proofs.lemmas.List.Sums.{count_by-le-length, sum_by-cons, sum_by_more}
pub use Rattle.std.proofs.lemmas.Nat.{mul-le, or_lt, pow_pos}
pub use Rattle.std.specs.Prelude.{IsPermutation}
