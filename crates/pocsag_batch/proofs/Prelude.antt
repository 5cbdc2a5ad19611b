-- What several proofs of the crate import, passed on to all of them.
pub use Rattle.pocsag_batch.specs.Chains.{AreChains, IsChain, Links}
pub use Rattle.pocsag_batch.specs.FileOrder.{InOrder, IsFileOrder, IsInFrame, IsLeastFrom, IsWhole, at_end, past_page}
pub use Rattle.pocsag_batch.specs.Placement.{HavePlaces, IsOrder, all_places, class_at, laid_by, page_at, places_of, run_classes}
pub use Rattle.pocsag_batch.specs.SlotBytes.{body_from, slot_bytes}
pub use Rattle.pocsag_pages.proofs.GoodPages.{good_pages}
pub use Rattle.pocsag_pages.proofs.PageLists.{left}
unfoldable pub use Rattle.pocsag_pages.specs.Bytes.{bytes_of}
pub use Rattle.pocsag_pages.specs.Bytes.{sync_word, synced}
pub use Rattle.pocsag_pages.specs.Pages.{IsGoodPage, IsRound}
pub use Rattle.pocsag_pages.specs.Reading.{IsLegalFor, IsLegalList, page_length, page_words}
pub use Rattle.pocsag_pages.specs.declared.page.Page.{Page}
pub use Rattle.pocsag_slots.proofs.LaidSteps.{first_runs, served_tour}
pub use Rattle.pocsag_slots.proofs.Sayable.{HaveCodewords, idle_sayable, items_sayable, kind_unreserved, none_sayable, page_sayable}
pub use Rattle.pocsag_slots.specs.Arcs.{runs}
pub use Rattle.pocsag_slots.specs.Classes.{class_of_page, count_of}
pub use Rattle.pocsag_slots.specs.Layout.{first_of, laid, without_first}
pub use Rattle.pocsag_slots.specs.Tours.{IsTourFor}
pub use Rattle.pocsag_slots.specs.declared.step.Step.{Step}
pub use Rattle.pocsag_words.proofs.KindLemmas.{address_has_codeword, message_has_codeword, same_from_kind_lem}
pub use Rattle.pocsag_words.specs.Codeword.{IsCodeword}
pub use Rattle.pocsag_words.specs.Kinds.{address_kind, kind_of}
pub use Rattle.pocsag_words.specs.declared.codeword.Kind.{Kind}
pub use Rattle.pocsag_words.specs.declared.codeword.Kind.TheVariants.{Address, Idle, Message}
pub use Rattle.pocsag_words.specs.declared.ending.End.{End}
pub use Rattle.pocsag_words.specs.declared.ending.End.TheVariants.{Open}
pub use Rattle.std.proofs.Common.{All, Bool, List, [], ap, append_assoc, arith, cond, drop, eq-eqb, false, get_or, get_or-set_other, get_or-set_same, inl, inr, length, length-append, map, refl, replicate, rules, slice_index, slice_set, subst, suc, sym, take, true, zero, ℕ, ◌%◌, ◌*◌, ◌++◌, ◌+◌, ◌-◌, ◌/◌, ◌<◌, ◌==◌, ◌^◌, ◌∙◌, ◌∷◌, ◌≡◌, ◌≤◌}
pub use Rattle.std.proofs.lemmas.Bool.{cases_eq, eqb-true, ne_eqb}
pub use Rattle.std.proofs.lemmas.Iterator.{YieldsList, YieldsList-from_slice, items_from_drains}
pub use Rattle.std.proofs.lemmas.Iterator.Consumers.{YieldsList-from_copied, YieldsList-from_first}
pub use Rattle.std.proofs.lemmas.List.{append-nil, drop_all, drop_more, get_or_default, length-map, length-replicate, length-set, length-take, map-append, map-id, map_push, nil_from_length, take-append-le, take_more, take_rest}
pub use Rattle.std.proofs.lemmas.List.Elements.{All-append, All-cons, All-contains_itself, All-get_or, All-head, All-nil, All-rest, All-tail, filter-append, filter_passes}
pub use Rattle.std.proofs.lemmas.List.Sorted.{All-permutation, IsPermutation-cons, IsPermutation-refl, IsPermutation-remove, IsPermutation-sym, IsPermutation-trans}
pub use Rattle.std.specs.Iterator.{AlwaysYields, Drains, Yields, YieldsFirstBy}
pub use Rattle.std.specs.List.{flat_map, range_with_len}
pub use Rattle.std.specs.Prelude.{IsPermutation, Option, filter, if◌then◌else◌}
