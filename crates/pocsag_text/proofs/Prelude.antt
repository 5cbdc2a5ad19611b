-- What several proofs of the crate import, passed on to all of them.
unfoldable pub use Rattle.pocsag_text.specs.Bits.{cut, high_first, high_number, low_first, low_number}
pub use Rattle.pocsag_text.specs.Bits.{AreItems, item_bits}
unfoldable pub use Rattle.pocsag_text.specs.Characters.{numeric_characters}
pub use Rattle.pocsag_text.specs.Characters.{character_of, code_of, code_or_space, is_bad_digit}
unfoldable pub use Rattle.pocsag_text.specs.Packers.{packed_bits, unpacked_bits}
pub use Rattle.pocsag_text.specs.Packers.{IsPacked, IsUnpacked}
unfoldable pub use Rattle.pocsag_text.specs.Text.{alpha_bits, alpha_payload, alpha_text, codes_of, numeric_bits, numeric_payload, numeric_text, text_fault, trim_end}
pub use Rattle.pocsag_text.specs.Text.{fault_of, fault_of_place, is_bad_byte, short_of, trimmed_onto, twenties, unless}
pub use Rattle.pocsag_text.specs.declared.character.TheConstants.{CODES, REVERSED}
pub use Rattle.std.proofs.Common.{All, Bool, Err, IsSome, List, None, Ok, Option, Some, [], add-one, ap, arith, bit_and, bit_or, cond, drop, eqb, false, get_or, inr, is_none, length, lit<, lit≤, ltb, map, not, position, refl, replicate, slice_index, subst, suc, sym, take, true, unwrap_or, zero, zero-add, ℕ, ⊎_elim, ◌%◌, ◌&&◌, ◌*◌, ◌++◌, ◌+◌, ◌-◌, ◌/◌, ◌<◌, ◌^◌, ◌||◌, ◌∙◌, ◌∷◌, ◌≡◌, ◌≢◌, ◌≤◌}
pub use Rattle.std.proofs.Math.Nat.{mod-eq_of_lt, mul_comm, pow-le-pow_right, pow-suc}
pub use Rattle.std.proofs.lemmas.Bool.{and_parts, cases_lt, eq-eqb, eqb-true, false_from_ne_true, ne_eqb}
pub use Rattle.std.proofs.lemmas.List.{append-nil, append_assoc, drop-append-le, drop-drop, drop_at, flat_map_more, get_or_default, length-append, length-drop, length-map, length-replicate, length-take-le, map-append, map_more, nil_from_length, replicate_more, take-append-drop, take-append-le, take_all, take_at, take_more, take_rest}
pub use Rattle.std.proofs.lemmas.List.Concat.{flat_map-append}
pub use Rattle.std.proofs.lemmas.List.Elements.{All-append, All-cons, All-drop, All-from_get_or, All-get_or, All-head, All-map, All-nil, All-push, All-replicate, All-tail, All-take, All-weaker}
pub use Rattle.std.proofs.lemmas.List.Folds.{list_any_at, list_any_more}
pub use Rattle.std.proofs.lemmas.Nat.{and_mask, div-mul-add, field_of, mod-pow-add, mod_below, mod_low, mul-add-lt, one_shl, or_shifted, pow-add, pow_pos, shl_whole, shr-shr, shr_below, shr_high}
pub use Rattle.std.specs.List.{flat_map, list_any, position_or_len, range_with_len}
