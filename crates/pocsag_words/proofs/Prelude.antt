-- What several proofs of the crate import, passed on to all of them.
unfoldable pub use Rattle.pocsag_words.specs.Checks.{checks_of, moved, pair_of, product_of, spread_of, three_of}
pub use Rattle.pocsag_words.specs.Codeword.{HasNoneNear, IsCodeword, IsOnlyNear, generator}
unfoldable pub use Rattle.pocsag_words.specs.Columns.{check_of, columns, combine, syndrome_of}
pub use Rattle.pocsag_words.specs.Flags.{TellFirst}
pub use Rattle.pocsag_words.specs.declared.correction.TheConstants.{ERRORS}
pub use Rattle.std.proofs.Common.{Bool, IsTrue, List, [], add-one, add-zero, ap, ap₂, arith, bit_and, bit_xor, cond, count_ones, drop, eq-eqb, eqb, false, inl, inr, leb, length, length-drop, lit<, ltb, map, mul-zero, nat_eq, nat_lt, one-mul, refl, replicate, set, slice_index, subst, suc, sym, true, zero, zero-mul, ℕ, ◌%◌, ◌&&◌, ◌*◌, ◌++◌, ◌+◌, ◌-◌, ◌/◌, ◌<◌, ◌^◌, ◌||◌, ◌↔◌, ◌∙◌, ◌∷◌, ◌≡◌, ◌≢◌, ◌≤◌, ◌⊎◌}
pub use Rattle.std.proofs.Math.Nat.{pow-suc}
pub use Rattle.std.proofs.lemmas.Bool.{and_parts, cases_eq, cases_lt, eqb-true, le-ltb, leb-true, lt-ltb, ltb-true, ne_eqb, or_cases}
pub use Rattle.std.proofs.lemmas.Nat.{and_mask, mod-pow-add, ones_cat, ones_le_self, pow_pos, shr-shr, xor_block, xor_comm, xor_lt, xor_mod, xor_shr}
pub use Rattle.std.specs.Int.Bits.{xor_assoc, xor_self, xor_shifted, xor_zero_l, xor_zero_r}
pub use Rattle.std.specs.Int.Count.{ones_step}
