-- What several proofs of the crate import, passed on to all of them.
pub use Rattle.pocsag_decode.proofs.Prefixes.{after_fault, took_on}
pub use Rattle.pocsag_wav.specs.Levels.{high_level, keyed_bytes, level_at, level_in, low_level, tail_bits}
unfoldable pub use Rattle.pocsag_wav.specs.Samples.{samples_of}
pub use Rattle.pocsag_wav.specs.Samples.{IsCount}
pub use Rattle.pocsag_wav.specs.Wav.{IsWav, sample_bytes, wav_header}
pub use Rattle.std.proofs.Common.{Bool, List, None, Option, Some, [], ap, append_assoc, ap₂, arith, cond, drop, false, get_or, inl, inr, length, length-append, pos, refl, replicate, rules, slice_get, subst, sym, take, true, ℕ, ℤ, ◌*◌, ◌++◌, ◌+◌, ◌/◌, ◌<◌, ◌==◌, ◌^◌, ◌↔◌, ◌∙◌, ◌∷◌, ◌≡◌, ◌≤◌}
pub use Rattle.std.proofs.lemmas.List.{append-nil, take-append-drop}
pub use Rattle.std.specs.Int.{bit_at, cast_signed, cast_unsigned, div_ceil, from_bool, w16}
pub use Rattle.std.specs.List.{flat_map}
