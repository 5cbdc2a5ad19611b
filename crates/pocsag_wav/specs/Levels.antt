-- The levels that a transmission is keyed with, bit by bit, and its samples (the order of the bits is a rule; the levels, the
-- preamble and the silence are this project's own).
use Rattle.std.specs.Prelude.{◌≡◌, ℕ, ◌+◌, ◌-◌, ◌*◌, ◌/◌, ◌%◌, ◌<◌, ◌↔◌, ◌==◌, if◌then◌else◌, Bool, List, ◌++◌, length, replicate, Option, None, Some, slice_get, ℤ, pos, negsuc}
use Rattle.std.specs.Int.{bit_at, div_ceil, from_bool}
use Rattle.pocsag_words.specs.Frame.{preamble_byte}
use Rattle.pocsag_pages.specs.Bytes.{after_preamble}
use Rattle.pocsag_wav.specs.declared.keying.Keying.{Keying}

-- The three levels: 8,000, -8,000 and 0.
abbrev pub high_level : ℤ
high_level = pos 8000

abbrev pub low_level : ℤ
low_level = negsuc 7999

abbrev pub silence : ℤ
silence = pos 0

-- The bytes that are keyed: those of the transmission or, where a preamble of so many bits is asked for, that preamble and
-- the batches of the transmission.
abbrev pub keyed_bytes : (preamble : Option ℕ) → (bytes : List ℕ) → List ℕ
keyed_bytes None bytes = bytes
keyed_bytes (Some bits) bytes = replicate (bits / 8) preamble_byte ++ after_preamble bytes

-- The level of a bit of a byte, of which bit 7 is the highest: high for a 0 and low for a 1, or the other way round where that
-- is asked for. Where there is no byte there is silence.
abbrev pub level_in : (is_inverted : Bool) → Option ℕ → (bit : ℕ) → ℤ
level_in is_inverted None bit = silence
level_in is_inverted (Some byte) bit = if bit_at byte bit == from_bool is_inverted then high_level else low_level

-- The level of a bit by its place in these bytes. The highest bit of each byte comes first.
abbrev pub level_at : (is_inverted : Bool) → (bytes : List ℕ) → (place : ℕ) → ℤ
level_at is_inverted bytes place = level_in is_inverted (slice_get bytes (place / 8)) (7 - place % 8)

-- How many bits the silence at the end lasts, at so many bits a second: as many as a batch or, where milliseconds are asked for,
-- the fewest that last as long.
abbrev pub tail_bits : (rate : ℕ) → (tail : Option ℕ) → ℕ
tail_bits rate None = 544
tail_bits rate (Some milliseconds) = div_ceil (milliseconds * rate) 1000

-- How many bits the sound of a transmission lasts: those that are keyed, and those of the silence.
abbrev pub bits_sent : Keying → (bytes : List ℕ) → ℕ
bits_sent keying bytes = 8 * length (keyed_bytes keying.preamble bytes) + tail_bits keying.rate keying.tail

-- The samples of a transmission: sample i has the level of bit i * rate / samples, rounded down, and a sample is there just
-- where the sound has such a bit.
pub record IsKeyed (keying : Keying) (bytes : List ℕ) (samples : List ℤ) : Type 0 where
  pub levels : (i : ℕ) → i < length samples →
      slice_get samples i ≡ Some (level_at keying.is_inverted (keyed_bytes keying.preamble bytes) (i * keying.rate / keying.samples))
  pub all : (i : ℕ) → (i < length samples) ↔ (i * keying.rate / keying.samples < bits_sent keying bytes)
