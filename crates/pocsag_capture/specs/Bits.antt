-- The bits of a capture, and the words that they make: the highest bit of each byte came first.
use Rattle.std.specs.Prelude.{ℕ, ◌-◌, Bool, true, false, List, take, drop}
use Rattle.std.specs.List.{flat_map}
use Rattle.pocsag_text.specs.Bits.{high_first, high_number}
use Rattle.pocsag_capture.specs.declared.polarity.Polarity.{Polarity}
use Rattle.pocsag_capture.specs.declared.polarity.Polarity.TheVariants.{Upright, Inverted}

-- The bits of bytes, each 0 or 1.
abbrev pub capture_bits : List ℕ → List ℕ
capture_bits bytes = flat_map (high_first 8) bytes

-- The 32 bits from a bit on as a number, the first of them the highest.
abbrev pub word_on : (bits : List ℕ) → (bit : ℕ) → ℕ
word_on bits bit = high_number 0 (take 32 (drop bit bits))

-- What was sent where this word was received: the word itself, or the one that has the other bit at each place.
abbrev pub as_sent : Polarity → ℕ → ℕ
as_sent Upright word = word
as_sent Inverted word = 0xffffffff - word

-- Whether each bit was received as the other.
abbrev pub inverts : Polarity → Bool
inverts Upright = false
inverts Inverted = true
