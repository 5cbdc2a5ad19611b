-- How a transmission is framed, in numbers: rules of Annex 1 on the preamble and on batches.
use Rattle.std.specs.Prelude.{ℕ, ◌+◌, ◌*◌}
use Rattle.std.specs.Int.{div_ceil}

-- The bytes of a preamble, alternating bits, and how many there are at least.
abbrev pub preamble_byte : ℕ
preamble_byte = 0xaa

abbrev pub preamble_length : ℕ
preamble_length = 72

-- The words of a batch: a synchronisation codeword and sixteen codewords.
abbrev pub batch_words : ℕ
batch_words = 17

-- The bits of a transmission of so many batches: a preamble of 576, and 544 of each batch, which are
-- those of a synchronisation codeword and sixteen codewords of 32 bits.
abbrev pub transmission_bits : ℕ → ℕ
transmission_bits batches = 576 + 544 * batches

-- How long so many bits last at a rate in bits a second: the least whole number of milliseconds (this project's own).
unfoldable pub airtime : (bits rate : ℕ) → ℕ
airtime bits rate = div_ceil (1000 * bits) rate

-- The most bytes of a page file or of a transmission that is read (this project's own).
abbrev pub input_limit : ℕ
input_limit = 268435456
