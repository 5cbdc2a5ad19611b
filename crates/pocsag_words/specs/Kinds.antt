-- What a codeword says.
use Rattle.std.specs.Prelude.{ℕ, ◌+◌, ◌*◌, ◌/◌, ◌%◌, ◌^◌, ◌<◌, ◌==◌, nat_lt, if◌then◌else◌}
use Rattle.pocsag_words.specs.declared.codeword.Kind.{Kind}
use Rattle.pocsag_words.specs.declared.codeword.Kind.TheVariants.{Idle, Address, Message}

-- The kind of a codeword that is not idle, by the 21 bits that are sent first: the first of them is
-- 0 in an address codeword and 1 in a message codeword (a rule of Annex 1).
abbrev pub kind_of_bits : ℕ → Kind
kind_of_bits d = if nat_lt d (2 ^ 20) then Address (d / 4) (d % 4) else Message (d % 2 ^ 20)

-- The idle codeword (a rule of Annex 1), and its first 21 bits.
abbrev pub idle_word : ℕ
idle_word = 0x7a89c197

abbrev pub idle_bits : ℕ
idle_bits = 0x0f5138

-- *Kind*, a rule of Annex 1: one codeword is idle, and any other goes by its first 21 bits.
abbrev pub kind_of : ℕ → Kind
kind_of w = if w == idle_word then Idle else kind_of_bits (w / 2048)

-- The kind of the codeword with these high bits and this function: 250958 with 0 is idle.
abbrev pub address_kind : ℕ → ℕ → Kind
address_kind h f = if 4 * h + f == idle_bits then Idle else Address h f

-- The parts of a kind are in their ranges: 18 high bits, a function of two bits, 20 message bits.
abbrev pub IsInRange : Kind → Type 0
IsInRange Idle = Unit {0}
IsInRange (Address h f) = (h < 2 ^ 18) × (f < 4)
IsInRange (Message m) = m < 2 ^ 20
