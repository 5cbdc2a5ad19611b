-- *Payload of a text*, and the text of a payload.
use Rattle.std.specs.Prelude.{ℕ, ◌-◌, ◌*◌, ◌/◌, ◌%◌, ◌==◌, nat_lt, ◌||◌, Bool, if◌then◌else◌, List, [], ◌∷◌, ◌++◌, length, map, replicate, position, Option, Some, None, Result, Ok, Err}
use Rattle.std.specs.List.{flat_map}
use Rattle.pocsag_text.specs.declared.fault.TextFault.{TextFault}
use Rattle.pocsag_text.specs.declared.fault.TextFault.TheVariants as fault
use Rattle.pocsag_text.specs.Bits.{low_first, low_number, high_number, cut, item_width, numeric_width, alpha_width, item_bits}
use Rattle.pocsag_text.specs.Characters.{character_of, code_or_space, space, space_code, is_bad_digit}

-- The most characters of a text (this project's own).
abbrev pub character_limit : ℕ
character_limit = 4000

-- The most items of a payload, which so many characters of seven bits fill.
abbrev pub item_limit : ℕ
item_limit = 1400

-- Whether a byte may not stand in an alphanumeric text: it is none of the codes 1 to 127 (this
-- project's own; 0 would be lost in the fill).
abbrev pub is_bad_byte : ℕ → Bool
is_bad_byte b = b == 0 || nat_lt 127 b

-- The fault of a text that is not empty, by the place of its first bad character and its length.
abbrev pub fault_of_place : Option ℕ → ℕ → Option TextFault
fault_of_place (Some place) count = Some (fault.BadCharacter place)
fault_of_place None count = if nat_lt character_limit count then Some fault.TooLong else None

-- The fault of a text (this project's own), by the place of its first bad character and its
-- length: that it is empty, else that place, else that it is too long.
abbrev pub fault_of : Option ℕ → ℕ → Option TextFault
fault_of first_bad count = if count == 0 then Some fault.EmptyMessage else fault_of_place first_bad count

-- The fault of a text, if it has one, by the test of a bad character.
unfoldable pub text_fault : (ℕ → Bool) → List ℕ → Option TextFault
text_fault is_bad text = fault_of (position is_bad text) (length text)

-- The items, unless there is a fault.
abbrev pub unless : Option TextFault → List ℕ → Result (List ℕ) TextFault
unless (Some e) items = Err e
unless None items = Ok items

-- The least number that has to be added to count for a multiple of n.
abbrev pub short_of : ℕ → ℕ → ℕ
short_of n count = (n - count % n) % n

-- The bits cut in twenties, each read with the first bit highest (a rule of Annex 1).
abbrev pub twenties : List ℕ → List ℕ
twenties bits = cut item_width (high_number 0) (length bits / item_width) bits

-- The bits of a numeric text, rules of Annex 1: the four bits of each code, the lowest first, and
-- those of as many spaces as fill the last twenty bits.
unfoldable pub numeric_bits : List ℕ → List ℕ
numeric_bits text =
    flat_map (low_first numeric_width)
    (map code_or_space text ++ replicate (short_of (item_width / numeric_width) (length text)) space_code)

-- The bits of an alphanumeric text: the seven bits of each character, the lowest first (a rule of
-- Annex 1), and as many zeros as fill the last twenty bits.
unfoldable pub alpha_bits : List ℕ → List ℕ
alpha_bits text = flat_map (low_first alpha_width) text ++ replicate (short_of item_width (alpha_width * length text)) 0

-- *Payload of a text*, of a numeric one: its items, or its first fault.
unfoldable pub numeric_payload : List ℕ → Result (List ℕ) TextFault
numeric_payload text = unless (text_fault is_bad_digit text) (twenties (numeric_bits text))

-- *Payload of a text*, of an alphanumeric one: its items, or its first fault.
unfoldable pub alpha_payload : List ℕ → Result (List ℕ) TextFault
alpha_payload text = unless (text_fault is_bad_byte text) (twenties (alpha_bits text))

-- b in front of what is left of a list without the c's at its end.
abbrev pub trimmed_onto : ℕ → ℕ → List ℕ → List ℕ
trimmed_onto c b [] = if b == c then [] else b ∷ []
trimmed_onto c b (x ∷ rest) = b ∷ x ∷ rest

-- The list without the c's at its end.
unfoldable pub trim_end : ℕ → List ℕ → List ℕ
trim_end c [] = []
trim_end c (b ∷ rest) = trimmed_onto c b (trim_end c rest)

-- The codes of so many bits each, the lowest first, that the bits make, without an incomplete
-- last one.
unfoldable pub codes_of : ℕ → List ℕ → List ℕ
codes_of width bits = cut width low_number (length bits / width) bits

-- The text of a numeric payload: the characters of all its codes, without the spaces at its end.
unfoldable pub numeric_text : List ℕ → List ℕ
numeric_text items = trim_end space (map character_of (codes_of numeric_width (item_bits items)))

-- The text of an alphanumeric payload: all its codes, without the zeros at its end.
unfoldable pub alpha_text : List ℕ → List ℕ
alpha_text items = trim_end 0 (codes_of alpha_width (item_bits items))
