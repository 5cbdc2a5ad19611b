-- Messages that a form reads.
use Rattle.pocsag_receiver.proofs.Prelude.{◌≡◌, ◌≢◌, ℕ, ◌/◌, ◌%◌, ◌<◌, ◌≤◌, List, [], ◌∷◌, All, None, subst, arith, IsSome, flat_map, IsAscii, All-weaker, hex_digit, hex_digits, message_field}
use Rattle.std.proofs.Math.Nat.{lt_of_not-le}
use Rattle.std.proofs.lemmas.Bool.{ne_eqb}
use Rattle.std.proofs.lemmas.Bool.Decides.{nat_tests}
use Rattle.std.proofs.lemmas.List.Elements.{All-from_recursion}
use Rattle.std.proofs.lemmas.Str.{IsAscii-append}
use Rattle.std.proofs.lemmas.Str.Ascii.{IsAscii-from_all, IsAscii-nil}
use Rattle.pocsag_text.specs.Characters.{code_of, numeric_characters}

-- a numeric character
no_code : (b : ℕ) → 128 ≤ b → code_of b ≡ None
unfolding numeric_characters
no_code b h = grind (arith, nat_tests)

never_high : (b : ℕ) → IsSome (code_of b) → 128 ≤ b → ⊥
never_high b some high = let none : IsSome {T = ℕ} None = subst IsSome (no_code b high) some in cc

pub numeric_is_ascii : (text : List ℕ) → All (λ b. IsSome (code_of b)) text → IsAscii text
numeric_is_ascii text coded =
    IsAscii-from_all text
    (All-weaker (λ b. IsSome (code_of b)) (λ b. b < 128) (λ b some. lt_of_not-le (never_high b some)) text coded)

-- hexadecimal digits
digit_is_ascii : (d : ℕ) → d < 16 → hex_digit d < 128
digit_is_ascii d h = grind (arith, nat_tests)

hex_is_ascii : (items : List ℕ) → IsAscii (flat_map hex_digits items)
hex_is_ascii [] = IsAscii-nil
hex_is_ascii (item ∷ items) =
    let small : (n : ℕ) → hex_digit (n % 16) < 128 = λ n. digit_is_ascii (n % 16) (omega arith) in
    IsAscii-append (hex_digits item) (flat_map hex_digits items) (IsAscii-from_all (hex_digits item)
    (All-from_recursion (λ b. b < 128) (hex_digits item)
    (small (item / 65536), (small (item / 4096), (small (item / 256), (small (item / 16), (small item, tt))))))) (hex_is_ascii items)

-- the message of a function that is neither 0 nor 3
pub data_is_ascii : (function : ℕ) (items text : List ℕ) → function ≢ 0 → function ≢ 3 → text ≡ message_field function items
    → IsAscii text
unfolding message_field
data_is_ascii function [] text n0 n3 is = rw is IsAscii-nil
data_is_ascii function (item ∷ items) text n0 n3 is =
    rw (is, ne_eqb function 0 n0, ne_eqb function 3 n3) (hex_is_ascii (item ∷ items))
