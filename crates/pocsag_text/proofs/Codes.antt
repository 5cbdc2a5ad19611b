-- The codes of the numeric characters.
use Rattle.pocsag_text.proofs.Prelude.{◌≡◌, ◌≢◌, ℕ, ◌<◌, ◌≤◌, slice_index, Option, Some, None, unwrap_or, is_none, Bool, cond, eqb, ltb, not, ◌&&◌, ◌||◌, true, false, lit<, refl, ap, arith, eqb-true, CODES, numeric_characters, code_of, code_or_space, character_of, is_bad_digit}
use Rattle.std.proofs.lemmas.List.Quantifiers.{position-Some}
use Rattle.pocsag_text.proofs.Below.{all_below, passes}

-- whether there is this code
is_code : Option ℕ → ℕ → Bool
is_code (Some k) code = eqb k code
is_code None code = false

is_code-true : (o : Option ℕ) (code : ℕ) → is_code o code ≡ true → o ≡ Some code
unfolding is_code
is_code-true (Some k) code h = ap Some (eqb-true k code h)
is_code-true None code h = cc

-- the code of a code's character
characters_pass : all_below 16 (λ k. is_code (code_of (character_of k)) k) ≡ true
unfolding all_below is_code numeric_characters
characters_pass = refl

pub code_of-character_of : (k : ℕ) → k < 16 → code_of (character_of k) ≡ Some k
code_of-character_of k h =
    is_code-true (code_of (character_of k)) k (passes 16 (λ j. is_code (code_of (character_of j)) j) characters_pass k h)

-- the character of a code
character_of-code_of : (b k : ℕ) → code_of b ≡ Some k → (k < 16) × (character_of k ≡ b)
unfolding numeric_characters
character_of-code_of b k h =
    let p = position-Some (λ c. eqb c b) numeric_characters k 0 h in
    (p.0, eqb-true (character_of k) b p.1)

-- the code of each byte, as it stands in the table
table_passes : all_below 256 (λ b. eqb (slice_index CODES b) (unwrap_or (code_of b) 16)) ≡ true
unfolding all_below numeric_characters
table_passes = refl

pub in_table : (b : ℕ) → b < 256 → slice_index CODES b ≡ unwrap_or (code_of b) 16
in_table b h = eqb-true _ _ (passes 256 (λ c. eqb (slice_index CODES c) (unwrap_or (code_of c) 16)) table_passes b h)

-- which bytes are no numeric character, by comparisons
abbrev is_no_digit : ℕ → Bool
is_no_digit b = ((((((ltb b 48 || ltb 57 b) && not (eqb b 42)) && not (eqb b 85)) && not (eqb b 32)) && not (eqb b 45)) && not (eqb b 93)) && not (eqb b 91)

same_by_test : (x y : Bool) → cond x y (not y) ≡ true → x ≡ y
same_by_test true true h = refl
same_by_test true false h = cc
same_by_test false true h = cc
same_by_test false false h = refl

comparisons_pass : all_below 256 (λ b. cond (is_no_digit b) (is_bad_digit b) (not (is_bad_digit b))) ≡ true
unfolding all_below numeric_characters
comparisons_pass = refl

pub no_digit_compared : (b : ℕ) → b < 256 → is_no_digit b ≡ is_bad_digit b
no_digit_compared b h = same_by_test _ _ (passes 256 (λ d. cond (is_no_digit d) (is_bad_digit d) (not (is_bad_digit d))) comparisons_pass b h)

there_by : (o : Option ℕ) (code : ℕ) → code ≡ unwrap_or o 16 → code < 16 → Some code ≡ o
there_by None code e h = absurd (omega (arith, e))
there_by (Some k) code e h = ap Some e

missing_by : (b : ℕ) (o : Option ℕ) (code : ℕ) → code_of b ≡ o → code ≡ unwrap_or o 16 → 16 ≤ code → None ≡ o
missing_by b None code is e h = refl
missing_by b (Some k) code is e h =
    let low = character_of-code_of b k is in
    absurd (omega (arith, e, low.0))

pub code_there : (b code : ℕ) → code ≡ unwrap_or (code_of b) 16 → code < 16 → Some code ≡ code_of b
code_there b code e h = there_by (code_of b) code e h

pub code_missing : (b code : ℕ) → code ≡ unwrap_or (code_of b) 16 → 16 ≤ code → None ≡ code_of b
code_missing b code e h = missing_by b (code_of b) code refl e h

unwrapped : (o : Option ℕ) → ((k : ℕ) → o ≡ Some k → k < 16) → unwrap_or o 12 < 16
unwrapped None h = lit< tt
unwrapped (Some k) h = h k refl

-- each code has four bits
pub code_or_space-lt : (b : ℕ) → code_or_space b < 16
code_or_space-lt b = unwrapped (code_of b) (λ k e. (character_of-code_of b k e).0)

unwrapped_back : (b : ℕ) (o : Option ℕ) → o ≢ None → ((k : ℕ) → o ≡ Some k → character_of k ≡ b) → character_of (unwrap_or o 12) ≡ b
unwrapped_back b None n h = absurd (n refl)
unwrapped_back b (Some k) n h = h k refl

-- a numeric character comes back from its code
pub character_of-code_or_space : (b : ℕ) → is_bad_digit b ≡ false → character_of (code_or_space b) ≡ b
character_of-code_or_space b h =
    unwrapped_back b (code_of b) (some_from (code_of b) h) (λ k e. (character_of-code_of b k e).1)
  where
    some_from : (o : Option ℕ) → is_none o ≡ false → o ≢ None
    some_from None h e = cc
    some_from (Some k) h e = cc

-- the code of the space is that of its character
pub space_is : character_of 12 ≡ 32
unfolding numeric_characters
space_is = refl
