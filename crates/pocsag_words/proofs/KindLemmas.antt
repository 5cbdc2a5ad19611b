-- A codeword is known by its kind.
use Rattle.pocsag_words.proofs.Prelude.{◌≡◌, ◌≢◌, ℕ, ◌+◌, ◌*◌, ◌/◌, ◌%◌, ◌^◌, ◌<◌, ◌≤◌, ◌⊎◌, refl, sym, ap, ap₂, ◌∙◌, inl, inr, arith, eq-eqb, lit<, cases_eq, cases_lt, lt-ltb, le-ltb, ne_eqb, IsCodeword, combine, columns, check_of}
use Rattle.pocsag_words.specs.declared.codeword.Kind.TheVariants.{Idle, Address, Message}
use Rattle.pocsag_words.specs.Kinds.{idle_word, idle_bits, kind_of, address_kind}
use Rattle.pocsag_words.proofs.BlockCode.{IsCodeword-encode, IsCodeword-from_low, check_of-lt, same_from_data}

pub IsCodeword-idle : IsCodeword idle_word
unfolding combine columns check_of
IsCodeword-idle = IsCodeword-from_low idle_word (lit< tt) refl

-- the kind, by what the number is
abbrev HasKind : ℕ → Type 0
HasKind w =
    ((w ≡ idle_word) × (kind_of w ≡ Idle))
    ⊎ (((w / 2048 < 2 ^ 20) × (kind_of w ≡ Address (w / 2048 / 4) (w / 2048 % 4)))
    ⊎ ((2 ^ 20 ≤ w / 2048) × (kind_of w ≡ Message (w / 2048 % 2 ^ 20))))

kind_cases : (w : ℕ) → HasKind w
kind_cases w =
    elim (cases_eq w idle_word) [
      | inl p ↦ inl (p, rw p refl)
      | inr n ↦ elim (cases_lt (w / 2048) (2 ^ 20)) [
        | inl p ↦ inr (inl (p, rw (ne_eqb _ _ n, lt-ltb _ _ p) refl))
        | inr p ↦ inr (inr (p, rw (ne_eqb _ _ n, le-ltb _ _ p) refl))
      ]
    ]

same_from_cases : (v w : ℕ) → IsCodeword v → IsCodeword w → HasKind v → HasKind w → kind_of v ≡ kind_of w → v ≡ w
same_from_cases v w is also (inl p) (inl q) e = p.0 ∙ sym q.0
same_from_cases v w is also (inl p) (inr (inl q)) e = cc
same_from_cases v w is also (inl p) (inr (inr q)) e = cc
same_from_cases v w is also (inr (inl p)) (inl q) e = cc
same_from_cases v w is also (inr (inl p)) (inr (inl q)) e =
    let same : Address (v / 2048 / 4) (v / 2048 % 4) ≡ Address (w / 2048 / 4) (w / 2048 % 4) = cc in
    let high : v / 2048 / 4 ≡ w / 2048 / 4 = cc in
    let function : v / 2048 % 4 ≡ w / 2048 % 4 = cc in
    same_from_data v w is also (omega arith)
same_from_cases v w is also (inr (inl p)) (inr (inr q)) e = cc
same_from_cases v w is also (inr (inr p)) (inl q) e = cc
same_from_cases v w is also (inr (inr p)) (inr (inl q)) e = cc
same_from_cases v w is also (inr (inr p)) (inr (inr q)) e =
    let bits : v / 2048 % 2 ^ 20 ≡ w / 2048 % 2 ^ 20 = cc in
    same_from_data v w is also (omega (arith, is.fits, also.fits))

pub same_from_kind_lem : (v w : ℕ) → IsCodeword v → IsCodeword w → kind_of v ≡ kind_of w → v ≡ w
same_from_kind_lem v w is also e = same_from_cases v w is also (kind_cases v) (kind_cases w) e

pub kind_of-address : (w h f : ℕ) → IsCodeword w → f < 4 → h < 2 ^ 18 → w / 2048 ≡ 4 * h + f → kind_of w ≡ address_kind h f
kind_of-address w h f is small high e =
    elim (cases_eq (4 * h + f) idle_bits) [
      | inl p ↦
          let idle : w ≡ idle_word = same_from_data w idle_word is IsCodeword-idle (e ∙ p) in
          rw (eq-eqb _ _ p, idle) refl
      | inr n ↦
          let other : w ≢ idle_word = λ same. n (sym e ∙ ap (λ (x : ℕ). x / 2048) same) in
          let low : w / 2048 < 2 ^ 20 = omega arith in
          let high_part : w / 2048 / 4 ≡ h = omega arith in
          let low_part : w / 2048 % 4 ≡ f = omega arith in
          rw (ne_eqb _ _ n, ne_eqb _ _ other, lt-ltb _ _ low) (ap₂ Address high_part low_part)
    ]

kind_of-message : (w bits : ℕ) → IsCodeword w → bits < 2 ^ 20 → w / 2048 ≡ 2 ^ 20 + bits → kind_of w ≡ Message bits
kind_of-message w bits is small e =
    let sum : w / 2048 ≡ 1048576 + bits = e in
    let other : w ≢ idle_word = λ same. omega (arith, same, sum) in
    let high : 2 ^ 20 ≤ w / 2048 = omega arith in
    let part : w / 2048 % 2 ^ 20 ≡ bits = omega arith in
    rw (ne_eqb _ _ other, le-ltb _ _ high) (ap Message part)

-- the data has a codeword
codeword_of : (d : ℕ) → d < 2 ^ 21 → (w : ℕ) × IsCodeword w × (w / 2048 ≡ d)
codeword_of d small = (2048 * d + check_of d, IsCodeword-encode d (check_of d) small refl, omega (arith, check_of-lt d))

pub address_has_codeword : (h f : ℕ) → h < 2 ^ 18 → f < 4 → (w : ℕ) × IsCodeword w × (kind_of w ≡ address_kind h f)
address_has_codeword h f high small =
    let found = codeword_of (4 * h + f) (omega arith) in
    (found.0, found.1, kind_of-address found.0 h f found.1 small high found.2)

pub message_has_codeword : (bits : ℕ) → bits < 2 ^ 20 → (w : ℕ) × IsCodeword w × (kind_of w ≡ Message bits)
message_has_codeword bits small =
    let found = codeword_of (2 ^ 20 + bits) (omega arith) in
    (found.0, found.1, kind_of-message found.0 bits found.1 small found.2)
