use Rattle.pocsag_pages.proofs.Prelude.{◌≡◌, ℕ, ◌+◌, ◌-◌, ◌*◌, ◌^◌, ◌<◌, ◌≤◌, true, false, List, ◌∷◌, get_or, refl, sym, ◌∙◌, arith, add-one, None, is_ascii_digit, nat_tests, drop_more, drop_all, decimal}
use Rattle.std.proofs.Math.Nat.{pow-suc, pow-le-pow_right}
use Rattle.pocsag_pages.proofs.record.parse_decimal.Goals as goal

digit_small : (b : ℕ) → is_ascii_digit b ≡ true → b - 48 < 10
digit_small b e = grind (arith, nat_tests)

ten_more : (i v d : ℕ) → v < 10 ^ i → d < 10 → 10 * v + d < 10 ^ (i + 1)
ten_more i v d h k = rw (add-one, pow-suc 10 i) (omega arith)

ten_low : (i v : ℕ) → i ≤ 6 → v < 10 ^ i → v < 10 ^ 6
ten_low i v h k = let positive : 0 < 10 = omega arith in omega (arith, pow-le-pow_right positive h)

decimal_more : (v b : ℕ) (digits : List ℕ) → is_ascii_digit b ≡ true → decimal v (b ∷ digits) ≡ decimal (10 * v + (b - 48)) digits
unfolding decimal
decimal_more v b digits e = rw e refl

decimal_stops : (v b : ℕ) (digits : List ℕ) → is_ascii_digit b ≡ false → decimal v (b ∷ digits) ≡ None
unfolding decimal
decimal_stops v b digits e = rw e refl

pub returns-then-not-is_ascii_digit : goal.returns-then-not-is_ascii_digit
returns-then-not-is_ascii_digit c =
    let digits = c.args.digits.now in
    let i = c.loop-digit.digit-index in
    sym (c.loop-digit.invariant.rest
    ∙ rw (drop_more digits i 0 c.loop-digit-test.true)
    (decimal_stops _ _ _ (sym c.is_ascii_digit.ensures.value ∙ c.if-not-is_ascii_digit.true)))

pub overflow_mul-value : goal.overflow_mul-value
overflow_mul-value c = omega (arith, ten_low c.loop-digit.digit-index c.loop-digit.value (omega arith) c.loop-digit.invariant.small)

pub overflow_add-value : goal.overflow_add-value
overflow_add-value c =
    omega (
      arith,
      ten_low c.loop-digit.digit-index c.loop-digit.value (omega arith) c.loop-digit.invariant.small,
      digit_small (get_or c.args.digits.now c.loop-digit.digit-index 0)
          (sym c.is_ascii_digit.ensures.value ∙ c.if-not-is_ascii_digit.false),
    )

pub loop-digit-preserved : goal.loop-digit-preserved
loop-digit-preserved c =
    let digits = c.args.digits.now in
    let i = c.loop-digit.digit-index in
    let is_digit = sym c.is_ascii_digit.ensures.value ∙ c.if-not-is_ascii_digit.false in
    rw c.from.ensures
    (record {
      rest = c.loop-digit.invariant.rest ∙ rw (drop_more digits i 0 c.loop-digit-test.true) (decimal_more _ _ _ is_digit);
      small = ten_more i _ _ c.loop-digit.invariant.small (digit_small _ is_digit);
    })

pub returns : goal.returns
unfolding decimal
returns c =
    let digits = c.args.digits.now in
    let i = c.loop-digit.digit-index in
    sym (c.loop-digit.invariant.rest ∙ rw (drop_all i digits c.loop-digit-test.false) refl)
