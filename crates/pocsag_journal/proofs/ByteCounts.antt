-- How many bytes a journal has.
use Rattle.pocsag_journal.proofs.Prelude.{◌≡◌, ℕ, ◌+◌, ◌*◌, ◌≤◌, List, ◌++◌, length, arith, ◌∙◌, ap, min, length-append, journal_limit, times_needed}

-- a product that is cut at its greatest value is no more than the product
pub times_at_most : (before text : List ℕ) (len times count : ℕ) → len ≡ length before → len ≤ times → count ≡ length text →
    times ≡ min (count * 4) 18446744073709551615 → length before ≤ times_needed * length text
times_at_most before text len times count have few counted cut = omega (arith, have, few, counted, cut)

-- a sum that is within the limit was not cut
pub sum_is : (before line after : List ℕ) (len count sum : ℕ) → len ≡ length before → count ≡ length line →
    sum ≡ min (len + count) 18446744073709551615 → sum ≤ journal_limit → after ≡ before ++ line → sum ≡ length after
sum_is before line after len count sum have counted cut few e =
    let all : length after ≡ length before + length line = ap length e ∙ length-append before line in
    omega (arith, have, counted, cut, few, all)
