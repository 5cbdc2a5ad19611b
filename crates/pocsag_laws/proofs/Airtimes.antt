-- More batches take more time.
use Rattle.pocsag_laws.proofs.Prelude.{ℕ, zero, suc, ◌+◌, ◌*◌, ◌<◌, ◌≤◌, List, arith, inl, inr, div-zero, mod-zero, mul-le-mul_right, cases_lt, div_ceil_times, End, Page, AreFewest, AreSendable}
use Rattle.std.specs.Int.{div_ceil}
use Rattle.pocsag_words.specs.Frame.{airtime, transmission_bits}

-- a quotient that is rounded up grows with its dividend
ceil_grows : (a b r : ℕ) → a ≤ b → div_ceil a r ≤ div_ceil b r
ceil_grows a b zero h = simp (div-zero, mod-zero) (omega arith)
ceil_grows a b (suc r) h =
    elim (cases_lt (div_ceil b (suc r)) (div_ceil a (suc r))) [
      | inl more ↦ absurd (omega (arith, div_ceil_times a (suc r) (omega arith), div_ceil_times b (suc r) (omega arith), mul-le-mul_right (suc r) more))
      | inr few ↦ few
    ]

-- and by one at least, where the dividend grows by the divisor
ceil_more : (a b r : ℕ) → 0 < r → a + r ≤ b → div_ceil a r < div_ceil b r
ceil_more a b r some h =
    elim (cases_lt (div_ceil a r) (div_ceil b r)) [
      | inl more ↦ more
      | inr few ↦ absurd (omega (arith, div_ceil_times a r some, div_ceil_times b r some, mul-le-mul_right r few))
    ]

pub least_time : (end : End) (R : List Page) (fewest b rate : ℕ) → AreFewest end R fewest → AreSendable end R b →
    airtime (transmission_bits fewest) rate ≤ airtime (transmission_bits b) rate
unfolding airtime
least_time end R fewest b rate few sent =
    let h : fewest ≤ b = few.least b sent in ceil_grows (1000 * transmission_bits fewest) (1000 * transmission_bits b) rate (omega arith)

pub more_time : (a b rate : ℕ) → 0 < rate → rate ≤ 544000 → a < b →
    airtime (transmission_bits a) rate < airtime (transmission_bits b) rate
unfolding airtime
more_time a b rate some low h = ceil_more (1000 * transmission_bits a) (1000 * transmission_bits b) rate some (omega arith)
