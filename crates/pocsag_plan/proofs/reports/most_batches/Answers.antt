use Rattle.pocsag_plan.proofs.Prelude.{◌≡◌, ℕ, ◌+◌, ◌-◌, ◌*◌, ◌/◌, ◌<◌, ◌≤◌, arith, refl, subst, sym, AreMostWithin}
use Rattle.std.proofs.Math.Nat.{lt_of_mul-lt-mul_right}
use Rattle.std.proofs.lemmas.Grind.{div_ceil_times}
use Rattle.pocsag_words.specs.Frame.{airtime, transmission_bits}
use Rattle.pocsag_plan.proofs.reports.most_batches.Goals as goal

-- so many batches last less than a millisecond more, and one batch more lasts longer
about : (ms rate b lasts longer : ℕ) → b ≡ (ms * rate / 1000 - 576) / 544 → lasts * rate < 1000 * transmission_bits b + rate →
    1000 * transmission_bits (b + 1) ≤ longer * rate → (0 < b → lasts ≤ ms) × (ms < longer)
about ms rate b lasts longer is less more = (
  (λ some. let before : lasts * rate < (ms + 1) * rate = omega arith in omega (arith, lt_of_mul-lt-mul_right rate before)),
  lt_of_mul-lt-mul_right rate (omega arith),
)

within_rate : (ms rate : ℕ) → 0 < rate → AreMostWithin ms rate ((ms * rate / 1000 - 576) / 544)
unfolding airtime
within_rate ms rate some =
    let b : ℕ = (ms * rate / 1000 - 576) / 544 in
    let is = about ms rate b _ _ refl (div_ceil_times (1000 * transmission_bits b) rate some).1
    (div_ceil_times (1000 * transmission_bits (b + 1)) rate some).0 in
    record { within = is.0; most = is.1 }

pub returns-in-512-clause-most : goal.returns-in-512-clause-most
returns-in-512-clause-most c =
    let ms = c.args.airtime_ms in
    let rate = c.args.rate in
    let is : c.saturating_sub.result ≡ ms * rate / 1000 - 576 = cc (c.saturating_sub.ensures, c.from.ensures, c.from-in-512.ensures) in
    subst (λ (n : ℕ). AreMostWithin ms rate (n / 544)) (sym is) (within_rate ms rate (grind (arith, c.in-512.is)))
