-- Which numbers a transmission may be keyed by (the rates are a rule; the other bounds are this project's own).
use Rattle.std.specs.Prelude.{◌≡◌, ℕ, ◌≤◌, ◌%◌, Bool, Option, IfSome}
use Rattle.pocsag_plan.specs.Reports.{IsRate}
use Rattle.pocsag_wav.specs.declared.fault.NoSound.{NoSound}
use Rattle.pocsag_wav.specs.declared.fault.NoSound.TheVariants as fault
use Rattle.pocsag_wav.specs.declared.keying.Keying.{Keying}

-- The samples a second are at least the bits a second, and at most 192,000.
pub record AreSamples (rate samples : ℕ) : Type 0 where
  pub dense : rate ≤ samples
  pub few : samples ≤ 192000

-- The bits of a preamble are at least 576, and whole bytes.
pub record ArePreamble (bits : ℕ) : Type 0 where
  pub long : 576 ≤ bits
  pub whole : bits % 8 ≡ 0

-- A transmission may be keyed at this rate, with so many samples a second and with such a preamble, where one is asked for.
pub record MayBeKeyed (rate samples : ℕ) (preamble : Option ℕ) : Type 0 where
  pub rates : IsRate rate
  pub sampled : AreSamples rate samples
  pub led : IfSome preamble ArePreamble

-- The keying has these numbers.
pub record IsAsAsked (keying : Keying) (rate samples : ℕ) (preamble tail : Option ℕ) (is_inverted : Bool) : Type 0 where
  pub rate_is : keying.rate ≡ rate
  pub samples_are : keying.samples ≡ samples
  pub preamble_is : keying.preamble ≡ preamble
  pub tail_is : keying.tail ≡ tail
  pub inversion_is : keying.is_inverted ≡ is_inverted

-- The first of the numbers that may not be.
abbrev pub ExplainsKeying : (rate samples : ℕ) → Option ℕ → NoSound → Type 0
ExplainsKeying rate samples preamble fault.BadRate = ¬ IsRate rate
ExplainsKeying rate samples preamble fault.BadSamples = IsRate rate × (¬ AreSamples rate samples)
ExplainsKeying rate samples preamble fault.BadPreamble = IsRate rate × AreSamples rate samples × IfSome preamble (λ bits. ¬ ArePreamble bits)
ExplainsKeying rate samples preamble _ = ⊥
