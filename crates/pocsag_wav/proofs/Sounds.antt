-- How many samples a sound has, and which; and what of them is written so far.
use Rattle.pocsag_wav.proofs.Prelude.{◌≡◌, ◌==◌, ◌↔◌, Bool, true, false, cond, Option, None, ℕ, ◌+◌, ◌*◌, ◌/◌, ◌^◌, ◌<◌, ◌≤◌, List, [], ◌∷◌, ◌++◌, length, take, drop, Some, slice_get, ℤ, pos, refl, sym, ap, ap₂, subst, ◌∙◌, inl, inr, arith, append_assoc, append-nil, take-append-drop, bit_at, cast_signed, cast_unsigned, div_ceil, from_bool, w16, flat_map, high_level, keyed_bytes, level_at, level_in, low_level, tail_bits, IsWav, sample_bytes, wav_header, IsCount, samples_of}
use Rattle.std.proofs.Math.Nat.{mul-le-mul_right}
use Rattle.std.proofs.lemmas.Bool.{cases_lt}
use Rattle.std.proofs.lemmas.Grind.{div_ceil_times}
use Rattle.std.proofs.lemmas.List.Concat.{flat_map-append}
use Rattle.std.proofs.lemmas.List.FromFn.{get_or-map-range_with_len, length-map-range_with_len, map-range_with_len_more, take-map-range_with_len}
use Rattle.std.proofs.lemmas.Nat.{div_below, le-div}
use Rattle.std.proofs.lemmas.Option.{slice_get-get_or}
use Rattle.pocsag_wav.specs.declared.keying.Keying.{Keying}

-- c is the least number with T * S ≤ c * R: just the i below it have i * R / S below T
pub counts_bits : (R S T c : ℕ) → 0 < R → 0 < S → T * S ≤ c * R → c * R < T * S + R → (i : ℕ) → (i < c) ↔ (i * R / S < T)
counts_bits R S T c r s enough least i = (
  λ below.
      let more : (i + 1) * R ≤ c * R = mul-le-mul_right R (omega arith) in
      div_below (i * R) S T s (omega (arith, more)),
  λ within.
      elim (cases_lt i c) [
        | inl lt ↦ lt
        | inr ge ↦
            let far : c * R ≤ i * R = mul-le-mul_right R ge in
            absurd (omega (arith, le-div T (i * R) S s (omega (arith, far)), within))
      ],
)

pub counts_rounded : (keying : Keying) (bits samples rate c : ℕ) → samples ≡ keying.samples → rate ≡ keying.rate
    → c ≡ div_ceil (bits * samples) rate → IsCount keying bits c
counts_rounded keying bits samples rate c s r is =
    let p = div_ceil_times (bits * keying.samples) keying.rate keying.positive in
    let same : c ≡ div_ceil (bits * keying.samples) keying.rate = is ∙ ap₂ (λ (m n : ℕ). div_ceil (bits * m) n) s r in
    counts_bits keying.rate keying.samples bits c keying.positive (omega (arith, keying.positive, keying.dense)) (rw same p.0)
    (rw same p.1)

-- a level fits 16 bits
pub level_fits : (is_inverted : Bool) (byte : Option ℕ) (bit : ℕ) →
    cast_signed w16 (cast_unsigned w16 (level_in is_inverted byte bit)) ≡ level_in is_inverted byte bit
level_fits is_inverted None bit = refl
level_fits is_inverted (Some byte) bit =
    elim (bit_at byte bit == from_bool is_inverted) as (λ (b : Bool). cast_signed w16 (cast_unsigned w16 (cond b high_level low_level)) ≡ cond b high_level low_level) [
      | true ↦ refl
      | false ↦ refl
    ]

-- a sample is written behind the piece
pub pushed : (before now piece spilled one two due : List ℕ) (low high : ℕ) → now ++ piece ≡ before ++ due
    → spilled ++ one ≡ now ++ piece → two ≡ (one ++ low ∷ []) ++ high ∷ [] → spilled ++ two ≡ before ++ (due ++ low ∷ high ∷ [])
pushed before now piece spilled one two due low high told same is =
    ap (λ (l : List ℕ). spilled ++ l) (is ∙ append_assoc one (low ∷ []) (high ∷ []))
    ∙ (sym (append_assoc spilled one (low ∷ high ∷ []))
    ∙ (ap (λ (l : List ℕ). l ++ low ∷ high ∷ []) (same ∙ told) ∙ append_assoc before due (low ∷ high ∷ [])))

module _ (keying : Keying) (bytes : List ℕ) where
  pub length-samples_of : (n : ℕ) → length (samples_of keying bytes n) ≡ n
  unfolding samples_of
  length-samples_of n = length-map-range_with_len _ 0 n

  -- one sample more
  pub samples_of_more : (i : ℕ) → samples_of keying bytes (i + 1)
      ≡ samples_of keying bytes i ++ level_at keying.is_inverted bytes (i * keying.rate / keying.samples) ∷ []
  unfolding samples_of
  samples_of_more i = map-range_with_len_more _ 0 i i (omega arith)

  -- the first of them
  take-samples_of : (i n : ℕ) → i ≤ n → take i (samples_of keying bytes n) ≡ samples_of keying bytes i
  unfolding samples_of
  take-samples_of i n h = take-map-range_with_len _ 0 n i h

  pub get-samples_of : (n i : ℕ) → i < n → slice_get (samples_of keying bytes n) i ≡ Some (level_at keying.is_inverted bytes (i * keying.rate / keying.samples))
  unfolding samples_of
  get-samples_of n i h =
      slice_get-get_or (samples_of keying bytes n) i (pos 0) (let long = length-samples_of n in omega arith)
      ∙ ap Some (get_or-map-range_with_len _ 0 n i i (pos 0) h (omega arith))

  -- what is written with one sample more
  pub written_more : (i : ℕ) →
      flat_map sample_bytes (samples_of keying bytes i) ++ sample_bytes (level_at keying.is_inverted bytes (i * keying.rate / keying.samples))
      ≡ flat_map sample_bytes (samples_of keying bytes (i + 1))
  written_more i =
      let level = level_at keying.is_inverted bytes (i * keying.rate / keying.samples) in
      ap (λ (l : List ℕ). flat_map sample_bytes (samples_of keying bytes i) ++ l) (sym (append-nil (sample_bytes level)))
      ∙ (sym (flat_map-append sample_bytes (samples_of keying bytes i) (level ∷ []))
      ∙ ap (flat_map sample_bytes) (sym (samples_of_more i)))

  -- what of so many samples is left behind the first of them
  pub left_of : (i n : ℕ) → i ≤ n → flat_map sample_bytes (samples_of keying bytes n)
      ≡ flat_map sample_bytes (samples_of keying bytes i) ++ flat_map sample_bytes (drop i (samples_of keying bytes n))
  left_of i n h =
      ap (flat_map sample_bytes) (sym (take-append-drop i (samples_of keying bytes n)))
      ∙ (flat_map-append sample_bytes (take i (samples_of keying bytes n)) (drop i (samples_of keying bytes n))
      ∙ ap (λ (xs : List ℤ). flat_map sample_bytes xs ++ flat_map sample_bytes (drop i (samples_of keying bytes n))) (take-samples_of i n h))

  pub none_written : flat_map sample_bytes (samples_of keying bytes 0) ≡ []
  unfolding samples_of
  none_written = refl

  -- what is still to be written, where a piece of what is due is not written yet
  pub still_to_write : (before now piece : List ℕ) (i n : ℕ) → i ≤ n → now ++ piece ≡ before ++ flat_map sample_bytes (samples_of keying bytes i)
      → before ++ flat_map sample_bytes (samples_of keying bytes n)
      ≡ now ++ (piece ++ flat_map sample_bytes (drop i (samples_of keying bytes n)))
  still_to_write before now piece i n h told =
      let rest = flat_map sample_bytes (drop i (samples_of keying bytes n)) in
      ap (λ (l : List ℕ). before ++ l) (left_of i n h)
      ∙ (sym (append_assoc before (flat_map sample_bytes (samples_of keying bytes i)) rest)
      ∙ (ap (λ (l : List ℕ). l ++ rest) (sym told) ∙ append_assoc now piece rest))

-- a file of the bytes that are keyed, with the header of so many samples, is the sound of a transmission
pub is_wav : (keying : Keying) (bytes keyed : List ℕ) (tail bits n : ℕ) → keyed ≡ keyed_bytes keying.preamble bytes →
    tail ≡ tail_bits keying.rate keying.tail → bits ≡ 8 * length keyed + tail →
    IsCount keying bits n → 36 + 2 * n < 2 ^ 32 →
    IsWav keying bytes (wav_header keying.samples n ++ flat_map sample_bytes (samples_of keying keyed n))
is_wav keying bytes keyed tail bits n same silent due count fits =
    let long : length (samples_of keying keyed n) ≡ n = length-samples_of keying keyed n in
    record {
      samples = samples_of keying keyed n;
      keyed = record {
        levels = λ i h. get-samples_of keying keyed n i (omega (arith, long))
            ∙ ap (λ (l : List ℕ). Some (level_at keying.is_inverted l (i * keying.rate / keying.samples))) same;
        all = λ i. rw long (subst (λ (m : ℕ). (i < n) ↔ (i * keying.rate / keying.samples < m)) (due ∙ ap₂ (λ (l : List ℕ) (m : ℕ). 8 * length l + m) same silent) (count i));
      };
      held = record {
        fits = omega (arith, long);
        whole = ap (λ (k : ℕ). wav_header keying.samples k ++ flat_map sample_bytes (samples_of keying keyed n)) (sym long);
      };
    }
