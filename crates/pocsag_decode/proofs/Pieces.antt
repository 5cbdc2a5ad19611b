-- A decoder that stands after some bytes, and one piece more or the end.
use Rattle.pocsag_decode.proofs.Prelude.{◌≡◌, ◌≢◌, ℕ, ◌+◌, ◌%◌, ◌^◌, ◌<◌, ◌≤◌, List, [], ◌++◌, length, drop, sym, ap, ◌∙◌, subst, inl, inr, arith, All, append-nil, length-append, nil_from_length, All-append, leading, after_preamble, words_of, DecodeFault, Decoder, size_of, HasFaultThere, HasFaultOfEnd, RefusesPiece, no_memory, fault_there, words, KeepsFrom, HasTakenIn, HoldsOf, IsWantingOrBad}
use Rattle.pocsag_decode.specs.declared.fault.DecodeFault.TheVariants as fault
use Rattle.pocsag_decode.proofs.Preambles.{begun_leading, begun_after, alone_leading, alone_after, count_is, nil_or}
use Rattle.pocsag_decode.proofs.Transmissions.{IsWhole}
use Rattle.pocsag_decode.proofs.Words.{size_is}

append_nil_right : (xs ys : List ℕ) → xs ++ ys ≡ [] → ys ≡ []
append_nil_right xs ys e = nil_from_length ys (let l = ap length e in omega (arith, length-append xs ys))

-- how a piece goes on after the bytes AA
pub skips_begun : (X Z : List ℕ) (leads size : ℕ) → leads ≡ leading X → size ≡ length (after_preamble X) → ¬ (size ≡ 0)
    → (leads ≡ leading (X ++ Z)) × (after_preamble (X ++ Z) ≡ after_preamble X ++ Z)
skips_begun X Z leads size e s n =
    let some : after_preamble X ≢ [] = λ z. n (s ∙ ap length z) in
    (e ∙ sym (begun_leading X Z some), begun_after X Z some)

pub skips_alone : (X Z rest : List ℕ) (leads size count : ℕ) → leads ≡ leading X → size ≡ length (after_preamble X) → size ≡ 0
    → count ≡ leading Z → rest ≡ drop count Z
    → (leads + count ≡ leading (X ++ Z)) × (after_preamble (X ++ Z) ≡ after_preamble X ++ rest)
skips_alone X Z rest leads size count e s z c r =
    let none : after_preamble X ≡ [] = nil_from_length (after_preamble X) (sym s ∙ z) in (
      let l = alone_leading X Z none in omega arith,
      alone_after X Z none ∙ ap (λ (l : List ℕ). after_preamble X ++ l) (sym (r ∙ ap (λ (n : ℕ). drop n Z) c)),
    )

module _ (d : Decoder) (X : List ℕ) (s : HasTakenIn d X) where
  pub body_size : size_of d.body.place d.body.partial ≡ length (after_preamble X)
  body_size = size_is d.body (after_preamble X) s.words

  pub full_size : d.leading + size_of d.body.place d.body.partial ≡ length X
  full_size = let b = body_size in let e = s.preamble in let c = count_is X [] in omega arith

  pub short_end : d.leading < 72 → HasFaultOfEnd X fault.ShortPreamble
  short_end h =
      elim (nil_or (after_preamble X)) [
        | inl e ↦ HasFaultOfEnd.short (let p = s.preamble in omega arith) e
        | inr n ↦ absurd (let p = s.preamble in let q = s.past n in omega arith)
      ]

  pub no_batch_end : 72 ≤ d.leading → size_of d.body.place d.body.partial ≡ 0 → HasFaultOfEnd X fault.NoBatch
  no_batch_end h z = HasFaultOfEnd.no_batch (let p = s.preamble in omega arith) (nil_from_length (after_preamble X) (sym body_size ∙ z))

  pub cut_end : 72 ≤ d.leading → ¬ (size_of d.body.place d.body.partial % 68 ≡ 0) → HasFaultOfEnd X fault.Truncated
  cut_end h n = HasFaultOfEnd.cut (let p = s.preamble in omega arith) s.words.read.good (λ z. n (ap (λ (x : ℕ). x % 68) body_size ∙ z))

  pub ended_whole : 72 ≤ d.leading → 0 < size_of d.body.place d.body.partial → size_of d.body.place d.body.partial % 68 ≡ 0 → IsWhole X
  ended_whole long some whole =
      let size = body_size in
      record {
        small = s.bytes;
        long = let p = s.preamble in omega arith;
        some = omega arith;
        good = s.words.read.good;
        batches = omega arith;
      }

  -- one piece more
  module _ (new : Decoder) (Z rest : List ℕ) (few : length X + length Z < 2 ^ 64)
      (after : after_preamble (X ++ Z) ≡ after_preamble X ++ rest) (leads : new.leading ≡ leading (X ++ Z)) where
    fed : new.has_failed ≡ d.has_failed → All (λ b. b < 256) Z → (after_preamble (X ++ Z) ≢ [] → 72 ≤ new.leading)
        → HoldsOf new.body (after_preamble X ++ rest) → HasTakenIn new (X ++ Z)
    fed works bytes past stands = record {
      works = works ∙ s.works;
      bytes = All-append (λ b. b < 256) X Z s.bytes bytes;
      few = let l = length-append X Z in omega arith;
      preamble = leads;
      past = λ n. let p = past n in omega arith;
      words = rw after stands;
    }

    -- nothing but bytes AA came
    pub fed_preamble : new.has_failed ≡ d.has_failed → All (λ b. b < 256) Z → d.leading ≤ new.leading → new.body ≡ d.body → rest ≡ []
        → HasTakenIn new (X ++ Z)
    fed_preamble works bytes more same e =
        let same_after : after_preamble X ++ rest ≡ after_preamble X =
        ap (λ (l : List ℕ). after_preamble X ++ l) e ∙ append-nil (after_preamble X) in
        fed works bytes
        (λ n. let p = s.past (λ z. n (after ∙ (same_after ∙ z))) in let q = s.preamble in omega arith)
        (rw (same_after, same) s.words)

    pub fed_body : new.has_failed ≡ d.has_failed → All (λ b. b < 256) Z → 72 ≤ new.leading → HoldsOf new.body (after_preamble X ++ rest)
        → HasTakenIn new (X ++ Z)
    fed_body works bytes long stands = fed works bytes (λ n. long) stands

    pub refused_short : new.leading < 72 → rest ≢ [] → RefusesPiece X Z fault.ShortPreamble
    refused_short h n =
        fault_there few (HasFaultThere.short (omega arith) (λ z. n (append_nil_right (after_preamble X) rest (sym after ∙ z))))

    pub refused_body : (f : DecodeFault) → 72 ≤ new.leading
        → IsWantingOrBad (length (words_of (after_preamble X))) (words_of (after_preamble X ++ rest)) f → RefusesPiece X Z f
    refused_body f h (inl w) =
        let kept : KeepsFrom (words (X ++ Z)) (length (words X)) = rw after w.1 in
        subst (RefusesPiece X Z) (sym w.0) (no_memory few (omega arith) kept)
    refused_body f h (inr b) = fault_there few (HasFaultThere.bad (omega arith) (rw after b))
