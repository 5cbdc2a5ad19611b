-- What the unpacker's steps do to its bits.
use Rattle.pocsag_text.proofs.Prelude.{◌≡◌, ℕ, ◌+◌, ◌-◌, ◌*◌, ◌/◌, ◌%◌, ◌^◌, ◌<◌, ◌≤◌, List, [], ◌∷◌, ◌++◌, length, All, refl, sym, ap, ◌∙◌, arith, flat_map, shr_below, mod_below, pow_pos, div-mul-add, mul_comm, append_assoc, append-nil, length-append, flat_map-append, All-push, All-weaker, low_first, high_first, low_number, codes_of, unpacked_bits, IsUnpacked}
use Rattle.pocsag_text.proofs.BitLists.{high_first-join, high_first-split, length-low_first, length-high_first, code-back}
use Rattle.pocsag_text.proofs.Cuts.{cut-flat_map, length-flat_map-wide}
use Rattle.pocsag_text.proofs.Packs.{held_with-lt}

-- the codes that are taken so far, and the bits that are left, stand for the bits
pub record IsTaking (width : ℕ) (codes : List ℕ) (count held : ℕ) (bits : List ℕ) : Type 0 where
  pub narrow : width ≤ 8
  pub wide : 0 < width
  pub small : All (λ code. code < 2 ^ width) codes
  pub few : count < width + 20
  pub fits : held < 2 ^ count
  pub same : unpacked_bits width codes count held ≡ bits

-- an item behind the bits that wait
pub IsTaking-start : (width : ℕ) (codes : List ℕ) (count held item : ℕ) → IsUnpacked width codes count held → item < 2 ^ 20 →
    IsTaking width codes (count + 20) (held * 2 ^ 20 + item) (unpacked_bits width codes count held ++ high_first 20 item)
unfolding unpacked_bits
IsTaking-start width codes count held item h lt = record {
  narrow = h.narrow;
  wide = let few : count < width = h.few in omega arith;
  small = h.small;
  few = let few : count < width = h.few in omega arith;
  fits = held_with-lt count held 20 item h.fits lt;
  same =
      ap (λ bits. flat_map (low_first width) codes ++ bits) (high_first-join count 20 held item lt)
      ∙ sym (append_assoc (flat_map (low_first width) codes) (high_first count held) (high_first 20 item));
}

-- a code is taken from the front of the bits that are left
pub IsTaking-more : (width : ℕ) (codes : List ℕ) (count held code : ℕ) (bits : List ℕ) → IsTaking width codes count held bits →
    width ≤ count → code < 2 ^ width → low_first width code ≡ high_first width (held / 2 ^ (count - width)) →
    IsTaking width (codes ++ code ∷ []) (count - width) (held % 2 ^ (count - width)) bits
unfolding unpacked_bits
IsTaking-more width codes count held code bits h enough lt is = record {
  narrow = h.narrow;
  wide = h.wide;
  small = All-push (λ c. c < 2 ^ width) codes code h.small lt;
  few = let few : count < width + 20 = h.few in omega arith;
  fits = mod_below held (2 ^ (count - width)) (pow_pos (count - width));
  same = joined ∙ h.same;
}
  where
    whole : width + (count - width) ≡ count
    whole = omega arith

    one :
        flat_map (low_first width) (codes ++ code ∷ [])
        ≡ flat_map (low_first width) codes ++ high_first width (held / 2 ^ (count - width))
    one =
        flat_map-append (low_first width) codes (code ∷ [])
        ∙ ap (λ x. flat_map (low_first width) codes ++ x) (append-nil (low_first width code) ∙ is)

    split : high_first width (held / 2 ^ (count - width)) ++ high_first (count - width) (held % 2 ^ (count - width)) ≡ high_first count held
    split = sym (high_first-split width (count - width) held) ∙ ap (λ n. high_first n held) whole

    joined :
        flat_map (low_first width) (codes ++ code ∷ []) ++ high_first (count - width) (held % 2 ^ (count - width))
        ≡ flat_map (low_first width) codes ++ high_first count held
    joined =
        ap (λ x. x ++ high_first (count - width) (held % 2 ^ (count - width))) one
        ∙ append_assoc (flat_map (low_first width) codes) (high_first width (held / 2 ^ (count - width)))
        (high_first (count - width) (held % 2 ^ (count - width))) ∙ ap (λ x. flat_map (low_first width) codes ++ x) split

-- the bits of the next code
pub next-lt : (width : ℕ) (codes : List ℕ) (count held : ℕ) (bits : List ℕ) → IsTaking width codes count held bits → width ≤ count →
    held / 2 ^ (count - width) < 2 ^ width
next-lt width codes count held bits h enough =
    let whole : width + (count - width) ≡ count = omega arith in
    let below : held < 2 ^ (width + (count - width)) = rw whole h.fits in
    shr_below held width (count - width) below

-- the codes are the bits cut in pieces
pub codes-unpacked_bits : (width : ℕ) (codes : List ℕ) (count held : ℕ) → IsUnpacked width codes count held →
    codes ≡ codes_of width (unpacked_bits width codes count held)
unfolding unpacked_bits codes_of
codes-unpacked_bits width codes count held h =
    rw number (sym (cut-flat_map width low_number (low_first width) codes (high_first count held) (length-low_first width) back))
  where
    len : length (flat_map (low_first width) codes ++ high_first count held) ≡ width * length codes + count
    len =
        length-append (flat_map (low_first width) codes) (high_first count held)
        ∙ (rw (length-flat_map-wide width (low_first width) codes (length-low_first width), length-high_first count held) refl)

    turned : width * length codes + count ≡ length codes * width + count
    turned = omega (arith, mul_comm width (length codes))

    number : length (flat_map (low_first width) codes ++ high_first count held) / width ≡ length codes
    number = ap (λ n. n / width) (len ∙ turned) ∙ div-mul-add (length codes) width count h.few

    back : All (λ x. low_number (low_first width x) ≡ x) codes
    back = All-weaker (λ x. x < 2 ^ width) (λ x. low_number (low_first width x) ≡ x) (code-back width) codes h.small
