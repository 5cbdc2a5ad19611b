-- What the packer's steps do to its bits.
use Rattle.pocsag_text.proofs.Prelude.{◌≡◌, ℕ, ◌+◌, ◌-◌, ◌*◌, ◌/◌, ◌%◌, ◌^◌, ◌<◌, ◌≤◌, List, [], ◌∷◌, ◌++◌, length, replicate, All, bit_or, bit_and, refl, sym, ap, ◌∙◌, arith, mul_comm, flat_map, pow-add, or_shifted, shl_whole, one_shl, and_mask, mul-add-lt, shr_below, mod_below, pow_pos, append_assoc, append-nil, length-append, flat_map_more, replicate_more, flat_map-append, All-push, All-weaker, high_first, high_number, item_bits, packed_bits, IsPacked, twenties}
use Rattle.pocsag_text.proofs.BitLists.{high_first-join, high_first-split, length-high_first, high_number-high_first}
use Rattle.pocsag_text.proofs.Cuts.{cut-flat_map, length-flat_map-wide}

-- the bits that wait, and a code behind them
pub held_with : (count held width low : ℕ) → count + width ≤ 32 → held < 2 ^ count → low < 2 ^ width →
    bit_or (held * 2 ^ width % 4294967296) low ≡ held * 2 ^ width + low
held_with count held width low few fits lt =
    ap (λ h. bit_or h low) (shl_whole held count width 32 fits few) ∙ or_shifted held width low lt

pub held_with-lt : (count held width low : ℕ) → held < 2 ^ count → low < 2 ^ width → held * 2 ^ width + low < 2 ^ (count + width)
held_with-lt count held width low fits lt =
    let p : 2 ^ (count + width) ≡ 2 ^ width * 2 ^ count = pow-add 2 count width ∙ mul_comm (2 ^ count) (2 ^ width) in
    rw p (mul-add-lt held (2 ^ width) low (2 ^ count) fits lt)

-- the lowest bits alone
pub lowest : (n rest : ℕ) → rest < 20 → bit_and n (1 * 2 ^ rest % 4294967296 - 1) ≡ n % 2 ^ rest
lowest n rest few =
    ap (λ p. bit_and n (p - 1)) (one_shl rest 32 (omega arith)) ∙ and_mask n rest

pub packed_bits-more : (items : List ℕ) (count held width low : ℕ) → low < 2 ^ width →
    packed_bits items (count + width) (held * 2 ^ width + low) ≡ packed_bits items count held ++ high_first width low
unfolding packed_bits
packed_bits-more items count held width low lt =
    ap (λ bits. item_bits items ++ bits) (high_first-join count width held low lt)
    ∙ sym (append_assoc (item_bits items) (high_first count held) (high_first width low))

pub packed_bits-push : (items : List ℕ) (rest h : ℕ) →
    packed_bits (items ++ h / 2 ^ rest ∷ []) rest (h % 2 ^ rest) ≡ packed_bits items (20 + rest) h
unfolding packed_bits
packed_bits-push items rest h =
    let one : item_bits (items ++ h / 2 ^ rest ∷ []) ≡ item_bits items ++ high_first 20 (h / 2 ^ rest) =
    flat_map-append (high_first 20) items (h / 2 ^ rest ∷ [])
    ∙ ap (λ bits. item_bits items ++ bits) (append-nil (high_first 20 (h / 2 ^ rest))) in
    ap (λ bits. bits ++ high_first rest (h % 2 ^ rest)) one
    ∙ append_assoc (item_bits items) (high_first 20 (h / 2 ^ rest)) (high_first rest (h % 2 ^ rest))
    ∙ ap (λ bits. item_bits items ++ bits) (sym (high_first-split 20 rest h))

pub IsPacked-more : (items : List ℕ) (count held width low : ℕ) → IsPacked items count held → low < 2 ^ width → count + width < 20 →
    IsPacked items (count + width) (held * 2 ^ width + low)
IsPacked-more items count held width low h lt few = record {
  small = h.small;
  few = few;
  fits = held_with-lt count held width low h.fits lt;
}

pub IsPacked-push : (items : List ℕ) (rest h : ℕ) → All (λ item. item < 2 ^ 20) items → h < 2 ^ (20 + rest) → rest < 20 →
    IsPacked (items ++ h / 2 ^ rest ∷ []) rest (h % 2 ^ rest)
IsPacked-push items rest h small lt few = record {
  small = All-push (λ item. item < 2 ^ 20) items (h / 2 ^ rest) small (shr_below h 20 rest lt);
  few = few;
  fits = mod_below h (2 ^ rest) (pow_pos rest);
}

-- the items are the bits cut in twenties where no bits wait
pub twenties-packed_bits : (items : List ℕ) (count held : ℕ) → IsPacked items count held →
    length (packed_bits items count held) % 20 ≡ 0 → items ≡ twenties (packed_bits items count held)
unfolding packed_bits
twenties-packed_bits items count held h whole =
    let wide : (x : ℕ) → length (high_first 20 x) ≡ 20 = length-high_first 20 in
    let l : length (item_bits items ++ high_first count held) ≡ 20 * length items + count =
    length-append (item_bits items) (high_first count held)
    ∙ (rw (length-flat_map-wide 20 (high_first 20) items wide, length-high_first count held) refl) in
    let few : count < 20 = h.few in
    let n : length (item_bits items ++ high_first count held) / 20 ≡ length items = omega arith in
    let back : All (λ x. high_number 0 (high_first 20 x) ≡ x) items =
    All-weaker (λ x. x < 2 ^ 20) (λ x. high_number 0 (high_first 20 x) ≡ x) item-back items h.small in
    rw n (sym (cut-flat_map 20 (high_number 0) (high_first 20) items (high_first count held) wide back))
  where
    item-back : (x : ℕ) → x < 2 ^ 20 → high_number 0 (high_first 20 x) ≡ x
    item-back x lt = high_number-high_first 0 20 x ∙ omega arith

-- one code more of many
pub times_more : (f : ℕ → List ℕ) (before now after : List ℕ) (n code : ℕ) → now ≡ before ++ flat_map f (replicate n code) →
    after ≡ now ++ f code → after ≡ before ++ flat_map f (replicate (n + 1) code)
times_more f before now after n code was is =
    is ∙ ap (λ bits. bits ++ f code) was ∙ flat_map_more f before (replicate n code) code
    ∙ ap (λ codes. before ++ flat_map f codes) (replicate_more n code)
