-- Twenty characters of seven bits are seven items of twenty bits: five groups of four characters.
use Rattle.pocsag_text.proofs.Prelude.{◌≡◌, ℕ, ◌+◌, ◌*◌, ◌/◌, ◌%◌, ◌^◌, ◌<◌, ◌≤◌, List, [], ◌∷◌, ◌++◌, length, get_or, take, drop, All, refl, sym, ap, ◌∙◌, arith, flat_map, field_of, append_assoc, append-nil, drop-drop, take-append-drop, flat_map-append, All-append, All-cons, All-get_or, All-nil, low_first, high_first, item_bits}
use Rattle.std.proofs.Math.Seq.{take-add}
use Rattle.pocsag_text.proofs.BitLists.{high_first-join, high_first-split}

-- the bits of four codes
pub four_codes_bits : (k l m n : ℕ) → l < 128 → m < 128 → n < 128 →
    high_first 28 (((k * 128 + l) * 128 + m) * 128 + n) ≡ high_first 7 k ++ (high_first 7 l ++ (high_first 7 m ++ high_first 7 n))
four_codes_bits k l m n hl hm hn =
    high_first-join 21 7 ((k * 128 + l) * 128 + m) n hn
    ∙ ap (λ bits. bits ++ high_first 7 n)
    (high_first-join 14 7 (k * 128 + l) m hm ∙ ap (λ bits. bits ++ high_first 7 m) (high_first-join 7 7 k l hl))
    ∙ simp append_assoc

regrouped : (p q r s t u v w x y z : List ℕ) →
    p ++ ((q ++ r) ++ ((s ++ t) ++ (u ++ ((v ++ w) ++ ((x ++ y) ++ (z ++ []))))))
    ≡ (p ++ q) ++ ((r ++ s) ++ ((t ++ (u ++ v)) ++ ((w ++ x) ++ (y ++ z))))
regrouped p q r s t u v w x y z = simp (append_assoc, append-nil)

-- the group in the middle, which is cut in three
middle_group : (c : ℕ) →
    high_first 28 c ≡ high_first 4 (c / 16777216) ++ (high_first 20 (c / 16 % 1048576) ++ high_first 4 (c % 16))
middle_group c =
    let hi : c % 16777216 / 16 ≡ c / 16 % 1048576 = field_of c 20 4 in
    let lo : c % 16777216 % 16 ≡ c % 16 = omega arith in
    high_first-split 4 24 c
    ∙ ap (λ bits. high_first 4 (c / 16777216) ++ bits)
    (high_first-split 20 4 (c % 16777216) ∙ ap (λ n. high_first 20 n ++ high_first 4 (c % 16777216 % 16)) hi
    ∙ ap (λ n. high_first 20 (c / 16 % 1048576) ++ high_first 4 n) lo)

-- the items of five groups of 28 bits
pub seven_items_bits : (a b c d e : ℕ) → b < 2 ^ 28 → c < 2 ^ 28 → d < 2 ^ 28 → e < 2 ^ 28 →
    item_bits (a / 256 ∷ (a % 256 * 4096 + b / 65536) ∷ (b % 65536 * 16 + c / 16777216) ∷ (c / 16 % 1048576)
    ∷ (c % 16 * 65536 + d / 4096) ∷ (d % 4096 * 256 + e / 1048576) ∷ (e % 1048576) ∷ [])
    ≡ high_first 28 a ++ (high_first 28 b ++ (high_first 28 c ++ (high_first 28 d ++ high_first 28 e)))
seven_items_bits a b c d e hb hc hd he =
    let lb : b / 65536 < 4096 = omega arith in
    let lc : c / 16777216 < 16 = omega arith in
    let ld : d / 4096 < 65536 = omega arith in
    let le : e / 1048576 < 256 = omega arith in
    let sa : high_first 28 a ≡ high_first 20 (a / 256) ++ high_first 8 (a % 256) = high_first-split 20 8 a in
    let sb : high_first 28 b ≡ high_first 12 (b / 65536) ++ high_first 16 (b % 65536) = high_first-split 12 16 b in
    let sd : high_first 28 d ≡ high_first 16 (d / 4096) ++ high_first 12 (d % 4096) = high_first-split 16 12 d in
    let se : high_first 28 e ≡ high_first 8 (e / 1048576) ++ high_first 20 (e % 1048576) = high_first-split 8 20 e in
    let jb : high_first 20 (a % 256 * 4096 + b / 65536) ≡ high_first 8 (a % 256) ++ high_first 12 (b / 65536) =
    high_first-join 8 12 (a % 256) (b / 65536) lb in
    let jc : high_first 20 (b % 65536 * 16 + c / 16777216) ≡ high_first 16 (b % 65536) ++ high_first 4 (c / 16777216) =
    high_first-join 16 4 (b % 65536) (c / 16777216) lc in
    let jd : high_first 20 (c % 16 * 65536 + d / 4096) ≡ high_first 4 (c % 16) ++ high_first 16 (d / 4096) =
    high_first-join 4 16 (c % 16) (d / 4096) ld in
    let je : high_first 20 (d % 4096 * 256 + e / 1048576) ≡ high_first 12 (d % 4096) ++ high_first 8 (e / 1048576) =
    high_first-join 12 8 (d % 4096) (e / 1048576) le in
    rw (sa, sb, middle_group c, sd, se, jb, jc, jd, je)
    (regrouped (high_first 20 (a / 256)) (high_first 8 (a % 256)) (high_first 12 (b / 65536)) (high_first 16 (b % 65536))
    (high_first 4 (c / 16777216)) (high_first 20 (c / 16 % 1048576)) (high_first 4 (c % 16)) (high_first 16 (d / 4096))
    (high_first 12 (d % 4096)) (high_first 8 (e / 1048576)) (high_first 20 (e % 1048576)))

seven_small : (p q r s t u v : ℕ) → p < 2 ^ 20 → q < 2 ^ 20 → r < 2 ^ 20 → s < 2 ^ 20 → t < 2 ^ 20 → u < 2 ^ 20 → v < 2 ^ 20 →
    All (λ item. item < 2 ^ 20) (p ∷ q ∷ r ∷ s ∷ t ∷ u ∷ v ∷ [])
seven_small p q r s t u v hp hq hr hs ht hu hv =
    let P = λ (item : ℕ). item < 2 ^ 20 in
    All-cons P p (q ∷ r ∷ s ∷ t ∷ u ∷ v ∷ []) hp
    (All-cons P q (r ∷ s ∷ t ∷ u ∷ v ∷ []) hq
    (All-cons P r (s ∷ t ∷ u ∷ v ∷ []) hr
    (All-cons P s (t ∷ u ∷ v ∷ []) hs
    (All-cons P t (u ∷ v ∷ []) ht (All-cons P u (v ∷ []) hu (All-cons P v [] hv (All-nil P)))))))

pub seven_items_small : (a b c d e : ℕ) → a < 2 ^ 28 → b < 2 ^ 28 → c < 2 ^ 28 → d < 2 ^ 28 → e < 2 ^ 28 →
    All (λ item. item < 2 ^ 20)
    (a / 256 ∷ (a % 256 * 4096 + b / 65536) ∷ (b % 65536 * 16 + c / 16777216) ∷ (c / 16 % 1048576)
    ∷ (c % 16 * 65536 + d / 4096) ∷ (d % 4096 * 256 + e / 1048576) ∷ (e % 1048576) ∷ [])
seven_items_small a b c d e ha hb hc hd he =
    seven_small (a / 256) (a % 256 * 4096 + b / 65536) (b % 65536 * 16 + c / 16777216) (c / 16 % 1048576)
    (c % 16 * 65536 + d / 4096) (d % 4096 * 256 + e / 1048576) (e % 1048576)
    (omega arith) (omega arith) (omega arith) (omega arith) (omega arith) (omega arith) (omega arith)

-- the groups of seven items
pub five_groups_bits : (p q r s t u v : ℕ) → p < 2 ^ 20 → q < 2 ^ 20 → r < 2 ^ 20 → s < 2 ^ 20 → t < 2 ^ 20 → u < 2 ^ 20 → v < 2 ^ 20 →
    high_first 28 (p * 256 + q / 4096) ++ (high_first 28 (q % 4096 * 65536 + r / 16)
    ++ (high_first 28 (r % 16 * 16777216 + s * 16 + t / 65536)
    ++ (high_first 28 (t % 65536 * 4096 + u / 256) ++ high_first 28 (u % 256 * 1048576 + v))))
    ≡ item_bits (p ∷ q ∷ r ∷ s ∷ t ∷ u ∷ v ∷ [])
five_groups_bits p q r s t u v hp hq hr hs ht hu hv =
    let a = p * 256 + q / 4096 in
    let b = q % 4096 * 65536 + r / 16 in
    let c = r % 16 * 16777216 + s * 16 + t / 65536 in
    let d = t % 65536 * 4096 + u / 256 in
    let e = u % 256 * 1048576 + v in
    let i0 : a / 256 ≡ p = omega arith in
    let i1 : a % 256 * 4096 + b / 65536 ≡ q = omega arith in
    let i2 : b % 65536 * 16 + c / 16777216 ≡ r = omega arith in
    let i3 : c / 16 % 1048576 ≡ s = omega arith in
    let i4 : c % 16 * 65536 + d / 4096 ≡ t = omega arith in
    let i5 : d % 4096 * 256 + e / 1048576 ≡ u = omega arith in
    let i6 : e % 1048576 ≡ v = omega arith in
    let lb : b < 2 ^ 28 = omega arith in
    let lc : c < 2 ^ 28 = omega arith in
    let ld : d < 2 ^ 28 = omega arith in
    let le : e < 2 ^ 28 = omega arith in
    sym (seven_items_bits a b c d e lb lc ld le) ∙ rw (i0, i1, i2, i3, i4, i5, i6) refl

-- the first twenty characters, four at a time
pub twenty_by_four : (text : List ℕ) →
    flat_map (low_first 7) (take 20 text)
    ≡ flat_map (low_first 7) (take 4 text) ++ (flat_map (low_first 7) (take 4 (drop 4 text))
    ++ (flat_map (low_first 7) (take 4 (drop 8 text)) ++ (flat_map (low_first 7) (take 4 (drop 12 text))
    ++ flat_map (low_first 7) (take 4 (drop 16 text)))))
twenty_by_four text =
    more 16 text
    ∙ ap (λ bits. first 0 ++ bits) (more 12 (drop 4 text) ∙ at 12 4
    ∙ ap (λ bits. first 4 ++ bits) (more 8 (drop 8 text) ∙ at 8 8
    ∙ ap (λ bits. first 8 ++ bits) (more 4 (drop 12 text) ∙ at 4 12)))
  where
    first : ℕ → List ℕ
    first k = flat_map (low_first 7) (take 4 (drop k text))

    more : (n : ℕ) (rest : List ℕ) →
        flat_map (low_first 7) (take (4 + n) rest)
        ≡ flat_map (low_first 7) (take 4 rest) ++ flat_map (low_first 7) (take n (drop 4 rest))
    more n rest =
        ap (flat_map (low_first 7)) (take-add 4 n rest) ∙ flat_map-append (low_first 7) (take 4 rest) (take n (drop 4 rest))

    at : (n k : ℕ) →
        flat_map (low_first 7) (take 4 (drop k text)) ++ flat_map (low_first 7) (take n (drop 4 (drop k text)))
        ≡ flat_map (low_first 7) (take 4 (drop k text)) ++ flat_map (low_first 7) (take n (drop (k + 4) text))
    at n k = ap (λ rest. flat_map (low_first 7) (take 4 (drop k text)) ++ flat_map (low_first 7) (take n rest)) (drop-drop 4 k text)

first_four_characters : (text : List ℕ) → 4 ≤ length text →
    take 4 text ≡ get_or text 0 0 ∷ get_or text 1 0 ∷ get_or text 2 0 ∷ get_or text 3 0 ∷ []
first_four_characters [] h = absurd (omega arith)
first_four_characters (a ∷ []) h = absurd (omega arith)
first_four_characters (a ∷ b ∷ []) h = absurd (omega arith)
first_four_characters (a ∷ b ∷ c ∷ []) h = absurd (omega arith)
first_four_characters (a ∷ b ∷ c ∷ d ∷ text) h = refl

-- the bits of the first four characters, whose mirrored codes are put together
pub group_of_four : (text : List ℕ) (k l m n : ℕ) → 4 ≤ length text → l < 128 → m < 128 → n < 128 →
    high_first 7 k ≡ low_first 7 (get_or text 0 0) → high_first 7 l ≡ low_first 7 (get_or text 1 0) →
    high_first 7 m ≡ low_first 7 (get_or text 2 0) → high_first 7 n ≡ low_first 7 (get_or text 3 0) →
    high_first 28 (((k * 128 + l) * 128 + m) * 128 + n) ≡ flat_map (low_first 7) (take 4 text)
group_of_four text k l m n long hl hm hn ek el em en =
    four_codes_bits k l m n hl hm hn ∙ rw (ek, el, em, en, first_four_characters text long) (simp append-nil)

-- the four codes of a group, which are mirrored
pub four_of_group : (bits k l m n : ℕ) →
    low_first 7 k ≡ high_first 7 (bits / 2097152) → low_first 7 l ≡ high_first 7 (bits / 16384 % 128) →
    low_first 7 m ≡ high_first 7 (bits / 128 % 128) → low_first 7 n ≡ high_first 7 (bits % 128) →
    flat_map (low_first 7) (k ∷ l ∷ m ∷ n ∷ []) ≡ high_first 28 bits
four_of_group bits k l m n ek el em en =
    let whole : ((bits / 2097152 * 128 + bits / 16384 % 128) * 128 + bits / 128 % 128) * 128 + bits % 128 ≡ bits = omega arith in
    let four : high_first 28 bits
    ≡ high_first 7 (bits / 2097152) ++ (high_first 7 (bits / 16384 % 128) ++ (high_first 7 (bits / 128 % 128) ++ high_first 7 (bits % 128))) =
    rw whole at (four_codes_bits (bits / 2097152) (bits / 16384 % 128) (bits / 128 % 128) (bits % 128) (omega arith) (omega arith) (omega arith)) in
    rw (four, ek, el, em, en) (simp append-nil)

first_seven_items : (items : List ℕ) → 7 ≤ length items →
    take 7 items ≡ get_or items 0 0 ∷ get_or items 1 0 ∷ get_or items 2 0 ∷ get_or items 3 0 ∷ get_or items 4 0 ∷ get_or items 5 0
    ∷ get_or items 6 0 ∷ []
first_seven_items [] h = absurd (omega arith)
first_seven_items (a ∷ []) h = absurd (omega arith)
first_seven_items (a ∷ b ∷ []) h = absurd (omega arith)
first_seven_items (a ∷ b ∷ c ∷ []) h = absurd (omega arith)
first_seven_items (a ∷ b ∷ c ∷ d ∷ []) h = absurd (omega arith)
first_seven_items (a ∷ b ∷ c ∷ d ∷ e ∷ []) h = absurd (omega arith)
first_seven_items (a ∷ b ∷ c ∷ d ∷ e ∷ f ∷ []) h = absurd (omega arith)
first_seven_items (a ∷ b ∷ c ∷ d ∷ e ∷ f ∷ g ∷ items) h = refl

-- the codes of the groups of the first seven items
pub seven_taken : (items p q r s t : List ℕ) → 7 ≤ length items → All (λ item. item < 2 ^ 20) items →
    flat_map (low_first 7) p ≡ high_first 28 (get_or items 0 0 * 256 + get_or items 1 0 / 4096) →
    flat_map (low_first 7) q ≡ high_first 28 (get_or items 1 0 % 4096 * 65536 + get_or items 2 0 / 16) →
    flat_map (low_first 7) r ≡ high_first 28 (get_or items 2 0 % 16 * 16777216 + get_or items 3 0 * 16 + get_or items 4 0 / 65536) →
    flat_map (low_first 7) s ≡ high_first 28 (get_or items 4 0 % 65536 * 4096 + get_or items 5 0 / 256) →
    flat_map (low_first 7) t ≡ high_first 28 (get_or items 5 0 % 256 * 1048576 + get_or items 6 0) →
    flat_map (low_first 7) (p ++ (q ++ (r ++ (s ++ (t ++ []))))) ≡ item_bits (take 7 items)
seven_taken items p q r s t long small ep eq er es et =
    let at = λ (k : ℕ) (h : k < 7). All-get_or (λ item. item < 2 ^ 20) items k 0 (omega arith) small in
    let five = five_groups_bits (get_or items 0 0) (get_or items 1 0) (get_or items 2 0) (get_or items 3 0) (get_or items 4 0)
    (get_or items 5 0) (get_or items 6 0) (at 0 (omega arith)) (at 1 (omega arith)) (at 2 (omega arith)) (at 3 (omega arith)) (at 4 (omega arith))
    (at 5 (omega arith)) (at 6 (omega arith)) in
    simp (flat_map-append, append-nil) (rw (ep, eq, er, es, et) (five ∙ ap item_bits (sym (first_seven_items items long))))

pub four_small : (a b c d : ℕ) → a < 128 → b < 128 → c < 128 → d < 128 → All (λ code. code < 128) (a ∷ b ∷ c ∷ d ∷ [])
four_small a b c d ha hb hc hd =
    let P = λ (code : ℕ). code < 128 in
    All-cons P a (b ∷ c ∷ d ∷ []) ha (All-cons P b (c ∷ d ∷ []) hb (All-cons P c (d ∷ []) hc (All-cons P d [] hd (All-nil P))))

pub five_groups_small : (p q r s t : List ℕ) → All (λ code. code < 128) p → All (λ code. code < 128) q → All (λ code. code < 128) r →
    All (λ code. code < 128) s → All (λ code. code < 128) t → All (λ code. code < 128) (p ++ (q ++ (r ++ (s ++ (t ++ [])))))
five_groups_small p q r s t hp hq hr hs ht =
    let P = λ (code : ℕ). code < 128 in
    All-append P p (q ++ (r ++ (s ++ (t ++ [])))) hp
    (All-append P q (r ++ (s ++ (t ++ []))) hq
    (All-append P r (s ++ (t ++ [])) hr (All-append P s (t ++ []) hs (All-append P t [] ht (All-nil P)))))

-- some from the front of what is left are put behind what was taken
pub front_moved : (f : ℕ → List ℕ) (before after whole rest : List ℕ) (n : ℕ) → after ≡ before ++ flat_map f (take n rest) →
    before ++ flat_map f rest ≡ whole → after ++ flat_map f (drop n rest) ≡ whole
front_moved f before after whole rest n more so_far =
    ap (λ bits. bits ++ flat_map f (drop n rest)) more
    ∙ append_assoc before (flat_map f (take n rest)) (flat_map f (drop n rest))
    ∙ ap (λ bits. before ++ bits) (sym (flat_map-append f (take n rest) (drop n rest)) ∙ ap (flat_map f) (take-append-drop n rest))
    ∙ so_far
