-- Lists that are cut in pieces, and joined of them.
use Rattle.pocsag_text.proofs.Prelude.{◌≡◌, ℕ, zero, suc, ◌+◌, ◌*◌, ◌<◌, ◌≤◌, List, [], ◌∷◌, ◌++◌, length, take, drop, All, refl, sym, ap, arith, zero-add, flat_map, append_assoc, length-append, length-drop, length-take-le, take-append-le, drop-append-le, take-append-drop, take_at, drop_at, nil_from_length, All-head, All-tail, All-take, All-drop, cut}
use Rattle.pocsag_text.proofs.BitLists.{AreBits}

pub length-cut : (width : ℕ) (read : List ℕ → ℕ) (n : ℕ) (bits : List ℕ) → length (cut width read n bits) ≡ n
unfolding cut
length-cut width read zero bits = refl
length-cut width read (suc n) bits = ap suc (length-cut width read n (drop width bits))

-- a list that is cut in two parts
pub cut-append : (width : ℕ) (read : List ℕ → ℕ) (m n : ℕ) (xs ys : List ℕ) → length xs ≡ width * m →
    cut width read (m + n) (xs ++ ys) ≡ cut width read m xs ++ cut width read n ys
unfolding cut
cut-append width read zero n xs ys h =
    let e : xs ≡ [] = nil_from_length xs (omega arith) in
    rw (zero-add, e) refl
cut-append width read (suc m) n xs ys h =
    let k : suc m + n ≡ suc (m + n) = omega arith in
    let p : length xs ≡ width * m + width = grind arith in
    let le : width ≤ length xs = omega arith in
    let t : take width (xs ++ ys) ≡ take width xs = take-append-le width xs ys le in
    let d : drop width (xs ++ ys) ≡ drop width xs ++ ys = drop-append-le width xs ys le in
    let l : length (drop width xs) ≡ width * m = omega (arith, length-drop width xs) in
    rw (k, t, d) (ap (λ rest. read (take width xs) ∷ rest) (cut-append width read m n (drop width xs) ys l))

-- what was written in pieces is read again
pub cut-flat_map : (width : ℕ) (read : List ℕ → ℕ) (write : ℕ → List ℕ) (xs rest : List ℕ) → ((x : ℕ) → length (write x) ≡ width) →
    All (λ x. read (write x) ≡ x) xs → cut width read (length xs) (flat_map write xs ++ rest) ≡ xs
unfolding cut
cut-flat_map width read write [] rest wide h = refl
cut-flat_map width read write (x ∷ xs) rest wide h =
    let a : (write x ++ flat_map write xs) ++ rest ≡ write x ++ (flat_map write xs ++ rest) =
    append_assoc (write x) (flat_map write xs) rest in
    let t : take width (write x ++ (flat_map write xs ++ rest)) ≡ write x = take_at (write x) (flat_map write xs ++ rest) width (wide x) in
    let d : drop width (write x ++ (flat_map write xs ++ rest)) ≡ flat_map write xs ++ rest =
    drop_at (write x) (flat_map write xs ++ rest) width (wide x) in
    let r : read (write x) ≡ x = All-head (λ y. read (write y) ≡ y) x xs h in
    rw (a, t, d, r) (ap (λ ys. x ∷ ys) (cut-flat_map width read write xs rest wide (All-tail (λ y. read (write y) ≡ y) x xs h)))

-- the pieces joined again
pub flat_map-cut : (width : ℕ) (read : List ℕ → ℕ) (write : ℕ → List ℕ) (n : ℕ) (bits : List ℕ) →
    ((piece : List ℕ) → length piece ≡ width → AreBits piece → write (read piece) ≡ piece) → AreBits bits → length bits ≡ width * n →
    flat_map write (cut width read n bits) ≡ bits
unfolding cut
flat_map-cut width read write zero bits back h l = sym (nil_from_length bits (omega arith))
flat_map-cut width read write (suc n) bits back h l =
    let p : length bits ≡ width * n + width = grind arith in
    let le : width ≤ length bits = omega arith in
    let first : write (read (take width bits)) ≡ take width bits =
    back (take width bits) (length-take-le width bits le) (All-take (λ b. b < 2) width bits h) in
    let lr : length (drop width bits) ≡ width * n = omega (arith, length-drop width bits) in
    let others = flat_map-cut width read write n (drop width bits) back (All-drop (λ b. b < 2) width bits h) lr in
    rw (first, others) (take-append-drop width bits)

-- the length of pieces that are joined
pub length-flat_map-wide : (width : ℕ) (write : ℕ → List ℕ) (xs : List ℕ) → ((x : ℕ) → length (write x) ≡ width) →
    length (flat_map write xs) ≡ width * length xs
length-flat_map-wide width write [] wide = omega arith
length-flat_map-wide width write (x ∷ xs) wide =
    let r = length-flat_map-wide width write xs wide in
    rw (length-append (write x) (flat_map write xs)) (grind (arith, r, wide x))
