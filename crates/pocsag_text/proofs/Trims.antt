-- Lists without what is unwanted at their end.
use Rattle.pocsag_text.proofs.Prelude.{◌≡◌, ◌≢◌, ℕ, ◌+◌, ◌-◌, ◌<◌, ◌≤◌, get_or, List, [], ◌∷◌, ◌++◌, length, take, All, eqb, true, false, refl, sym, ap, arith, All-nil, All-cons, All-head, All-tail, take_more, eq-eqb, ne_eqb, trim_end, trimmed_onto}

-- nothing but the unwanted
trim_end-all : (c : ℕ) (zs : List ℕ) → All (λ z. z ≡ c) zs → trim_end c zs ≡ []
unfolding trim_end
trim_end-all c [] h = refl
trim_end-all c (z ∷ zs) h =
    let r = trim_end-all c zs (All-tail (λ x. x ≡ c) z zs h) in
    let e : eqb z c ≡ true = eq-eqb z c (All-head (λ x. x ≡ c) z zs h) in
    rw (r, e) refl

-- the unwanted behind a list
pub trim_end-append : (c : ℕ) (xs zs : List ℕ) → All (λ z. z ≡ c) zs → trim_end c (xs ++ zs) ≡ trim_end c xs
unfolding trim_end
trim_end-append c [] zs h = trim_end-all c zs h
trim_end-append c (x ∷ xs) zs h = ap (trimmed_onto c x) (trim_end-append c xs zs h)

-- something wanted behind a list
trim_end-push : (c : ℕ) (xs : List ℕ) (b : ℕ) → b ≢ c → trim_end c (xs ++ b ∷ []) ≡ xs ++ b ∷ []
unfolding trim_end
trim_end-push c [] b h = let e : eqb b c ≡ false = ne_eqb b c h in rw e refl
trim_end-push c (x ∷ []) b h = ap (trimmed_onto c x) (trim_end-push c [] b h)
trim_end-push c (x ∷ y ∷ xs) b h = ap (trimmed_onto c x) (trim_end-push c (y ∷ xs) b h)

-- nothing unwanted
pub trim_end-none : (c : ℕ) (xs : List ℕ) → All (λ x. x ≢ c) xs → trim_end c xs ≡ xs
unfolding trim_end
trim_end-none c [] h = refl
trim_end-none c (x ∷ []) h =
    let e : eqb x c ≡ false = ne_eqb x c (All-head (λ y. y ≢ c) x [] h) in rw e refl
trim_end-none c (x ∷ y ∷ xs) h =
    ap (trimmed_onto c x) (trim_end-none c (y ∷ xs) (All-tail (λ z. z ≢ c) x (y ∷ xs) h))

-- the first n elements, where the last of them is wanted or not
pub trim_end-wanted : (c n : ℕ) (xs : List ℕ) → 0 < n → n ≤ length xs → get_or xs (n - 1) 0 ≢ c → trim_end c (take n xs) ≡ take n xs
trim_end-wanted c n xs some within wanted =
    let k : n - 1 + 1 ≡ n = omega arith in
    let more : take n xs ≡ take (n - 1) xs ++ get_or xs (n - 1) 0 ∷ [] = rw k at (take_more xs (n - 1) 0 (omega arith)) in
    rw more (trim_end-push c (take (n - 1) xs) (get_or xs (n - 1) 0) wanted)

pub trim_end-unwanted : (c n : ℕ) (xs : List ℕ) → 0 < n → n ≤ length xs → get_or xs (n - 1) 0 ≡ c →
    trim_end c (take (n - 1) xs) ≡ trim_end c (take n xs)
trim_end-unwanted c n xs some within unwanted =
    let k : n - 1 + 1 ≡ n = omega arith in
    let more : take n xs ≡ take (n - 1) xs ++ get_or xs (n - 1) 0 ∷ [] = rw k at (take_more xs (n - 1) 0 (omega arith)) in
    rw more (sym
    (trim_end-append c (take (n - 1) xs) (get_or xs (n - 1) 0 ∷ [])
    (All-cons (λ z. z ≡ c) (get_or xs (n - 1) 0) [] unwanted (All-nil (λ z. z ≡ c)))))

pub trim_end-nil : (c : ℕ) → trim_end c [] ≡ []
unfolding trim_end
trim_end-nil c = refl
