-- Texts that are made number by number.
use Rattle.pocsag_show.proofs.Prelude.{◌≡◌, ℕ, zero, suc, ◌+◌, ◌-◌, ◌<◌, ◌≤◌, max, List, [], ◌∷◌, ◌++◌, refl, ap, ap₂, sym, ◌∙◌, arith, append_assoc, flat_map, range_with_len, append-nil, flat_map-append}

range_suc : (a n : ℕ) → range_with_len a (suc n) ≡ range_with_len a n ++ (a + n) ∷ []
range_suc a zero = ap (λ (x : ℕ). x ∷ []) (omega arith)
range_suc a (suc n) =
    let e : a + 1 + n ≡ a + suc n = omega arith in
    ap (λ (l : List ℕ). a ∷ l) (range_suc (a + 1) n ∙ ap (λ (x : ℕ). range_with_len (a + 1) n ++ x ∷ []) e)

pub range_more : (a n : ℕ) → range_with_len a (n + 1) ≡ range_with_len a n ++ (a + n) ∷ []
range_more a n = let e : n + 1 ≡ suc n = omega arith in ap (range_with_len a) e ∙ range_suc a n

-- one number more
flat_map_more : (f : ℕ → List ℕ) (a n : ℕ) → flat_map f (range_with_len a (n + 1)) ≡ flat_map f (range_with_len a n) ++ f (a + n)
flat_map_more f a n =
    ap (flat_map f) (range_more a n)
    ∙ (flat_map-append f (range_with_len a n) ((a + n) ∷ [])
    ∙ ap (λ (l : List ℕ). flat_map f (range_with_len a n) ++ l) (append-nil (f (a + n))))

pub put_next : (f : ℕ → List ℕ) (a i : ℕ) (first before after : List ℕ) → a ≤ i → before ≡ first ++ flat_map f (range_with_len a (i - a))
    → after ≡ before ++ f i → after ≡ first ++ flat_map f (range_with_len a (i + 1 - a))
put_next f a i first before after le p q =
    let n : i + 1 - a ≡ (i - a) + 1 = omega arith in
    let at : a + (i - a) ≡ i = omega arith in
    let texts = flat_map f (range_with_len a (i - a)) in
    q
    ∙ (ap (λ (l : List ℕ). l ++ f i) p ∙ (append_assoc first texts (f i)
    ∙ ap (λ (l : List ℕ). first ++ l) (ap (λ (j : ℕ). texts ++ f j) (sym at)
    ∙ (sym (flat_map_more f a (i - a)) ∙ ap (λ (m : ℕ). flat_map f (range_with_len a m)) (sym n)))))

-- the last number, of which there are none where the first is behind them all
pub put_all : (f : ℕ → List ℕ) (a i b : ℕ) (first text : List ℕ) → a ≤ i → i ≤ max a b → b ≤ i
    → text ≡ first ++ flat_map f (range_with_len a (i - a)) → text ≡ first ++ flat_map f (range_with_len a (b - a))
put_all f a i b first text le within over p =
    let e : i - a ≡ b - a = omega arith in p ∙ ap (λ (n : ℕ). first ++ flat_map f (range_with_len a n)) e

pub put_more : (f : ℕ → List ℕ) (n : ℕ) (first before after : List ℕ) → before ≡ first ++ flat_map f (range_with_len 0 n)
    → after ≡ before ++ f n → after ≡ first ++ flat_map f (range_with_len 0 (n + 1))
put_more f n first before after p q =
    let e : 0 + n ≡ n = omega arith in
    let texts = flat_map f (range_with_len 0 n) in
    q
    ∙ (ap (λ (l : List ℕ). l ++ f n) p ∙ (append_assoc first texts (f n)
    ∙ ap (λ (l : List ℕ). first ++ l) (ap (λ (j : ℕ). texts ++ f j) (sym e) ∙ sym (flat_map_more f 0 n))))

pub flat_map_same : (f g : ℕ → List ℕ) (a n : ℕ) → ((i : ℕ) → a ≤ i → i < a + n → f i ≡ g i)
    → flat_map f (range_with_len a n) ≡ flat_map g (range_with_len a n)
flat_map_same f g a zero h = refl
flat_map_same f g a (suc n) h =
    ap₂ (λ (x y : List ℕ). x ++ y) (h a (omega arith) (omega arith)) (flat_map_same f g (a + 1) n (λ i from small. h i (omega arith) (omega arith)))

-- the first of the numbers that are left, and none
pub range_first : (f : ℕ → List ℕ) (low high : ℕ) → low < high
    → flat_map f (range_with_len low (high - low)) ≡ f low ++ flat_map f (range_with_len (low + 1) (high - (low + 1)))
range_first f low high within =
    let n : high - low ≡ suc (high - (low + 1)) = omega arith in ap (λ (m : ℕ). flat_map f (range_with_len low m)) n

pub range_over : (f : ℕ → List ℕ) (low high : ℕ) (rest : List ℕ) → high ≤ low → flat_map f (range_with_len low (high - low)) ++ rest ≡ rest
range_over f low high rest over =
    let n : high - low ≡ 0 = omega arith in ap (λ (m : ℕ). flat_map f (range_with_len low m) ++ rest) n
