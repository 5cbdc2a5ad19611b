-- Sums over the numbers below a number.
use Rattle.pocsag_slots.proofs.Prelude.{◌≡◌, ◌≢◌, ℕ, zero, suc, ◌+◌, ◌*◌, ◌<◌, ◌≤◌, Bool, true, false, cond, refl, sym, ap, ◌∙◌, subst, arith, add-one, inl, inr, cases_eq, sum_below, sum_over, holds}

pub sum_below-same : (n : ℕ) (f g : ℕ → ℕ) → ((k : ℕ) → k < n → f k ≡ g k) → sum_below n f ≡ sum_below n g
unfolding sum_below
sum_below-same zero f g h = refl
sum_below-same (suc n) f g h =
    omega (arith, sum_below-same n f g (λ k l. h k (omega arith)), h n (omega arith))

pub sum_below-le : (n : ℕ) (f g : ℕ → ℕ) → ((k : ℕ) → k < n → f k ≤ g k) → sum_below n f ≤ sum_below n g
unfolding sum_below
sum_below-le zero f g h = omega arith
sum_below-le (suc n) f g h =
    omega (arith, sum_below-le n f g (λ k l. h k (omega arith)), h n (omega arith))

pub sum_below-zero : (n : ℕ) (f : ℕ → ℕ) → ((k : ℕ) → k < n → f k ≡ 0) → sum_below n f ≡ 0
unfolding sum_below
sum_below-zero zero f h = refl
sum_below-zero (suc n) f h =
    omega (arith, sum_below-zero n f (λ k l. h k (omega arith)), h n (omega arith))

-- one term grows by x, and the others stay
pub sum_below-bump : (n k x : ℕ) (f g : ℕ → ℕ) → k < n → g k ≡ f k + x → ((j : ℕ) → j < n → j ≢ k → g j ≡ f j) →
    sum_below n g ≡ sum_below n f + x
unfolding sum_below
sum_below-bump zero k x f g h e o = absurd (omega arith)
sum_below-bump (suc n) k x f g h e o =
    elim (cases_eq k n) [
      | inl same ↦
          let rest : sum_below n g ≡ sum_below n f = sum_below-same n g f (λ j l. o j (omega arith) (omega arith)) in
          let here : g n ≡ f n + x = subst (λ (j : ℕ). g j ≡ f j + x) same e in
          omega arith
      | inr other ↦
          let rest : sum_below n g ≡ sum_below n f + x = sum_below-bump n k x f g (omega arith) e (λ j l ne. o j (omega arith) ne) in
          let here : g n ≡ f n = o n (omega arith) (λ same. other (sym same)) in
          omega arith
    ]

pub sum_below-add : (n : ℕ) (f g : ℕ → ℕ) → sum_below n (λ k. f k + g k) ≡ sum_below n f + sum_below n g
unfolding sum_below
sum_below-add zero f g = refl
sum_below-add (suc n) f g = omega (arith, sum_below-add n f g)

pub sum_below_more : (n : ℕ) (f : ℕ → ℕ) → sum_below (n + 1) f ≡ sum_below n f + f n
unfolding sum_below
sum_below_more n f = rw add-one refl

pub sum_below_none : (f : ℕ → ℕ) → sum_below 0 f ≡ 0
unfolding sum_below
sum_below_none f = refl

pub sum_below-times : (n t : ℕ) (f : ℕ → ℕ) → sum_below n (λ k. t * f k) ≡ t * sum_below n f
unfolding sum_below
sum_below-times zero t f = omega arith
sum_below-times (suc n) t f = omega (arith, sum_below-times n t f)

-- a term is no more than the sum
pub term-le-sum_below : (n k : ℕ) (f : ℕ → ℕ) → k < n → f k ≤ sum_below n f
unfolding sum_below
term-le-sum_below zero k f h = absurd (omega arith)
term-le-sum_below (suc n) k f h =
    elim (cases_eq k n) [
      | inl same ↦ let here : f k ≡ f n = ap f same in omega arith
      | inr other ↦ omega (arith, term-le-sum_below n k f (omega arith))
    ]

-- a part of a sum is no more than the sum
pub sum_below-part : (n m : ℕ) (f : ℕ → ℕ) → n ≤ m → sum_below n f ≤ sum_below m f
unfolding sum_below
sum_below-part n zero f h = let e : n ≡ 0 = omega arith in rw e (omega arith)
sum_below-part n (suc m) f h =
    elim (cases_eq n (suc m)) [
      | inl same ↦ rw same (omega arith)
      | inr other ↦ omega (arith, sum_below-part n m f (omega arith))
    ]

pub sum_over-same : (set : ℕ) (f g : ℕ → ℕ) → ((slot : ℕ) → slot < 16 → f slot ≡ g slot) → sum_over set f ≡ sum_over set g
unfolding sum_over
sum_over-same set f g h =
    sum_below-same 16 _ _ (λ slot l. let same : f slot ≡ g slot = h slot l in rw same refl)

chosen_sum : (b : Bool) (x y : ℕ) → cond b (x + y) 0 ≡ cond b x 0 + cond b y 0
chosen_sum true x y = refl
chosen_sum false x y = omega arith

chosen_times : (b : Bool) (t x : ℕ) → cond b (t * x) 0 ≡ t * cond b x 0
chosen_times true t x = refl
chosen_times false t x = omega arith

pub chosen_none : (b : Bool) (x : ℕ) → x ≡ 0 → cond b x 0 ≡ 0
chosen_none true x none = none
chosen_none false x none = refl

pub sum_over-le : (set : ℕ) (f g : ℕ → ℕ) → ((slot : ℕ) → slot < 16 → f slot ≤ g slot) → sum_over set f ≤ sum_over set g
unfolding sum_over
sum_over-le set f g h = grind (arith, sum_below-le)

pub sum_over-add : (set : ℕ) (f g : ℕ → ℕ) → sum_over set (λ slot. f slot + g slot) ≡ sum_over set f + sum_over set g
unfolding sum_over
sum_over-add set f g =
    sum_below-same 16 _ _ (λ slot l. chosen_sum (holds set slot) (f slot) (g slot))
    ∙ sum_below-add 16 (λ slot. cond (holds set slot) (f slot) 0) (λ slot. cond (holds set slot) (g slot) 0)

pub sum_over-times : (set t : ℕ) (f : ℕ → ℕ) → sum_over set (λ slot. t * f slot) ≡ t * sum_over set f
unfolding sum_over
sum_over-times set t f =
    sum_below-same 16 _ _ (λ slot l. chosen_times (holds set slot) t (f slot))
    ∙ sum_below-times 16 t (λ slot. cond (holds set slot) (f slot) 0)

pub sum_over-none : (set : ℕ) → sum_over set (λ slot. 0) ≡ 0
unfolding sum_over
sum_over-none set = sum_below-zero 16 _ (λ slot l. chosen_none (holds set slot) 0 refl)

-- a sum over a set of sums is the sum of the sums over the set
pub sum_over-sum_below : (set n : ℕ) (f : ℕ → ℕ → ℕ) →
    sum_over set (λ slot. sum_below n (λ c. f slot c)) ≡ sum_below n (λ c. sum_over set (λ slot. f slot c))
unfolding sum_below
sum_over-sum_below set zero f = sum_over-none set
sum_over-sum_below set (suc n) f =
    sum_over-add set (λ slot. sum_below n (λ c. f slot c)) (λ slot. f slot n)
    ∙ ap (λ (m : ℕ). m + sum_over set (λ slot. f slot n)) (sum_over-sum_below set n f)

-- the sum of a number that stands at one slot alone
pub sum_over-at : (set at : ℕ) (f : ℕ → ℕ) → at < 16 → f at ≡ 1 → ((slot : ℕ) → slot < 16 → slot ≢ at → f slot ≡ 0) →
    sum_over set f ≡ cond (holds set at) 1 0
unfolding sum_over
sum_over-at set at f h here others =
    let grown : sum_below 16 (λ slot. cond (holds set slot) (f slot) 0) ≡ sum_below 16 (λ slot. 0) + cond (holds set at) 1 0 =
    sum_below-bump 16 at (cond (holds set at) 1 0) (λ slot. 0) (λ slot. cond (holds set slot) (f slot) 0) h (rw here (omega arith))
    (λ slot l other. chosen_none (holds set slot) (f slot) (others slot l other)) in
    let none : sum_below 16 (λ slot. 0) ≡ 0 = sum_below-zero 16 (λ slot. 0) (λ slot l. refl) in
    omega arith

-- a running sum takes one more term
pub summed : (f : ℕ → ℕ) (n total more : ℕ) → total ≡ sum_below n f → more ≡ f n → total + more ≡ sum_below (n + 1) f
summed f n total more so_far here = omega (arith, sum_below_more n f)

chosen_most : (b : Bool) (x m : ℕ) → x ≤ m → cond b x 0 ≤ m
chosen_most true x m h = h
chosen_most false x m h = omega arith

pub sum_below-most : (n m : ℕ) (f : ℕ → ℕ) → ((k : ℕ) → k < n → f k ≤ m) → sum_below n f ≤ n * m
unfolding sum_below
sum_below-most zero m f h = omega arith
sum_below-most (suc n) m f h = omega (arith, sum_below-most n m f (λ k l. h k (omega arith)), h n (omega arith))

pub sum_over-most : (set m : ℕ) (f : ℕ → ℕ) → ((slot : ℕ) → slot < 16 → f slot ≤ m) → sum_over set f ≤ 16 * m
unfolding sum_over
sum_over-most set m f h = sum_below-most 16 m _ (λ slot l. chosen_most (holds set slot) (f slot) m (h slot l))
