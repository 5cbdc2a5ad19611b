-- Sums of which one term changes.
use Rattle.pocsag_flow.proofs.Prelude.{◌≡◌, ◌≢◌, ℕ, zero, suc, ◌+◌, ◌<◌, ◌≤◌, sym, ap, arith, inl, inr, cases_eq, sum_below, sum_below-same, sum_below-le}

pub sum_below-change : (n c x y : ℕ) (f g : ℕ → ℕ) → c < n → f c + x ≡ g c + y → ((k : ℕ) → k < n → k ≢ c → f k ≡ g k) →
    sum_below n f + x ≡ sum_below n g + y
unfolding sum_below
sum_below-change zero c x y f g h e o = absurd (omega arith)
sum_below-change (suc n) c x y f g h e o =
    elim (cases_eq c n) [
      | inl same ↦
          let rest : sum_below n f ≡ sum_below n g = sum_below-same n f g (λ k l. o k (omega arith) (omega arith)) in
          let left : f c ≡ f n = ap f same in
          let right : g c ≡ g n = ap g same in
          omega arith
      | inr other ↦
          let rest : sum_below n f + x ≡ sum_below n g + y =
          sum_below-change n c x y f g (omega arith) e (λ k l ne. o k (omega arith) ne) in
          let here : f n ≡ g n = o n (omega arith) (λ same. other (sym same)) in
          omega arith
    ]

pub sum_below-lt : (n c : ℕ) (f g : ℕ → ℕ) → c < n → f c < g c → ((k : ℕ) → k < n → f k ≤ g k) → sum_below n f < sum_below n g
unfolding sum_below
sum_below-lt zero c f g h e o = absurd (omega arith)
sum_below-lt (suc n) c f g h e o =
    elim (cases_eq c n) [
      | inl same ↦
          let rest : sum_below n f ≤ sum_below n g = sum_below-le n f g (λ k l. o k (omega arith)) in
          let left : f c ≡ f n = ap f same in
          let right : g c ≡ g n = ap g same in
          omega arith
      | inr other ↦
          let rest : sum_below n f < sum_below n g = sum_below-lt n c f g (omega arith) e (λ k l. o k (omega arith)) in
          omega (arith, o n (omega arith))
    ]
