-- The fewest batches are one number.
use Rattle.pocsag_laws.proofs.Prelude.{◌≡◌, ℕ, zero, suc, ◌+◌, ◌≤◌, inl, inr, List, subst, arith, cases_lt, End, Page, AreFewest, AreSendable}

-- where no number is the fewest, each is below those in which the pages are sendable
all_above : (end : End) (R : List Page) → ((n : ℕ) → AreFewest end R n → ⊥) → (m n : ℕ) → AreSendable end R n → m ≤ n
all_above end R none zero n sent = omega arith
all_above end R none (suc m) n sent =
    let below : m ≤ n = all_above end R none m n sent in
    elim (cases_lt m n) [
      | inl more ↦ omega arith
      | inr few ↦
          let same : n ≡ m = omega arith in
          absurd (none m (record {
            sendable = subst (AreSendable end R) same sent;
            least = λ b other. all_above end R none m b other;
          }))
    ]

pub some_fewest : (end : End) (R : List Page) (b : ℕ) → AreSendable end R b → ((n : ℕ) → AreFewest end R n → ⊥) → ⊥
some_fewest end R b sent none = let above : b + 1 ≤ b = all_above end R none (b + 1) b sent in omega arith

pub one_fewest : (end : End) (R : List Page) (a b : ℕ) → AreFewest end R a → AreFewest end R b → a ≡ b
one_fewest end R a b one two =
    let h : a ≤ b = one.least b two.sendable in
    let g : b ≤ a = two.least a one.sendable in
    omega arith
