-- Sums of counts over the arcs of boundaries and of sets of boundaries.
use Rattle.pocsag_tour.proofs.Prelude.{◌≡◌, ℕ, zero, suc, ◌+◌, ◌<◌, ◌≤◌, ◌==◌, Bool, true, false, cond, refl, sym, ◌∙◌, arith, eq-eqb, inl, inr, cases_eq, ne_eqb, holds, sum_below, arc_from, arc_to, outs, ins, IsBalanced, IsSpent, NoneEnters, NoneLeaves, sum_over, sum_below-same, sum_below-le, sum_below-bump, sum_below-zero, term-le-sum_below, sum_over-same, sum_over-add, sum_over-sum_below, chosen_none}
use Rattle.pocsag_tour.proofs.Geometry.{from_below, to_below}

chosen : (b : Bool) (x : ℕ) → b ≡ true → cond b x 0 ≡ x
chosen true x h = refl
chosen false x h = absurd (cc)

abbrev no_number : ℕ → ℕ
no_number q = 0

-- a sum over a set of a number that stands at one member alone
pub sum_over-hit : (set at x : ℕ) → at < 16 → sum_over set (λ q. cond (at == q) x 0) ≡ cond (holds set at) x 0
unfolding sum_over
sum_over-hit set at x h =
    let same : (at == at) ≡ true = eq-eqb at at refl in
    let grown : sum_below 16 (λ q. cond (holds set q) (cond (at == q) x 0) 0) ≡ sum_below 16 no_number + cond (holds set at) x 0 =
    sum_below-bump 16 at (cond (holds set at) x 0) no_number (λ q. cond (holds set q) (cond (at == q) x 0) 0) h (rw same (omega arith))
    (λ q l other. let ne : (at == q) ≡ false = ne_eqb at q (λ e. other (sym e)) in rw ne (chosen_none (holds set q) 0 refl)) in
    let none : sum_below 16 no_number ≡ 0 = sum_below-zero 16 no_number (λ q l. refl) in
    omega arith

-- the arcs that leave a set, and that lead to it
abbrev pub outs_over : (ℕ → ℕ) → ℕ → ℕ
outs_over left set = sum_below 288 (λ a. cond (holds set (arc_from a)) (left a) 0)

abbrev pub ins_over : (ℕ → ℕ) → ℕ → ℕ
ins_over left set = sum_below 288 (λ a. cond (holds set (arc_to a)) (left a) 0)

pub outs_sum : (left : ℕ → ℕ) (set : ℕ) → sum_over set (outs left) ≡ outs_over left set
unfolding outs
outs_sum left set =
    sum_over-sum_below set 288 (λ q a. cond (arc_from a == q) (left a) 0)
    ∙ sum_below-same 288 _ _ (λ a l. sum_over-hit set (arc_from a) (left a) (from_below a l))

pub ins_sum : (left : ℕ → ℕ) (set : ℕ) → sum_over set (ins left) ≡ ins_over left set
unfolding ins
ins_sum left set =
    sum_over-sum_below set 288 (λ q a. cond (arc_to a == q) (left a) 0)
    ∙ sum_below-same 288 _ _ (λ a l. sum_over-hit set (arc_to a) (left a) (to_below a l))

pub flipped : (q p : ℕ) → ◌≡◌ {A = ℕ} (cond (q == p) 1 0) (cond (p == q) 1 0)
flipped q p = grind (arith, cases_eq, ne_eqb)

-- what leaves a set, and what enters it
pub set_balance : (left : ℕ → ℕ) (p root set : ℕ) → p < 16 → root < 16 → IsBalanced left p root →
    outs_over left set + cond (holds set root) 1 0 ≡ ins_over left set + cond (holds set p) 1 0
set_balance left p root set h r balanced =
    let a : sum_over set (λ q. outs left q + cond (root == q) 1 0) ≡ sum_over set (outs left) + sum_over set (λ q. cond (root == q) 1 0) =
    sum_over-add set (outs left) (λ q. cond (root == q) 1 0) in
    let b : sum_over set (λ q. ins left q + cond (p == q) 1 0) ≡ sum_over set (ins left) + sum_over set (λ q. cond (p == q) 1 0) =
    sum_over-add set (ins left) (λ q. cond (p == q) 1 0) in
    let both : sum_over set (λ q. outs left q + cond (root == q) 1 0) ≡ sum_over set (λ q. ins left q + cond (p == q) 1 0) =
    sum_over-same set _ _ (λ q l. omega (arith, balanced q l, flipped q root, flipped q p)) in
    omega (arith, outs_sum left set, ins_sum left set, sum_over-hit set root 1 r, sum_over-hit set p 1 h)

-- where sums are equal and each term of one is no more, the terms are equal
sum_tight : (n : ℕ) (f g : ℕ → ℕ) → ((k : ℕ) → k < n → f k ≤ g k) → sum_below n g ≤ sum_below n f → (k : ℕ) → k < n → g k ≤ f k
unfolding sum_below
sum_tight zero f g le tight k l = absurd (omega arith)
sum_tight (suc n) f g le tight k l =
    let rest : sum_below n f ≤ sum_below n g = sum_below-le n f g (λ j m. le j (omega arith)) in
    elim (cases_eq k n) [
      | inl same ↦
          let here : g n ≤ f n = omega (arith, le n (omega arith)) in
          rw same here
      | inr other ↦ sum_tight n f g (λ j m. le j (omega arith)) (omega (arith, le n (omega arith))) k (omega arith)
    ]

term_le : (a b : Bool) (x : ℕ) → (0 < x → a ≡ true → b ≡ true) → cond a x 0 ≤ cond b x 0
term_le true true x h = omega arith
term_le true false zero h = omega arith
term_le true false (suc x) h = absurd (let e : false ≡ true = h (omega arith) refl in cc)
term_le false b x h = omega arith

term_back : (a b : Bool) (x : ℕ) → cond a x 0 ≤ cond b x 0 → 0 < x → a ≡ true → b ≡ true
term_back true true x h some e = refl
term_back true false x h some e = absurd (omega arith)
term_back false b x h some e = absurd (cc)

pub entered_less : (left : ℕ → ℕ) (set : ℕ) → NoneEnters left set → ins_over left set ≤ outs_over left set
entered_less left set none = sum_below-le 288 _ _ (λ a l. term_le (holds set (arc_to a)) (holds set (arc_from a)) (left a) (none a l))

pub none_leaves : (left : ℕ → ℕ) (set : ℕ) → NoneEnters left set → outs_over left set ≤ ins_over left set → NoneLeaves left set
none_leaves left set none tight a l some =
    term_back (holds set (arc_from a)) (holds set (arc_to a)) (left a)
    (sum_tight 288 (λ b. cond (holds set (arc_to b)) (left b) 0) (λ b. cond (holds set (arc_from b)) (left b) 0)
    (λ b m. term_le (holds set (arc_to b)) (holds set (arc_from b)) (left b) (none b m)) tight a l)
    some

pub none_enters : (left : ℕ → ℕ) (set : ℕ) → NoneLeaves left set → ins_over left set ≤ outs_over left set → NoneEnters left set
none_enters left set none tight a l some =
    term_back (holds set (arc_to a)) (holds set (arc_from a)) (left a)
    (sum_tight 288 (λ b. cond (holds set (arc_from b)) (left b) 0) (λ b. cond (holds set (arc_to b)) (left b) 0)
    (λ b m. term_le (holds set (arc_from b)) (holds set (arc_to b)) (left b) (none b m)) tight a l)
    some

pub in_term : (left : ℕ → ℕ) (a : ℕ) → a < 288 → left a ≤ ins left (arc_to a)
unfolding ins
in_term left a l =
    let same : (arc_to a == arc_to a) ≡ true = eq-eqb (arc_to a) (arc_to a) refl in
    let term : cond (arc_to a == arc_to a) (left a) 0 ≤ sum_below 288 (λ b. cond (arc_to b == arc_to a) (left b) 0) =
    term-le-sum_below 288 a (λ b. cond (arc_to b == arc_to a) (left b) 0) l in
    rw same at term

pub outs_spent : (left : ℕ → ℕ) (p : ℕ) → IsSpent left p → outs left p ≡ 0
unfolding outs
outs_spent left p spent = grind (arith, sum_below-zero, cases_eq, ne_eqb)

-- some term of a sum above 0 is above 0
pub positive_term : (n : ℕ) (f : ℕ → ℕ) → 0 < sum_below n f → (k : ℕ) × (k < n) × (0 < f k)
unfolding sum_below
positive_term zero f some = absurd (omega arith)
positive_term (suc n) f some =
    elim (cases_eq (f n) 0) [
      | inl none ↦ let rest : (k : ℕ) × (k < n) × (0 < f k) = positive_term n f (omega arith) in (rest.0, omega arith, rest.2)
      | inr here ↦ (n, omega arith, omega arith)
    ]
