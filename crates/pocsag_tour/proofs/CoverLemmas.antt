-- How many arcs leave a boundary and lead to it, by the loads of the slots before and after it.
use Rattle.pocsag_tour.proofs.Prelude.{◌≡◌, ◌≢◌, ℕ, zero, suc, ◌+◌, ◌-◌, ◌%◌, ◌<◌, ◌≤◌, ◌==◌, Bool, true, false, cond, slice_index, refl, sym, ap, ◌∙◌, arith, eq-eqb, ne_eqb, Classes, load, start_of, finish_of, sum_below, arc_count, arc_from, arc_to, AreCounts, ins, IsBalanced, outs, before, load_edge, sum_below-same, sum_below-add, sum_below-bump, sum_below-zero, is_above, not_above}
use Rattle.pocsag_slots.specs.Edges.{ends_at, starts_at}
use Rattle.pocsag_tour.proofs.Geometry.{from_early, from_idle, from_late, to_early, to_idle, to_late}

-- the counts by kind
pub count_early : (k : Classes) (choice : ℕ → ℕ) (b c : ℕ) → c < 136 → arc_count k choice b c ≡ choice c
unfolding arc_count
count_early k choice b c h = rw (is_above c 136 h) refl

pub count_late : (k : Classes) (choice : ℕ → ℕ) (b c : ℕ) → c < 136 → arc_count k choice b (136 + c) ≡ slice_index k.count c - choice c
unfolding arc_count
count_late k choice b c h =
    let e : 136 + c - 136 ≡ c = omega arith in
    rw (not_above (136 + c) 136 (omega arith), is_above (136 + c) 272 (omega arith), e) refl

pub count_idle : (k : Classes) (choice : ℕ → ℕ) (b s : ℕ) → arc_count k choice b (272 + s) ≡ b - load k choice s
unfolding arc_count
count_idle k choice b s =
    let e : 272 + s - 272 ≡ s = omega arith in
    rw (not_above (272 + s) 136 (omega arith), not_above (272 + s) 272 (omega arith), e) refl

-- a sum in two parts
pub sum_split : (m n : ℕ) (f : ℕ → ℕ) → sum_below (n + m) f ≡ sum_below n f + sum_below m (λ a. f (n + a))
unfolding sum_below
sum_split zero n f = let e : n + 0 ≡ n = omega arith in rw e (omega arith)
sum_split (suc m) n f =
    let e : n + suc m ≡ suc (n + m) = omega arith in
    rw e (omega (arith, sum_split m n f))

abbrev no_number : ℕ → ℕ
no_number q = 0

-- a number that stands at one slot alone
pub sum_hit : (f : ℕ → ℕ) (p : ℕ) → p < 16 → ((s : ℕ) → s < 16 → s ≢ p → f s ≡ 0) → sum_below 16 f ≡ f p
sum_hit f p h others =
    let grown : sum_below 16 f ≡ sum_below 16 no_number + f p =
    sum_below-bump 16 p (f p) no_number f h (omega arith) (λ s l ne. others s l ne) in
    let none : sum_below 16 no_number ≡ 0 = sum_below-zero 16 no_number (λ s l. refl) in
    omega arith

term_is : (x y : ℕ) (t u : Bool) → x ≡ y → t ≡ u → cond t x 0 ≡ cond u y 0
term_is x y t u e f = rw (e, f) refl

-- the arcs that leave a boundary, or that lead to it: runs of each class, and the idles of one slot
arcs_at : (k : Classes) (choice : ℕ → ℕ) (b : ℕ) (counts : ℕ → ℕ) → AreCounts k choice b counts →
    (at : ℕ → ℕ) (of : ℕ → Bool → ℕ) (p slot : ℕ) → ((c : ℕ) → c < 136 → at c ≡ of c true) → ((c : ℕ) → c < 136 → at (136 + c) ≡ of c false) →
    slot < 16 → at (272 + slot) ≡ p → ((s : ℕ) → s < 16 → s ≢ slot → at (272 + s) ≢ p) →
    sum_below 288 (λ a. cond (at a == p) (counts a) 0)
    ≡ sum_below 136 (λ c. cond (of c true == p) (choice c) 0 + cond (of c false == p) (slice_index k.count c - choice c) 0)
    + (b - load k choice slot)
arcs_at k choice b counts are at of p slot early late low idle others =
    let f : ℕ → ℕ = λ (a : ℕ). cond (at a == p) (counts a) 0 in
    let one : sum_below 288 f ≡ sum_below 272 f + sum_below 16 (λ s. f (272 + s)) = sum_split 16 272 f in
    let two : sum_below 272 f ≡ sum_below 136 f + sum_below 136 (λ c. f (136 + c)) = sum_split 136 136 f in
    let runs : sum_below 136 (λ c. cond (of c true == p) (choice c) 0 + cond (of c false == p) (slice_index k.count c - choice c) 0)
    ≡ sum_below 136 f + sum_below 136 (λ c. f (136 + c)) =
    sum_below-same 136 _ (λ c. f c + f (136 + c)) (λ c l.
    let x : cond (of c true == p) (choice c) 0 ≡ cond (at c == p) (counts c) 0 =
    term_is (choice c) (counts c) (of c true == p) (at c == p) (sym (are c (omega arith) ∙ count_early k choice b c l))
    (ap (λ (m : ℕ). m == p) (sym (early c l))) in
    let y : cond (of c false == p) (slice_index k.count c - choice c) 0 ≡ cond (at (136 + c) == p) (counts (136 + c)) 0 =
    term_is (slice_index k.count c - choice c) (counts (136 + c)) (of c false == p) (at (136 + c) == p)
    (sym (are (136 + c) (omega arith) ∙ count_late k choice b c l)) (ap (λ (m : ℕ). m == p) (sym (late c l))) in
    omega arith)
    ∙ sum_below-add 136 f (λ c. f (136 + c)) in
    let stays : sum_below 16 (λ s. f (272 + s)) ≡ b - load k choice slot =
    sum_hit (λ s. f (272 + s)) slot low (λ s l ne. (let t : (at (272 + s) == p) ≡ false = ne_eqb (at (272 + s)) p (others s l ne) in rw t refl))
    ∙ (let t : (at (272 + slot) == p) ≡ true = eq-eqb (at (272 + slot)) p idle in
    rw t (are (272 + slot) (omega arith) ∙ count_idle k choice b slot)) in
    omega arith

outs_are : (k : Classes) (choice : ℕ → ℕ) (b : ℕ) (counts : ℕ → ℕ) → AreCounts k choice b counts → (p : ℕ) → p < 16 →
    outs counts p ≡ sum_below 136 (starts_at k choice p) + (b - load k choice p)
unfolding outs
outs_are k choice b counts are p h =
    arcs_at k choice b counts are arc_from start_of p p from_early from_late h (from_idle p) (λ s l ne e. ne (sym (from_idle s) ∙ e))

ins_are : (k : Classes) (choice : ℕ → ℕ) (b : ℕ) (counts : ℕ → ℕ) → AreCounts k choice b counts → (p : ℕ) → p < 16 →
    ins counts p ≡ sum_below 136 (ends_at k choice p) + (b - load k choice (before p))
unfolding ins
ins_are k choice b counts are p h =
    arcs_at k choice b counts are arc_to finish_of p (before p) to_early to_late (omega arith) (omega (arith, to_idle (before p)))
    (λ s l ne e. ne (omega (arith, to_idle s, e)))

-- as many arcs leave each boundary as lead to it
pub balanced_start : (k : Classes) (choice : ℕ → ℕ) (b : ℕ) (counts : ℕ → ℕ) → AreCounts k choice b counts →
    ((slot : ℕ) → slot < 16 → load k choice slot ≤ b) → IsBalanced counts 0 0
balanced_start k choice b counts are within q h =
    let low : before q < 16 = omega arith in
    omega (
      arith,
      outs_are k choice b counts are q h,
      ins_are k choice b counts are q h,
      load_edge k choice q h,
      within q h,
      within (before q) low,
    )
