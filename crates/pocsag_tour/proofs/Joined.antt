-- Where all runs start where boundary 0 leads, all arcs lead back to it.
use Rattle.pocsag_tour.proofs.Prelude.{◌≡◌, ℕ, zero, suc, ◌+◌, ◌-◌, ◌%◌, ◌<◌, ◌≤◌, ◌==◌, Bool, true, false, cond, List, [], ◌∷◌, ◌++◌, refl, sym, ap, ◌∙◌, arith, eq-eqb, inl, inr, cases_eq, eqb-true, ne_eqb, End, Step, holds, LastAs, LastIsIdle, LastIsWhole, Leads, AllLeadTo, arc_from, arc_to, IsBalanced, IsClosing, IsWay, NoneEnters, NoneLeaves, ins, outs, RunsStart, step_of, taken, Visited, by_arc}
use Rattle.pocsag_words.specs.declared.ending.End.TheVariants as ends
use Rattle.pocsag_slots.specs.declared.step.Step.TheVariants.{Idle as Stay, Run}
use Rattle.pocsag_tour.specs.Moves.{at_start}
use Rattle.pocsag_tour.proofs.Balances.{entered_less, flipped, in_term, ins_over, none_enters, none_leaves, outs_over, positive_term, set_balance}
use Rattle.pocsag_tour.proofs.Geometry.{by_kind, from_below, from_idle, to_idle}
use Rattle.pocsag_tour.proofs.Walks.{IsLess, ins_less, leads_over, leads_push, less_le, none_push, outs_less, taken_push}

-- an arc that leaves a boundary
pub record Leaves (counts : ℕ → ℕ) (p : ℕ) : Type 0 where
  pub arc : ℕ
  pub known : arc < 288
  pub there : 0 < counts arc
  pub from : arc_from arc ≡ p

chosen_some : (b : Bool) (x : ℕ) → 0 < cond b x 0 → (b ≡ true) × (0 < x)
chosen_some true x h = (refl, h)
chosen_some false x h = absurd (omega arith)

some_out : (counts : ℕ → ℕ) (p : ℕ) → 0 < outs counts p → Leaves counts p
unfolding outs
some_out counts p some =
    let t : (a : ℕ) × (a < 288) × (0 < cond (arc_from a == p) (counts a) 0) =
    positive_term 288 (λ a. cond (arc_from a == p) (counts a) 0) some in
    let b : ((arc_from t.0 == p) ≡ true) × (0 < counts t.0) = chosen_some (arc_from t.0 == p) (counts t.0) t.2 in
    record { arc = t.0; known = t.1; there = b.1; from = eqb-true (arc_from t.0) p b.0 }

pub balance_enters : (counts : ℕ → ℕ) (set : ℕ) → IsBalanced counts 0 0 → NoneLeaves counts set → NoneEnters counts set
balance_enters counts set balanced none =
    none_enters counts set none (let b = set_balance counts 0 0 set (omega arith) (omega arith) balanced in omega arith)

pub balance_leaves : (counts : ℕ → ℕ) (set : ℕ) → IsBalanced counts 0 0 → NoneEnters counts set → NoneLeaves counts set
balance_leaves counts set balanced none =
    none_leaves counts set none (let b = set_balance counts 0 0 set (omega arith) (omega arith) balanced in omega arith)

-- an idle outside would lead to the next boundary, and so on to boundary 0
idle_inside : (counts : ℕ → ℕ) (set : ℕ) → IsBalanced counts 0 0 → holds set 0 ≡ true → NoneEnters counts set → RunsStart counts set →
    (d s : ℕ) → s + d ≡ 15 → 0 < counts (272 + s) → holds set s ≡ true
idle_inside counts set balanced home none runs zero s e some =
    let last : 0 ≡ arc_to (272 + s) = (let x : arc_to (272 + s) ≡ (s + 1) % 16 = to_idle s in omega arith) in
    rw (from_idle s) at (none (272 + s) (omega arith) some (rw last at home))
idle_inside counts set balanced home none runs (suc d) s e some =
    let next : arc_to (272 + s) ≡ s + 1 = (let x : arc_to (272 + s) ≡ (s + 1) % 16 = to_idle s in omega arith) in
    let in_some : counts (272 + s) ≤ ins counts (s + 1) =
    rw next at (in_term counts (272 + s) (omega arith)) in
    let out : Leaves counts (s + 1) = some_out counts (s + 1) (omega (arith, balanced (s + 1) (omega arith), in_some)) in
    let there : holds set (s + 1) ≡ true =
    by_kind (λ a. 0 < counts a → arc_from a ≡ s + 1 → holds set (s + 1) ≡ true)
    (λ c h have from. rw from at (runs c (omega arith) have))
    (λ c h have from. rw from at (runs (136 + c) (omega arith) have))
    (λ t h have from.
    let at : t ≡ s + 1 = sym (from_idle t) ∙ from in
    idle_inside counts set balanced home none runs d (s + 1) (omega arith) (rw at at have))
    out.arc out.known out.there out.from in
    rw (from_idle s) at (none (272 + s) (omega arith) some (rw next there))

pub arc_inside : (counts : ℕ → ℕ) (set : ℕ) → IsBalanced counts 0 0 → holds set 0 ≡ true → NoneEnters counts set → RunsStart counts set →
    (a : ℕ) → a < 288 → 0 < counts a → holds set (arc_from a) ≡ true
arc_inside counts set balanced home none runs =
    by_kind (λ a. 0 < counts a → holds set (arc_from a) ≡ true)
    (λ c h some. runs c (omega arith) some)
    (λ c h some. runs (136 + c) (omega arith) some)
    (λ s h some. rw (from_idle s) (idle_inside counts set balanced home none runs (15 - s) s (omega arith) some))

visited_in : (counts : ℕ → ℕ) (set : ℕ) → holds set 0 ≡ true → NoneLeaves counts set → (p : ℕ) → Visited counts p → holds set p ≡ true
visited_in counts set home none _ at_start = home
visited_in counts set home none _ (by_arc a h some rest) = none a h some (visited_in counts set home none (arc_from a) rest)

pub joined_open : (counts : ℕ → ℕ) (set : ℕ) → IsBalanced counts 0 0 → holds set 0 ≡ true → NoneLeaves counts set →
    ((p : ℕ) → p < 16 → holds set p ≡ true → Visited counts p) → RunsStart counts set → AllLeadTo counts 0
joined_open counts set balanced home closed visited runs other held none a h some =
    let inside : holds set (arc_from a) ≡ true =
    arc_inside counts set balanced home (balance_enters counts set balanced closed) runs a h some in
    visited_in counts other held (balance_leaves counts other balanced none) (arc_from a) (visited (arc_from a) (from_below a h) inside)

-- without the arc that is to be the last
pub balanced_without : (counts less : ℕ → ℕ) (a : ℕ) → IsBalanced counts 0 0 → IsClosing counts a → IsLess a counts less →
    IsBalanced less 0 15
balanced_without counts less a balanced z l q h =
    let o : outs counts q ≡ outs less q + cond (15 == q) 1 0 =
    rw z.from at (outs_less a counts less z.known l q) in
    let i : ins counts q ≡ ins less q + cond (0 == q) 1 0 =
    rw z.to at (ins_less a counts less z.known l q) in
    omega (arith, balanced q h, flipped q 15, flipped q 0)

holds_if : (b : Bool) → ◌≡◌ {A = ℕ} (cond b 1 0) 1 → b ≡ true
holds_if true h = refl
holds_if false h = absurd (omega arith)

if_holds : (b : Bool) → b ≡ true → ◌≡◌ {A = ℕ} (cond b 1 0) 1
if_holds true h = refl
if_holds false h = absurd (cc)

pub cond_few : (b : Bool) → cond b 1 0 ≤ 1
cond_few true = omega arith
cond_few false = omega arith

pub joined_closed : (counts less : ℕ → ℕ) (a : ℕ) → IsBalanced counts 0 0 → AllLeadTo counts 0 → IsClosing counts a →
    IsLess a counts less → AllLeadTo less 15
joined_closed counts less a balanced all z l set held none b h some =
    let sums : outs_over less set + cond (holds set 15) 1 0 ≡ ins_over less set + cond (holds set 0) 1 0 =
    set_balance less 0 15 set (omega arith) (omega arith) (balanced_without counts less a balanced z l) in
    let home : holds set 0 ≡ true =
    holds_if (holds set 0) (omega (arith, sums, if_holds (holds set 15) held, entered_less less set none, cond_few (holds set 0))) in
    all set home
    (λ d m have to.
    elim (cases_eq d a) [
      | inl same ↦ rw (ap arc_from same ∙ z.from) held
      | inr other ↦ none d m (rw (l.other d other) have) to
    ])
    b h (let le : less b ≤ counts b = less_le a counts less l b in omega arith)

last_push : (ss : List Step) (s : Step) → LastIsWhole (s ∷ []) → LastIsWhole (ss ++ (s ∷ []))
last_push [] s h = h
last_push (Stay ∷ []) s h = h
last_push (Run c e ∷ []) s h = h
last_push (Stay ∷ t ∷ ss) s h = last_push (t ∷ ss) s h
last_push (Run c e ∷ t ∷ ss) s h = last_push (t ∷ ss) s h

idle_push : (ss : List Step) (s : Step) → LastIsIdle (s ∷ []) → LastIsIdle (ss ++ (s ∷ []))
idle_push [] s h = h
idle_push (Stay ∷ []) s h = h
idle_push (Run c e ∷ []) s h = h
idle_push (Stay ∷ t ∷ ss) s h = idle_push (t ∷ ss) s h
idle_push (Run c e ∷ t ∷ ss) s h = idle_push (t ∷ ss) s h

last_as_push : (end : End) (ss : List Step) (s : Step) → LastAs end (s ∷ []) → LastAs end (ss ++ (s ∷ []))
last_as_push ends.Open ss s h = tt
last_as_push ends.Closed ss s h = last_push ss s h
last_as_push ends.Idle ss s h = idle_push ss s h

closed_takes : (counts less : ℕ → ℕ) (a : ℕ) (ss : List Step) → a < 288 → IsLess a counts less → Leads 0 ss (arc_from a) →
    ((b : ℕ) → b < 288 → taken b ss ≡ less b) → (b : ℕ) → b < 288 → taken b (ss ++ (step_of a ∷ [])) ≡ counts b
closed_takes counts less a ss h l leads takes b m =
    let more : taken b (ss ++ (step_of a ∷ [])) ≡ taken b ss + cond (b == a) 1 0 = taken_push a ss h leads b m in
    elim (cases_eq b a) [
      | inl same ↦
          let one : ◌≡◌ {A = ℕ} (cond (b == a) 1 0) 1 = if_holds (b == a) (eq-eqb b a same) in
          let here : counts b ≡ less b + 1 = rw same l.here in
          omega (arith, takes b m)
      | inr other ↦
          let none : ◌≡◌ {A = ℕ} (cond (b == a) 1 0) 0 = (let t : (b == a) ≡ false = ne_eqb b a other in rw t refl) in
          omega (arith, takes b m, l.other b other)
    ]

pub closed_way : (counts less : ℕ → ℕ) (a : ℕ) (ss : List Step) → IsClosing counts a → IsLess a counts less → IsWay less 15 ss →
    IsWay counts 0 (ss ++ (step_of a ∷ []))
    × ((end : End) → LastAs end (step_of a ∷ []) → LastAs end (ss ++ (step_of a ∷ [])))
closed_way counts less a ss z l w =
    let leads : Leads 0 ss (arc_from a) = rw z.from w.leads in (
      record {
        leads = rw z.to at (leads_push 0 (arc_from a) (arc_to a) ss (step_of a) leads (leads_over a z.known));
        takes = λ b h. closed_takes counts less a ss z.known l leads w.takes b h;
        no_other = none_push a ss z.known w.no_other;
      },
      λ end last. last_as_push end ss (step_of a) last,
    )
