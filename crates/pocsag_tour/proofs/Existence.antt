-- That there is a way, without walking it: the sets of exits and the walk over plain numbers.
use Rattle.pocsag_tour.proofs.Prelude.{◌≡◌, ◌≢◌, ℕ, zero, suc, ◌+◌, ◌-◌, ◌^◌, ◌<◌, ◌≤◌, ◌==◌, ◌&&◌, nat_lt, Bool, true, false, not, cond, List, [], ◌∷◌, ◌++◌, ◌⊎◌, refl, arith, eq-eqb, inl, inr, cases_eq, eqb-true, ne_eqb, nat_tests, End, Step, SetsTakeMembers, holds, sum_below, LastAs, AllLeadTo, arc_from, arc_to, IsBalanced, IsClosing, IsDeparture, IsEntering, IsSpent, IsWalk, IsWay, ExitsLeadToRoot, NoneEnters, step_of, and_parts, not-false, not-true, AddsMember}
use Rattle.pocsag_words.specs.declared.ending.End.TheVariants as ends
use Rattle.pocsag_tour.proofs.ExitSets.{grown_keeps, led_more, led_start}
use Rattle.pocsag_tour.proofs.Geometry.{from_below}
use Rattle.pocsag_tour.proofs.Joined.{balanced_without, closed_way, joined_closed}
use Rattle.pocsag_tour.proofs.Walks.{IsLess, sum_less, walk_end, walk_on, walk_start}

-- a number that passes a test, or that none does
seek : (n : ℕ) (f : ℕ → Bool) → ((a : ℕ) × (a < n) × (f a ≡ true)) ⊎ ((a : ℕ) → a < n → f a ≡ false)
seek zero f = inr (λ a h. absurd (omega arith))
seek (suc n) f =
    elim (seek n f) [
      | inl found ↦ inl (found.0, omega arith, found.2)
      | inr none ↦ seek_last n f (f n) refl none
    ]
  where
    seek_last : (n : ℕ) (f : ℕ → Bool) (b : Bool) → f n ≡ b → ((a : ℕ) → a < n → f a ≡ false) →
        ((a : ℕ) × (a < suc n) × (f a ≡ true)) ⊎ ((a : ℕ) → a < suc n → f a ≡ false)
    seek_last n f true is none = inl (n, omega arith, is)
    seek_last n f false is none = inr (λ a h.
        elim (cases_eq a n) [
          | inl same ↦ rw same is
          | inr other ↦ none a (omega arith)
        ])

not_both : (x y : Bool) → (x && y) ≡ false → x ≡ true → y ≡ false
not_both true y h e = h
not_both false y h e = absurd (cc)

some : (n : ℕ) → nat_lt 0 n ≡ true → 0 < n
some n h = grind (arith, nat_tests)

some_test : (n : ℕ) → 0 < n → nat_lt 0 n ≡ true
some_test n h = grind (arith, nat_tests)

enters : (ℕ → ℕ) → ℕ → ℕ → Bool
enters counts set a = nat_lt 0 (counts a) && (holds set (arc_to a) && not (holds set (arc_from a)))

found_entering : (counts : ℕ → ℕ) (set a : ℕ) → a < 288 → enters counts set a ≡ true → IsEntering counts set a
unfolding enters
found_entering counts set a h e =
    let x : (nat_lt 0 (counts a) ≡ true) × ((holds set (arc_to a) && not (holds set (arc_from a))) ≡ true) =
    and_parts (nat_lt 0 (counts a)) (holds set (arc_to a) && not (holds set (arc_from a))) e in
    let y : (holds set (arc_to a) ≡ true) × (not (holds set (arc_from a)) ≡ true) =
    and_parts (holds set (arc_to a)) (not (holds set (arc_from a))) x.1 in
    record { known = h; there = some (counts a) x.0; from = not-true (holds set (arc_from a)) y.1; to = y.0 }

none_entering : (counts : ℕ → ℕ) (set : ℕ) → ((a : ℕ) → a < 288 → enters counts set a ≡ false) → NoneEnters counts set
unfolding enters
none_entering counts set none a h have to = grind (arith, not-false, not_both, some_test)

-- a set from which last exits lead to root, and that nothing enters
pub record IsTree (counts : ℕ → ℕ) (root : ℕ) : Type 0 where
  pub set : ℕ
  pub exits : ℕ → ℕ
  pub root_in : holds set root ≡ true
  pub closed : NoneEnters counts set
  pub leads_to_root : ExitsLeadToRoot counts exits root set

abbrev written : (ℕ → ℕ) → ℕ → ℕ → ℕ → ℕ
written exits at a q = cond (q == at) a (exits q)

tree_within : SetsTakeMembers → (counts : ℕ → ℕ) (root fuel set : ℕ) (exits : ℕ → ℕ) → set < 2 ^ 16 → 2 ^ 16 ≤ set + fuel →
    holds set root ≡ true → ExitsLeadToRoot counts exits root set → IsTree counts root
tree_within law counts root zero set exits low enough held leads_to_root = absurd (omega arith)
tree_within law counts root (suc fuel) set exits low enough held leads_to_root =
    elim (seek 288 (enters counts set)) [
      | inl found ↦
          let e : IsEntering counts set found.0 = found_entering counts set found.0 found.1 found.2 in
          let from = arc_from found.0 in
          let more : (larger : ℕ) × AddsMember set from larger = law set from (from_below found.0 e.known) in
          let adds : AddsMember set from more.0 = more.1 in
          let grown : set < more.0 = adds.grows e.from in
          tree_within law counts root fuel more.0 (written exits from found.0) (adds.small low) (omega arith)
          (grown_keeps set more.0 from root adds.held adds.others held)
          (led_more counts exits (written exits from found.0) root set more.0 found.0 leads_to_root e
          (let t : (from == from) ≡ true = eq-eqb from from refl in rw t refl)
          (λ q ne. (let t : (q == from) ≡ false = ne_eqb q from ne in rw t refl))
          adds.held adds.others)
      | inr none ↦ record { set = set; exits = exits; root_in = held; closed = none_entering counts set none; leads_to_root = leads_to_root }
    ]

tree_exists : SetsTakeMembers → (counts : ℕ → ℕ) (root : ℕ) → root < 16 → IsTree counts root
tree_exists law counts root h =
    let only : (set : ℕ) × AddsMember 0 root set = law 0 root h in
    let adds : AddsMember 0 root only.0 = only.1 in
    tree_within law counts root (2 ^ 16) only.0 (λ q. 0) (adds.small (omega arith)) (omega arith) adds.held
    (led_start counts (λ q. 0) root only.0 (adds.alone refl))

-- an arc to take next, or none
parts : (ℕ → ℕ) → ℕ → ℕ → ℕ → Bool
parts left exit p a = nat_lt 0 (left a) && ((arc_from a == p) && not (a == exit))

found_parting : (left : ℕ → ℕ) (exit p a : ℕ) → a < 288 → parts left exit p a ≡ true → IsDeparture left exit p a
unfolding parts
found_parting left exit p a h e =
    let x : (nat_lt 0 (left a) ≡ true) × (((arc_from a == p) && not (a == exit)) ≡ true) =
    and_parts (nat_lt 0 (left a)) ((arc_from a == p) && not (a == exit)) e in
    let y : ((arc_from a == p) ≡ true) × (not (a == exit) ≡ true) = and_parts (arc_from a == p) (not (a == exit)) x.1 in
    let apart : (a == exit) ≡ false = not-true (a == exit) y.1 in
    record {
      known = h;
      there = some (left a) x.0;
      leaves = eqb-true (arc_from a) p y.0;
      last = λ same. absurd (let t : (a == exit) ≡ true = eq-eqb a exit same in cc);
    }

none_parting : (left : ℕ → ℕ) (exit p : ℕ) → ((a : ℕ) → a < 288 → parts left exit p a ≡ false) →
    (b : ℕ) → b < 288 → arc_from b ≡ p → b ≢ exit → left b ≡ 0
unfolding parts
none_parting left exit p none b h from ne = grind (arith, cases_eq, not_both, some_test, not-false, eqb-true)

next : (left : ℕ → ℕ) (exit p : ℕ) → ((a : ℕ) × IsDeparture left exit p a) ⊎ IsSpent left p
next left exit p =
    elim (seek 288 (parts left exit p)) [
      | inl found ↦ inl (found.0, found_parting left exit p found.0 found.1 found.2)
      | inr none ↦ next_last left exit p (none_parting left exit p none) (seek 288 (λ a. nat_lt 0 (left a) && (arc_from a == p)))
    ]
  where
    next_last : (left : ℕ → ℕ) (exit p : ℕ) → ((b : ℕ) → b < 288 → arc_from b ≡ p → b ≢ exit → left b ≡ 0) →
        (((a : ℕ) × (a < 288) × ((nat_lt 0 (left a) && (arc_from a == p)) ≡ true)) ⊎
        ((a : ℕ) → a < 288 → (nat_lt 0 (left a) && (arc_from a == p)) ≡ false)) →
        ((a : ℕ) × IsDeparture left exit p a) ⊎ IsSpent left p
    next_last left exit p others (inl found) =
        let x : (nat_lt 0 (left found.0) ≡ true) × ((arc_from found.0 == p) ≡ true) =
        and_parts (nat_lt 0 (left found.0)) (arc_from found.0 == p) found.2 in
        inl (
          found.0,
          record {
            known = found.1;
            there = some (left found.0) x.0;
            leaves = eqb-true (arc_from found.0) p x.1;
            last = λ same. others;
          },
        )
    next_last left exit p others (inr none) =
        inr (λ a h from.
        elim (cases_eq (left a) 0) [
          | inl zero_left ↦ zero_left
          | inr have ↦
              absurd
              (let x : (arc_from a == p) ≡ false = not_both (nat_lt 0 (left a)) (arc_from a == p) (none a h)
              (some_test (left a) (omega arith)) in
              let y : (arc_from a == p) ≡ true = eq-eqb (arc_from a) p from in
              cc)
        ])

abbrev pub one_less : (ℕ → ℕ) → ℕ → ℕ → ℕ
one_less left a b = cond (b == a) (left a - 1) (left b)

pub is_less : (left : ℕ → ℕ) (a : ℕ) → 0 < left a → IsLess a left (one_less left a)
is_less left a have =
    record {
      here = (let t : (a == a) ≡ true = eq-eqb a a refl in rw t (omega arith));
      other = λ b ne. (let t : (b == a) ≡ false = ne_eqb b a ne in rw t refl);
    }

go_on : (counts : ℕ → ℕ) (root : ℕ) → root < 16 → AllLeadTo counts root → (tree : IsTree counts root) →
    (fuel : ℕ) (left : ℕ → ℕ) (p : ℕ) (ss : List Step) → sum_below 288 left < fuel → IsWalk counts tree.exits left ss p root →
    (steps : List Step) × IsWay counts root steps
go_on counts root h all tree zero left p ss few w = absurd (omega arith)
go_on counts root h all tree (suc fuel) left p ss few w =
    elim (next left (tree.exits p) p) [
      | inl step ↦
          let l : IsLess step.0 left (one_less left step.0) = is_less left step.0 step.1.there in
          go_on counts root h all tree fuel (one_less left step.0) (arc_to step.0) (ss ++ (step_of step.0 ∷ []))
          (omega (arith, sum_less step.0 left (one_less left step.0) step.1.known l))
          (walk_on counts tree.exits left (one_less left step.0) step.0 p root ss w step.1 l)
      | inr spent ↦ (ss, walk_end counts tree.exits left p root tree.set ss w spent all tree.root_in tree.closed tree.leads_to_root)
    ]

pub way_exists : SetsTakeMembers → (counts : ℕ → ℕ) (root : ℕ) → root < 16 → IsBalanced counts 0 root → AllLeadTo counts root →
    (steps : List Step) × IsWay counts root steps
way_exists law counts root h balanced all =
    let tree : IsTree counts root = tree_exists law counts root h in
    go_on counts root h all tree (suc (sum_below 288 counts)) counts 0 [] (omega arith) (walk_start counts tree.exits root balanced)

-- a way for an end: any, or one that takes a closing arc last
pub open_way_exists : SetsTakeMembers → (counts : ℕ → ℕ) → IsBalanced counts 0 0 → AllLeadTo counts 0 →
    (steps : List Step) × (IsWay counts 0 steps × LastAs ends.Open steps)
open_way_exists law counts balanced all =
    let way : (steps : List Step) × IsWay counts 0 steps = way_exists law counts 0 (omega arith) balanced all in
    (way.0, (way.1, tt))

pub closing_way_exists : SetsTakeMembers → (counts : ℕ → ℕ) (end : End) (last : ℕ) → IsClosing counts last → LastAs end (step_of last ∷ []) →
    IsBalanced counts 0 0 → AllLeadTo counts 0 → (steps : List Step) × (IsWay counts 0 steps × LastAs end steps)
closing_way_exists law counts end last z ending balanced all =
    let less : ℕ → ℕ = one_less counts last in
    let l : IsLess last counts less = is_less counts last z.there in
    let way : (steps : List Step) × IsWay less 15 steps =
    way_exists law less 15 (omega arith) (balanced_without counts less last balanced z l) (joined_closed counts less last balanced all z l) in
    let whole = closed_way counts less last way.0 z l way.1 in
    (way.0 ++ (step_of last ∷ []), (whole.0, whole.1 end ending))
