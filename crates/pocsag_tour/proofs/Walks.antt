-- What a walk keeps, and that it ends as a way over all arcs.
use Rattle.pocsag_tour.proofs.Prelude.{◌≡◌, ◌≢◌, ℕ, ◌+◌, ◌-◌, ◌%◌, ◌<◌, ◌≤◌, ◌==◌, ◌&&◌, Bool, true, false, not, cond, List, [], ◌∷◌, ◌++◌, length, slice_index, slice_set, refl, sym, ap, ◌∙◌, arith, eq-eqb, inl, inr, get_or-set_same, get_or-set_other, cases_eq, ne_eqb, Step, finish_of, holds, sum_below, Leads, idles, AllLeadTo, arc_from, arc_to, LeadsToRoot, at_root, by_exit, ins, IsBalanced, IsDeparture, IsExit, IsSpent, IsWalk, IsWay, ExitsLeadToRoot, NoneEnters, outs, step_of, taken, sum_below-bump, and_false, and_true, is_above, not_above}
use Rattle.pocsag_slots.specs.Arcs.{runs}
use Rattle.pocsag_slots.specs.declared.step.Step.TheVariants.{Idle as Stay, Run}
use Rattle.pocsag_tour.proofs.Balances.{flipped, in_term, outs_spent}
use Rattle.pocsag_tour.proofs.Geometry.{by_kind, from_below, from_early, from_idle, from_late, step_early, step_idle, step_late, to_below, to_early, to_idle, to_late}

-- one arc less of a kind
pub record IsLess (a : ℕ) (left less : ℕ → ℕ) : Type 0 where
  pub here : left a ≡ less a + 1
  pub other : (b : ℕ) → b ≢ a → less b ≡ left b

pub less_by_set : (xs : List ℕ) (a : ℕ) → a < length xs → 0 < slice_index xs a →
    IsLess a (slice_index xs) (slice_index (slice_set xs a (slice_index xs a - 1)))
less_by_set xs a h some =
    record {
      here = omega (arith, get_or-set_same xs a (slice_index xs a - 1) 0 h);
      other = λ b ne. get_or-set_other xs a b (slice_index xs a - 1) 0 ne;
    }

pub less_le : (a : ℕ) (left less : ℕ → ℕ) → IsLess a left less → (b : ℕ) → less b ≤ left b
less_le a left less l b = grind (arith, cases_eq)

one_more : (b : Bool) (x y : ℕ) → y ≡ x + 1 → cond b y 0 ≡ cond b x 0 + cond b 1 0
one_more true x y h = h
one_more false x y h = refl

same_term : (b : Bool) (x y : ℕ) → y ≡ x → cond b y 0 ≡ cond b x 0
same_term b x y h = rw h refl

pub outs_less : (a : ℕ) (left less : ℕ → ℕ) → a < 288 → IsLess a left less → (q : ℕ) →
    outs left q ≡ outs less q + cond (arc_from a == q) 1 0
unfolding outs
outs_less a left less h l q =
    sum_below-bump 288 a (cond (arc_from a == q) 1 0) (λ b. cond (arc_from b == q) (less b) 0) (λ b. cond (arc_from b == q) (left b) 0) h
    (one_more (arc_from a == q) (less a) (left a) l.here)
    (λ b m ne. same_term (arc_from b == q) (less b) (left b) (sym (l.other b ne)))

pub ins_less : (a : ℕ) (left less : ℕ → ℕ) → a < 288 → IsLess a left less → (q : ℕ) → ins left q ≡ ins less q + cond (arc_to a == q) 1 0
unfolding ins
ins_less a left less h l q =
    sum_below-bump 288 a (cond (arc_to a == q) 1 0) (λ b. cond (arc_to b == q) (less b) 0) (λ b. cond (arc_to b == q) (left b) 0) h
    (one_more (arc_to a == q) (less a) (left a) l.here)
    (λ b m ne. same_term (arc_to b == q) (less b) (left b) (sym (l.other b ne)))

pub sum_less : (a : ℕ) (left less : ℕ → ℕ) → a < 288 → IsLess a left less → sum_below 288 less < sum_below 288 left
sum_less a left less h l = omega (arith, sum_below-bump 288 a 1 less left h l.here (λ b m ne. sym (l.other b ne)))

-- steps with one more at their end
runs_push : (c : ℕ) (e : Bool) (ss : List Step) (s : Step) → runs c e (ss ++ (s ∷ [])) ≡ runs c e ss + runs c e (s ∷ [])
runs_push c e [] s = omega arith
runs_push c e (Stay ∷ ss) s = runs_push c e ss s
runs_push c e (Run d f ∷ ss) s = omega (arith, runs_push c e ss s)

idles_push : (slot q p : ℕ) (ss : List Step) (s : Step) → Leads q ss p →
    idles slot q (ss ++ (s ∷ [])) ≡ idles slot q ss + idles slot p (s ∷ [])
idles_push slot q p [] s l = ap (λ (n : ℕ). idles slot n (s ∷ [])) l ∙ omega arith
idles_push slot q p (Stay ∷ ss) s l = omega (arith, idles_push slot ((q + 1) % 16) p ss s l)
idles_push slot q p (Run d f ∷ ss) s l = idles_push slot (finish_of d f) p ss s l.1

pub leads_push : (q p r : ℕ) (ss : List Step) (s : Step) → Leads q ss p → Leads p (s ∷ []) r → Leads q (ss ++ (s ∷ [])) r
leads_push q p r [] s l m = rw l m
leads_push q p r (Stay ∷ ss) s l m = leads_push ((q + 1) % 16) p r ss s l m
leads_push q p r (Run d f ∷ ss) s l m = (l.0, leads_push (finish_of d f) p r ss s l.1 m)

pub leads_over : (a : ℕ) → a < 288 → Leads (arc_from a) (step_of a ∷ []) (arc_to a)
leads_over =
    by_kind (λ a. Leads (arc_from a) (step_of a ∷ []) (arc_to a))
    (λ c h. rw (step_early c h) (from_early c h, sym (to_early c h)))
    (λ c h. rw (step_late c h) (from_late c h, sym (to_late c h)))
    (λ s h. rw (step_idle s, from_idle s, to_idle s) refl)

-- how often steps take an arc, by its kind
pub taken_early : (c : ℕ) (ss : List Step) → c < 136 → taken c ss ≡ runs c true ss
unfolding taken
taken_early c ss h = rw (is_above c 136 h) refl

pub taken_late : (c : ℕ) (ss : List Step) → c < 136 → taken (136 + c) ss ≡ runs c false ss
unfolding taken
taken_late c ss h =
    let e : 136 + c - 136 ≡ c = omega arith in
    rw (not_above (136 + c) 136 (omega arith), is_above (136 + c) 272 (omega arith), e) refl

pub taken_idle : (s : ℕ) (ss : List Step) → taken (272 + s) ss ≡ idles s 0 ss
unfolding taken
taken_idle s ss =
    let e : 272 + s - 272 ≡ s = omega arith in
    rw (not_above (272 + s) 136 (omega arith), not_above (272 + s) 272 (omega arith), e) refl

run_hit : (c d b a : ℕ) → (c ≡ d → b ≡ a) → (b ≡ a → c ≡ d) → ◌≡◌ {A = ℕ} (cond (d == c) 1 0) (cond (b == a) 1 0)
run_hit c d b a to fro = grind (arith, cases_eq, ne_eqb)

pub hit : (a : ℕ) → ◌≡◌ {A = ℕ} (cond (a == a) 1 0) 1
hit a = let t : (a == a) ≡ true = eq-eqb a a refl in rw t refl

pub no_hit : (b a : ℕ) → b ≢ a → ◌≡◌ {A = ℕ} (cond (b == a) 1 0) 0
no_hit b a ne = let y : (b == a) ≡ false = ne_eqb b a ne in rw y refl

early_step : (b : ℕ) → b < 136 → (a : ℕ) → a < 288 → ◌≡◌ {A = ℕ} (runs b true (step_of a ∷ [])) (cond (b == a) 1 0)
early_step b m =
    by_kind (λ a. ◌≡◌ {A = ℕ} (runs b true (step_of a ∷ [])) (cond (b == a) 1 0))
    (λ c h. rw (step_early c h, and_true) (omega (arith, run_hit b c b c (λ e. e) (λ e. e))))
    (λ c h. rw (step_late c h, and_false) (omega (arith, no_hit b (136 + c) (omega arith))))
    (λ s h. rw (step_idle s) (sym (no_hit b (272 + s) (omega arith))))

late_step : (b : ℕ) → b < 136 → (a : ℕ) → a < 288 → ◌≡◌ {A = ℕ} (runs b false (step_of a ∷ [])) (cond (136 + b == a) 1 0)
late_step b m =
    by_kind (λ a. ◌≡◌ {A = ℕ} (runs b false (step_of a ∷ [])) (cond (136 + b == a) 1 0))
    (λ c h. rw (step_early c h, and_false) (omega (arith, no_hit (136 + b) c (omega arith))))
    (λ c h. rw (step_late c h, and_true) (omega (arith, run_hit b c (136 + b) (136 + c) (λ e. omega arith) (λ e. omega arith))))
    (λ s h. rw (step_idle s) (sym (no_hit (136 + b) (272 + s) (omega arith))))

idle_step : (b : ℕ) → b < 16 → (a : ℕ) → a < 288 → ◌≡◌ {A = ℕ} (idles b (arc_from a) (step_of a ∷ [])) (cond (272 + b == a) 1 0)
idle_step b m =
    by_kind (λ a. ◌≡◌ {A = ℕ} (idles b (arc_from a) (step_of a ∷ [])) (cond (272 + b == a) 1 0))
    (λ c h. rw (step_early c h) (sym (no_hit (272 + b) c (omega arith))))
    (λ c h. rw (step_late c h) (sym (no_hit (272 + b) (136 + c) (omega arith))))
    (λ s h. rw (step_idle s, from_idle s) (omega (arith, run_hit b s (272 + b) (272 + s) (λ e. omega arith) (λ e. omega arith))))

pub taken_push : (a : ℕ) (ss : List Step) → a < 288 → Leads 0 ss (arc_from a) →
    (b : ℕ) → b < 288 → taken b (ss ++ (step_of a ∷ [])) ≡ taken b ss + cond (b == a) 1 0
taken_push a ss h l =
    by_kind (λ b. taken b (ss ++ (step_of a ∷ [])) ≡ taken b ss + cond (b == a) 1 0)
    (λ c m. omega (
      arith,
      taken_early c ss m,
      taken_early c (ss ++ (step_of a ∷ [])) m,
      runs_push c true ss (step_of a),
      early_step c m a h,
    ))
    (λ c m. omega (arith, taken_late c ss m, taken_late c (ss ++ (step_of a ∷ [])) m, runs_push c false ss (step_of a), late_step c m a h))
    (λ s m. omega (
      arith,
      taken_idle s ss,
      taken_idle s (ss ++ (step_of a ∷ [])),
      idles_push s 0 (arc_from a) ss (step_of a) l,
      idle_step s m a h,
    ))

run_beyond : (b e f : Bool) → b ≡ false → cond (b && cond e f (not f)) 1 0 + 0 ≡ 0
run_beyond true e f h = absurd (cc)
run_beyond false e f h = refl

pub none_beyond : (a : ℕ) → a < 288 → (c : ℕ) (e : Bool) → 136 ≤ c → runs c e (step_of a ∷ []) ≡ 0
none_beyond =
    by_kind (λ a. (c : ℕ) (e : Bool) → 136 ≤ c → runs c e (step_of a ∷ []) ≡ 0)
    (λ d h c e far. rw (step_early d h) (run_beyond (d == c) e true (ne_eqb d c (omega arith))))
    (λ d h c e far. rw (step_late d h) (run_beyond (d == c) e false (ne_eqb d c (omega arith))))
    (λ s h c e far. rw (step_idle s) refl)

pub none_push : (a : ℕ) (ss : List Step) → a < 288 → ((c : ℕ) (e : Bool) → 136 ≤ c → runs c e ss ≡ 0) →
    (c : ℕ) (e : Bool) → 136 ≤ c → runs c e (ss ++ (step_of a ∷ [])) ≡ 0
none_push a ss h none c e far = omega (arith, runs_push c e ss (step_of a), none c e far, none_beyond a h c e far)

nothing_taken : (a : ℕ) → a < 288 → taken a [] ≡ 0
nothing_taken = by_kind (λ a. taken a [] ≡ 0) (λ c h. taken_early c [] h) (λ c h. taken_late c [] h) (λ s h. taken_idle s [])

pub walk_start : (counts exits : ℕ → ℕ) (root : ℕ) → IsBalanced counts 0 root → IsWalk counts exits counts [] 0 root
walk_start counts exits root balanced =
    record {
      leads = refl;
      within = omega arith;
      balanced = balanced;
      uses = λ a h. omega (arith, nothing_taken a h);
      no_other = λ c e h. refl;
      kept = λ q e none. absurd (omega (arith, e.there, none));
    }

on_balance : (a p root : ℕ) (left less : ℕ → ℕ) → a < 288 → arc_from a ≡ p → IsLess a left less → IsBalanced left p root →
    IsBalanced less (arc_to a) root
on_balance a p root left less h from l balanced q m =
    let was : outs left q + cond (q == root) 1 0 ≡ ins left q + cond (q == arc_from a) 1 0 =
    rw from (balanced q m) in
    omega (arith, was, outs_less a left less h l q, ins_less a left less h l q, flipped q (arc_from a), flipped q (arc_to a))

zero_of : (x y : ℕ) → x ≤ y → y ≡ 0 → x ≡ 0
zero_of x y le none = omega arith

on_kept : (counts exits left less : ℕ → ℕ) (a p : ℕ) → IsDeparture left (exits p) p a → IsLess a left less →
    ((q : ℕ) → IsExit counts exits q → left (exits q) ≡ 0 → IsSpent left q) →
    (q : ℕ) → IsExit counts exits q → less (exits q) ≡ 0 → IsSpent less q
on_kept counts exits left less a p d l kept q e none b m from = grind (arith, cases_eq, zero_of, less_le)

on_uses : (counts left less : ℕ → ℕ) (a : ℕ) (ss : List Step) → a < 288 → Leads 0 ss (arc_from a) → IsLess a left less →
    ((b : ℕ) → b < 288 → taken b ss + left b ≡ counts b) → (b : ℕ) → b < 288 → taken b (ss ++ (step_of a ∷ [])) + less b ≡ counts b
on_uses counts left less a ss h leads l uses b m = grind (arith, taken_push, cases_eq, no_hit)

pub walk_on : (counts exits left less : ℕ → ℕ) (a p root : ℕ) (ss : List Step) → IsWalk counts exits left ss p root →
    IsDeparture left (exits p) p a → IsLess a left less → IsWalk counts exits less (ss ++ (step_of a ∷ [])) (arc_to a) root
walk_on counts exits left less a p root ss w d l =
    let leads : Leads 0 ss (arc_from a) = rw d.leaves w.leads in
    record {
      leads = leads_push 0 (arc_from a) (arc_to a) ss (step_of a) leads (leads_over a d.known);
      within = to_below a d.known;
      balanced = on_balance a p root left less d.known d.leaves l w.balanced;
      uses = on_uses counts left less a ss d.known leads l w.uses;
      no_other = none_push a ss d.known w.no_other;
      kept = on_kept counts exits left less a p d l w.kept;
    }

-- where nothing leaves the place of the walk, it is at its root
stuck : (left : ℕ → ℕ) (p root : ℕ) → p < 16 → IsBalanced left p root → IsSpent left p → p ≡ root
stuck left p root h balanced spent =
    elim (cases_eq p root) [
      | inl same ↦ same
      | inr other ↦
          absurd (omega (arith, balanced p h, outs_spent left p spent, hit p, no_hit p root other))
    ]

spent_home : (counts exits left : ℕ → ℕ) (root set : ℕ) → IsBalanced left root root → IsSpent left root →
    ((q : ℕ) → IsExit counts exits q → left (exits q) ≡ 0 → IsSpent left q) → (q : ℕ) → LeadsToRoot counts exits root set q → IsSpent left q
spent_home counts exits left root set balanced spent kept _ at_root = spent
spent_home counts exits left root set balanced spent kept _ (by_exit q held e rest) =
    let next : IsSpent left (arc_to (exits q)) = spent_home counts exits left root set balanced spent kept (arc_to (exits q)) rest in
    kept q e
    (omega (
      arith,
      balanced (arc_to (exits q)) (to_below (exits q) e.known),
      outs_spent left (arc_to (exits q)) next,
      in_term left (exits q) e.known,
    ))

pub walk_end : (counts exits left : ℕ → ℕ) (p root set : ℕ) (ss : List Step) → IsWalk counts exits left ss p root → IsSpent left p →
    AllLeadTo counts root → holds set root ≡ true → NoneEnters counts set → ExitsLeadToRoot counts exits root set → IsWay counts root ss
walk_end counts exits left p root set ss w spent all held none leads_to_root =
    let at : p ≡ root = stuck left p root w.within w.balanced spent in
    let balanced : IsBalanced left root root = rw at at w.balanced in
    let there : IsSpent left root = rw at at spent in
    record {
      leads = rw at at w.leads;
      takes = λ a h.
          elim (cases_eq (counts a) 0) [
            | inl never ↦ omega (arith, w.uses a h)
            | inr some ↦
                let in_set : holds set (arc_from a) ≡ true = all set held none a h (omega arith) in
                let gone : left a ≡ 0 =
                spent_home counts exits left root set balanced there w.kept (arc_from a)
                (leads_to_root (arc_from a) (from_below a h) in_set) a h refl in
                omega (arith, w.uses a h)
          ];
      no_other = w.no_other;
    }
