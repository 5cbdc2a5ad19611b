-- What sets of exits keep: each member is visited, and the last exits lead home.
use Rattle.pocsag_tour.proofs.Prelude.{◌≡◌, ◌≢◌, ℕ, ◌<◌, true, false, List, length, slice_index, slice_set, get_or-set_same, get_or-set_other, refl, sym, subst, ◌∙◌, inl, inr, cases_eq, holds, arc_from, arc_to, IsEntering, IsExit, LeadsToRoot, at_root, by_exit, ExitsLeadToRoot, ◌+◌, ◌++◌, ◌∷◌, [], ◌⊎◌, arith, get_or_append_left, length-append, AreUsed, IsAmong}
use Rattle.std.proofs.Math.Seq.{get_or-append_seam}
use Rattle.pocsag_tour.proofs.Geometry.{to_below}

-- the set of one member
pub lone : (set member q : ℕ) → ((i : ℕ) → i ≢ member → holds set i ≡ false) → holds set q ≡ true → q ≡ member
lone set member q alone held =
    elim (cases_eq q member) [
      | inl same ↦ same
      | inr other ↦ absurd (let out : holds set q ≡ false = alone q other in cc)
    ]

exit_kept : (counts exits more : ℕ → ℕ) (q : ℕ) → more q ≡ exits q → IsExit counts exits q → IsExit counts more q
exit_kept counts exits more q same e =
    record {
      known = rw same e.known;
      leaves = rw same e.leaves;
      there = rw same e.there;
    }

pub home_grows : (counts exits more : ℕ → ℕ) (root set grown : ℕ) →
    ((q : ℕ) → holds set q ≡ true → (holds grown q ≡ true) × (more q ≡ exits q)) →
    (q : ℕ) → LeadsToRoot counts exits root set q → LeadsToRoot counts more root grown q
home_grows counts exits more root set grown kept _ at_root = at_root
home_grows counts exits more root set grown kept _ (by_exit q held exit rest) =
    let k : (holds grown q ≡ true) × (more q ≡ exits q) = kept q held in
    by_exit q k.0 (exit_kept counts exits more q k.1 exit)
    (rw k.1 (home_grows counts exits more root set grown kept (arc_to (exits q)) rest))

pub led_start : (counts exits : ℕ → ℕ) (root set : ℕ) → ((i : ℕ) → i ≢ root → holds set i ≡ false) → ExitsLeadToRoot counts exits root set
led_start counts exits root set alone q h held = subst (LeadsToRoot counts exits root set) (sym (lone set root q alone held)) at_root

pub led_more : (counts exits more : ℕ → ℕ) (root set grown a : ℕ) → ExitsLeadToRoot counts exits root set → IsEntering counts set a →
    more (arc_from a) ≡ a → ((q : ℕ) → q ≢ arc_from a → more q ≡ exits q) →
    holds grown (arc_from a) ≡ true → ((q : ℕ) → q ≢ arc_from a → holds grown q ≡ holds set q) →
    ExitsLeadToRoot counts more root grown
led_more counts exits more root set grown a leads_to_root enters new same held others q h in_grown =
    let kept : (p : ℕ) → holds set p ≡ true → (holds grown p ≡ true) × (more p ≡ exits p) =
    λ p in_set.
    let ne : p ≢ arc_from a = λ e. absurd (let x : holds set (arc_from a) ≡ true = rw e at in_set in
    let y : holds set (arc_from a) ≡ false = enters.from in cc) in
    (others p ne ∙ in_set, same p ne) in
    elim (cases_eq q (arc_from a)) [
      | inl here ↦
          let next : LeadsToRoot counts more root grown (arc_to a) =
          home_grows counts exits more root set grown kept (arc_to a) (leads_to_root (arc_to a) (to_below a enters.known) enters.to) in
          subst (LeadsToRoot counts more root grown) (sym here)
          (by_exit (arc_from a) held
          (record {
            known = rw new enters.known;
            leaves = rw new refl;
            there = rw new enters.there;
          })
          (rw new next))
      | inr other ↦ home_grows counts exits more root set grown kept q (leads_to_root q h (sym (others q other) ∙ in_grown))
    ]

-- a member stays in a set that takes one more
pub grown_keeps : (set grown member q : ℕ) → holds grown member ≡ true → ((i : ℕ) → i ≢ member → holds grown i ≡ holds set i) →
    holds set q ≡ true → holds grown q ≡ true
grown_keeps set grown member q held others was =
    elim (cases_eq q member) [
      | inl same ↦ rw same held
      | inr other ↦ others q other ∙ was
    ]

-- an exit written into a list of exits
pub exits_low : (exits : List ℕ) (at a : ℕ) → ((q : ℕ) → q < 16 → slice_index exits q < 288) → at < length exits → a < 288 →
    (q : ℕ) → q < 16 → slice_index (slice_set exits at a) q < 288
exits_low exits at a known here low q h =
    elim (cases_eq q at) [
      | inl same ↦ rw same (rw (get_or-set_same exits at a 0 here) low)
      | inr other ↦ rw (get_or-set_other exits at q a 0 other) (known q h)
    ]

pub homes_written : (counts : ℕ → ℕ) (exits : List ℕ) (root set grown a at : ℕ) → at ≡ arc_from a → at < length exits →
    ExitsLeadToRoot counts (slice_index exits) root set → IsEntering counts set a →
    holds grown at ≡ true → ((q : ℕ) → q ≢ at → holds grown q ≡ holds set q) →
    ExitsLeadToRoot counts (slice_index (slice_set exits at a)) root grown
homes_written counts exits root set grown a at from here leads_to_root enters held others =
    led_more counts (slice_index exits) (slice_index (slice_set exits at a)) root set grown a leads_to_root enters
    (subst (λ (i : ℕ). slice_index (slice_set exits at a) i ≡ a) from (get_or-set_same exits at a 0 here))
    (λ q ne. get_or-set_other exits at q a 0 (λ e. ne (e ∙ from)))
    (subst (λ (i : ℕ). holds grown i ≡ true) from held)
    (λ q ne. others q (λ e. ne (e ∙ from)))

-- the arcs of which there are some, found one after the other
pub used_first : (counts : ℕ → ℕ) → AreUsed counts 0 []
used_first counts = record {
  known = λ k h. absurd (omega (arith, h));
  some = λ k h. absurd (omega (arith, h));
  all = λ a h. absurd (omega (arith, h));
}

pub used_passed : (counts : ℕ → ℕ) (n : ℕ) (arcs : List ℕ) → AreUsed counts n arcs → (0 < counts n → ⊥) → AreUsed counts (n + 1) arcs
used_passed counts n arcs used not = record {
  known = λ k h. let low = used.known k h in omega (arith, low);
  some = used.some;
  all = λ a h have. elim (cases_eq a n) [
    | inl here ↦ absurd (not (rw here at have))
    | inr other ↦ used.all a (omega (arith, other)) have
  ];
}

pub used_found : (counts : ℕ → ℕ) (n : ℕ) (arcs : List ℕ) → AreUsed counts n arcs → 0 < counts n →
    AreUsed counts (n + 1) (arcs ++ n ∷ [])
used_found counts n arcs used have =
    let longer : length (arcs ++ n ∷ []) ≡ length arcs + 1 = omega (arith, length-append arcs (n ∷ [])) in
    let last : slice_index (arcs ++ n ∷ []) (length arcs) ≡ n = get_or-append_seam arcs n [] 0 in
    let kept : (k : ℕ) → k < length arcs → slice_index (arcs ++ n ∷ []) k ≡ slice_index arcs k =
    λ k h. get_or_append_left arcs (n ∷ []) 0 k h in
    let place : (k : ℕ) → k < length (arcs ++ n ∷ []) → (k < length arcs) ⊎ (k ≡ length arcs) = λ k h.
    elim (cases_eq k (length arcs)) [
      | inl e ↦ inr e
      | inr other ↦ inl (omega (arith, h, longer, other))
    ] in
    record {
      known = λ k h. elim (place k h) [
        | inl low ↦ let below = used.known k low in rw (kept k low) (omega (arith, below))
        | inr e ↦ rw (e, last) (omega arith)
      ];
      some = λ k h. elim (place k h) [
        | inl low ↦ rw (kept k low) (used.some k low)
        | inr e ↦ rw (e, last) have
      ];
      all = λ a h some. elim (cases_eq a n) [
        | inl here ↦ (length arcs, omega (arith, longer), last ∙ sym here)
        | inr other ↦
            let found = used.all a (omega (arith, h, other)) some in
            (found.0, omega (arith, longer, found.1), kept found.0 found.1 ∙ found.2)
      ];
    }

-- what enters a set, by these arcs
pub enters_by : (counts : ℕ → ℕ) (arcs : List ℕ) (set a : ℕ) → AreUsed counts 288 arcs → IsAmong a arcs →
    holds set (arc_from a) ≡ false → holds set (arc_to a) ≡ true → IsEntering counts set a
enters_by counts arcs set a used at from to = record {
  known = rw at.2 at (used.known at.0 at.1);
  there = rw at.2 at (used.some at.0 at.1);
  from = from;
  to = to;
}
