-- With an idle in each slot all arcs lead to one another, and there is a tour that ends with an idle, which serves each end.
use Rattle.pocsag_tour.proofs.Prelude.{◌≡◌, ℕ, zero, suc, ◌+◌, ◌-◌, ◌%◌, ◌<◌, ◌≤◌, true, List, refl, arith, End, Classes, Step, IsChoice, load, SetsTakeMembers, holds, IsTour, AllLeadTo, arc_count, arc_from, arc_to, IsBalanced, IsClosing, NoneEnters}
use Rattle.pocsag_tour.proofs.CoverLemmas.{balanced_start, count_idle}
use Rattle.pocsag_tour.proofs.Existence.{is_less, one_less, way_exists}
use Rattle.pocsag_tour.proofs.Geometry.{from_below, from_idle, to_idle}
use Rattle.pocsag_tour.proofs.Joined.{balanced_without, closed_way, joined_closed}
use Rattle.pocsag_tour.proofs.Tours.{closing_idle, idle_is_last, tour_of}
use Rattle.pocsag_tour.proofs.Walks.{IsLess}

abbrev HasIdles : (ℕ → ℕ) → Type 0
HasIdles counts = (s : ℕ) → s < 16 → 0 < counts (272 + s)

-- the idles lead from each boundary to boundary 0
idles_lead : (counts : ℕ → ℕ) (set : ℕ) → HasIdles counts → holds set 0 ≡ true → NoneEnters counts set → (d s : ℕ) → s + d ≡ 15 →
    holds set s ≡ true
idles_lead counts set idle home none zero s e =
    let last : 0 ≡ arc_to (272 + s) = (let x : arc_to (272 + s) ≡ (s + 1) % 16 = to_idle s in omega arith) in
    rw (from_idle s) at (none (272 + s) (omega arith) (idle s (omega arith)) (rw last at home))
idles_lead counts set idle home none (suc d) s e =
    let next : s + 1 ≡ arc_to (272 + s) = (let x : arc_to (272 + s) ≡ (s + 1) % 16 = to_idle s in omega arith) in
    let there : holds set (s + 1) ≡ true = idles_lead counts set idle home none d (s + 1) (omega arith) in
    rw (from_idle s) at (none (272 + s) (omega arith) (idle s (omega arith)) (rw next at there))

all_lead : (counts : ℕ → ℕ) → HasIdles counts → AllLeadTo counts 0
all_lead counts idle set home none a h some =
    idles_lead counts set idle home none (15 - arc_from a) (arc_from a) (omega (arith, from_below a h))

pub spare_tour : SetsTakeMembers → (k : Classes) (end : End) (choice : ℕ → ℕ) (b : ℕ) → IsChoice k choice →
    ((slot : ℕ) → slot < 16 → load k choice slot < b) → (steps : List Step) × IsTour k end choice b steps
spare_tour law k end choice b chosen spare = whole
  where
    counts : ℕ → ℕ
    counts = arc_count k choice b

    within : (slot : ℕ) → slot < 16 → load k choice slot ≤ b
    within slot h = omega (arith, spare slot h)

    idle : HasIdles counts
    idle s h = omega (arith, count_idle k choice b s, spare s h)

    balanced : IsBalanced counts 0 0
    balanced = balanced_start k choice b counts (λ a h. refl) within

    closing : IsClosing counts 287
    closing = closing_idle counts (idle 15 (omega arith))

    less : IsLess 287 counts (one_less counts 287)
    less = is_less counts 287 closing.there

    whole : (steps : List Step) × IsTour k end choice b steps
    whole =
        let way = way_exists law (one_less counts 287) 15 (omega arith)
        (balanced_without counts (one_less counts 287) 287 balanced closing less)
        (joined_closed counts (one_less counts 287) 287 balanced (all_lead counts idle) closing less) in
        let ended = closed_way counts (one_less counts 287) 287 way.0 closing less way.1 in
        (_, tour_of k end choice b counts _ (λ a h. refl) chosen within ended.0 (ended.1 end (idle_is_last end)))
