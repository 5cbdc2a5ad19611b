-- A legal transmission is a tour.
use Rattle.pocsag_slots.proofs.Prelude.{◌≡◌, ℕ, ◌+◌, ◌-◌, ◌*◌, ◌/◌, ◌<◌, ◌==◌, true, false, cond, List, length, refl, sym, ap, subst, ◌∙◌, arith, slice_index, sum_by-IsPermutation, Kind, End, Page, AreApart, IsLegalFor, page_length, Classes, Step, arcs, early_in, runs, covered, AreClassesOf, class_load, load, class_of_page, count_of, turns_of, Leads, idles, IsTour}
use Rattle.pocsag_slots.proofs.CoverLemmas.{covered_batches}
use Rattle.pocsag_slots.proofs.Endings.{ends_as}
use Rattle.pocsag_slots.proofs.Rearranged.{rearranged}
use Rattle.pocsag_slots.proofs.SumLemmas.{sum_below-same}
use Rattle.pocsag_slots.proofs.Walks.{walk, class_cover, cover_of}

-- what the runs of a choice cover is their load
pub cover_is_load : (k : Classes) (end : End) (ps : List Page) (ss : List Step) (choice : ℕ → ℕ) (slot : ℕ) →
    ((c : ℕ) → c < 136 → slice_index k.turns c ≡ turns_of end ps c) →
    ((c : ℕ) → c < 136 → runs c true ss ≡ choice c) →
    ((c : ℕ) → c < 136 → runs c false ss + choice c ≡ slice_index k.count c) →
    load k choice slot ≡ cover_of end ps ss slot
unfolding load cover_of class_load
cover_is_load k end ps ss choice slot turns early late =
    sum_below-same 136 _ (class_cover end ps ss slot)
    (λ c h.
    let same : slice_index k.turns c ≡ turns_of end ps c = turns c h in
    let starts : choice c ≡ runs c true ss = sym (early c h) in
    let others : slice_index k.count c - runs c true ss ≡ runs c false ss = omega (arith, late c h, early c h) in
    rw (same, starts, others) refl)

pub toured : (k : Classes) (end : End) (T : List Kind) (R : List Page) (b : ℕ) → AreApart R → AreClassesOf k end R →
    IsLegalFor end T b R → IsTour k end (early_in end T) b (arcs end 0 T)
unfolding early_in
toured k end T R b apart classes legal =
    let ps = legal.0.ps in
    let w = walk end legal.0.reads in
    let moved = rearranged R ps apart legal.0.as_many legal.0.each in
    let long : length T ≡ 16 * b = legal.0.whole.1 in
    let some : 0 < b = legal.0.whole.0 in
    let counts : (c : ℕ) → count_of end ps c ≡ count_of end R c =
    λ c. sum_by-IsPermutation (λ p. cond (class_of_page end p == c) 1 0) R ps moved in
    let turns : (c : ℕ) → turns_of end ps c ≡ turns_of end R c =
    λ c. sum_by-IsPermutation (λ p. cond (class_of_page end p == c) (page_length p / 16) 0) R ps moved in
    let all : (c : ℕ) → c < 136 → slice_index k.count c ≡ runs c true (arcs end 0 T) + runs c false (arcs end 0 T) =
    λ c h. classes.count c h ∙ (sym (counts c) ∙ sym (w.counts c)) in
    record {
      leads = subst (λ (q : ℕ). Leads 0 (arcs end 0 T) q) (omega arith) w.leads;
      early = λ c h. refl;
      late = λ c h. omega (arith, all c h);
      no_other = w.none;
      idle = λ slot h.
          let cover : idles slot 0 (arcs end 0 T) + cover_of end ps (arcs end 0 T) slot ≡ covered 0 (length T) slot = w.covers slot h in
          let same : load k (early_in end T) slot ≡ cover_of end ps (arcs end 0 T) slot =
          cover_is_load k end ps (arcs end 0 T) (early_in end T) slot (λ c l. classes.turns c l ∙ sym (turns c)) (λ c l. refl)
          (λ c l. omega (arith, all c l)) in
          let whole : covered 0 (length T) slot ≡ b = ap (λ (n : ℕ). covered 0 n slot) long ∙ covered_batches b slot h in
          omega arith;
      last = ends_as end T (omega arith) (omega arith) legal.1;
    }
