-- The places of a round: their pages, and how many of them are of a class.
use Rattle.pocsag_batch.proofs.Prelude.{◌≡◌, ℕ, ◌+◌, ◌<◌, ◌==◌, Bool, true, false, cond, List, [], ◌∷◌, All, length, map, get_or, refl, sym, ap, ◌∙◌, arith, range_with_len, End, Page, Step, runs, IsTourFor, all_places, class_at, page_at, places_of, count_of, served_tour}
use Rattle.std.proofs.lemmas.List.FromFn.{fill_by_all, get_or-range_with_len, length-range_with_len}
use Rattle.pocsag_slots.proofs.Walks.{count_of-cons}

pub all_within : (n : ℕ) → All (λ k. k < n) (range_with_len 0 n)
all_within n j d h =
    let long : length (range_with_len 0 n) ≡ n = length-range_with_len 0 n in
    let at : get_or (range_with_len 0 n) j d ≡ 0 + j = get_or-range_with_len 0 n j d (omega arith) in
    omega arith

pub pages_placed : (R : List Page) → map (page_at R) (all_places R) ≡ R
pages_placed R = sym (fill_by_all (page_at R) R (length R) (record { address = 0; function = 0; payload = [] }) refl (λ k h. refl))

counted : (b : Bool) (n k : ℕ) (ks : List ℕ) → n ≡ length ks → cond b 1 0 + n ≡ length (cond b (k ∷ ks) ks)
counted true n k ks e = omega arith
counted false n k ks e = omega arith

count_placed : (end : End) (R : List Page) (c : ℕ) (places : List ℕ)
    → count_of end (map (page_at R) places) c ≡ length (places_of end R c places)
count_placed end R c [] = refl
count_placed end R c (k ∷ places) =
    let pages : List Page = map (page_at R) places in
    count_of-cons end (page_at R k) pages c
    ∙ counted (class_at end R k == c) (count_of end pages c) k (places_of end R c places) (count_placed end R c places)

-- a tour has a run for each place, class by class
pub tour_serves : (end : End) (R : List Page) (steps : List Step) → IsTourFor end R steps →
    (c : ℕ) → runs c true steps + runs c false steps ≡ length (places_of end R c (all_places R))
tour_serves end R steps t c =
    (served_tour t.table end t.choice t.batches steps R t.classes t.tour).each c
    ∙ (ap (λ ps. count_of end ps c) (sym (pages_placed R))
    ∙ count_placed end R c (all_places R))
