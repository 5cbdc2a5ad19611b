-- The arcs of a transmission lead along it, and cover its slots.
use Rattle.pocsag_slots.proofs.Prelude.{◌≡◌, ℕ, suc, ◌+◌, ◌*◌, ◌/◌, ◌%◌, ◌<◌, ◌≤◌, ◌==◌, ◌&&◌, Bool, true, false, cond, List, [], ◌∷◌, ◌++◌, length, map, refl, sym, ap, subst, ◌∙◌, arith, length-append, eq-eqb, ne_eqb, sum_by-cons, Kind, End, Page, Reads, at_end, past_idle, past_page, BeginsNoMessage, frame_at, page_length, arcs, runs, run_length, covered, class_of, class_of_page, class_rest, start_of, finish_of, count_of, turns_of, sum_below, Leads, idles, Step, not, add-zero, length-map, Idle, Address, Message}
use Rattle.pocsag_slots.specs.declared.step.Step.TheVariants.{Idle as Stay, Run}
use Rattle.pocsag_slots.proofs.CoverLemmas.{class_below, class_rest_is, start_is, finish_is, covered_split, covered_turns}
use Rattle.pocsag_slots.proofs.SumLemmas.{sum_below-zero, sum_below-bump}

-- a run of message codewords is no arc
pub arcs_past_run : (end : End) (items : List ℕ) (rest : List Kind) (i : ℕ) →
    arcs end i (map Message items ++ rest) ≡ arcs end (i + length items) rest
arcs_past_run end [] rest i = let e : i ≡ i + 0 = omega arith in ap (λ (n : ℕ). arcs end n rest) e
arcs_past_run end (b ∷ items) rest i =
    let e : i + 1 + length items ≡ i + length (b ∷ items) = omega arith in
    arcs_past_run end items rest (i + 1) ∙ ap (λ (n : ℕ). arcs end n rest) e

pub run_length_is : (items : List ℕ) (rest : List Kind) → BeginsNoMessage rest → run_length (map Message items ++ rest) ≡ length items
run_length_is [] [] b = refl
run_length_is [] (Idle ∷ ws) b = refl
run_length_is [] (Address high function ∷ ws) b = refl
run_length_is [] (Message bits ∷ ws) b = absurd b
run_length_is (x ∷ items) rest b = let e : run_length (map Message items ++ rest) ≡ length items = run_length_is items rest b in omega arith

-- what the runs of a list of pages, among these steps, cover of a slot
abbrev pub class_cover : End → List Page → List Step → ℕ → ℕ → ℕ
class_cover end ps ss slot c =
    turns_of end ps c
    + runs c true ss * covered (start_of c true) (class_rest c) slot
    + runs c false ss * covered (start_of c false) (class_rest c) slot

unfoldable pub cover_of : End → List Page → List Step → ℕ → ℕ
cover_of end ps ss slot = sum_below 136 (class_cover end ps ss slot)

pub record IsWalk (end : End) (i n : ℕ) (ps : List Page) (ss : List Step) : Type 0 where
  pub leads : Leads (i % 16) ss ((i + n) % 16)
  pub counts : (c : ℕ) → runs c true ss + runs c false ss ≡ count_of end ps c
  pub none : (c : ℕ) (e : Bool) → 136 ≤ c → runs c e ss ≡ 0
  pub covers : (slot : ℕ) → slot < 16 → idles slot (i % 16) ss + cover_of end ps ss slot ≡ covered i n slot

walk_end : (end : End) (i : ℕ) → IsWalk end i 0 [] []
unfolding cover_of covered
walk_end end i = record {
  leads = omega arith;
  counts = λ c. refl;
  none = λ c e h. refl;
  covers = λ slot h.
      let none : sum_below 136 (class_cover end [] [] slot) ≡ 0 = sum_below-zero 136 (class_cover end [] [] slot) (λ c l. omega arith) in
      omega arith;
}

leads_from : (p q n : ℕ) (ss : List Step) → p ≡ q → Leads p ss n → Leads q ss n
leads_from p q n ss e l = subst (λ (m : ℕ). Leads m ss n) e l

leads_to : (p m n : ℕ) (ss : List Step) → m ≡ n → Leads p ss m → Leads p ss n
leads_to p m n ss e l = subst (λ (k : ℕ). Leads p ss k) e l

walk_idle : (end : End) (i n : ℕ) (ps : List Page) (ss : List Step) → IsWalk end (i + 1) n ps ss → IsWalk end i (suc n) ps (Stay ∷ ss)
unfolding covered cover_of
walk_idle end i n ps ss w =
    let next : (i + 1) % 16 ≡ (i % 16 + 1) % 16 = omega arith in
    record {
      leads = leads_from ((i + 1) % 16) ((i % 16 + 1) % 16) ((i + suc n) % 16) ss next
          (leads_to ((i + 1) % 16) ((i + 1 + n) % 16) ((i + suc n) % 16) ss (omega arith) w.leads);
      counts = w.counts;
      none = w.none;
      covers = λ slot h.
          let c : idles slot ((i + 1) % 16) ss + cover_of end ps ss slot ≡ covered (i + 1) n slot = w.covers slot h in
          let d : idles slot ((i % 16 + 1) % 16) ss + cover_of end ps ss slot ≡ covered (i + 1) n slot =
          subst (λ (m : ℕ). idles slot m ss + cover_of end ps ss slot ≡ covered (i + 1) n slot) next c in
          omega arith;
    }

-- one run more, of a class that is this one or not
pub run_counts : (b e : Bool) → cond (b && cond true e (not e)) 1 0 + cond (b && cond false e (not e)) 1 0 ≡ cond b 1 0
run_counts true true = refl
run_counts true false = refl
run_counts false e = refl

run_covers : (b e : Bool) (len turns early late early_cover late_cover : ℕ) →
    (cond b len 0 + turns) + (cond (b && cond true e (not e)) 1 0 + early) * early_cover
    + (cond (b && cond false e (not e)) 1 0 + late) * late_cover
    ≡ (turns + early * early_cover + late * late_cover) + cond b (len + cond e early_cover late_cover) 0
run_covers true true len turns early late early_cover late_cover = omega arith
run_covers true false len turns early late early_cover late_cover = omega arith
run_covers false e len turns early late early_cover late_cover = omega arith

run_none : (b e f : Bool) (n : ℕ) → b ≡ false → n ≡ 0 → cond (b && cond f e (not e)) 1 0 + n ≡ 0
run_none true e f n h z = cc
run_none false e f n h z = omega arith

choose_start : (e : Bool) (c n slot : ℕ) →
    cond e (covered (start_of c true) n slot) (covered (start_of c false) n slot) ≡ covered (start_of c e) n slot
choose_start true c n slot = refl
choose_start false c n slot = refl

pub count_of-cons : (end : End) (p : Page) (ps : List Page) (c : ℕ) →
    count_of end (p ∷ ps) c ≡ cond (class_of_page end p == c) 1 0 + count_of end ps c
count_of-cons end p ps c = sum_by-cons (λ q. cond (class_of_page end q == c) 1 0) p ps

pub turns_of-cons : (end : End) (p : Page) (ps : List Page) (c : ℕ) →
    turns_of end (p ∷ ps) c ≡ cond (class_of_page end p == c) (page_length p / 16) 0 + turns_of end ps c
turns_of-cons end p ps c = sum_by-cons (λ q. cond (class_of_page end q == c) (page_length q / 16) 0) p ps

-- the run of a page of class d covers the slots from its start on
cover_of-cons : (end : End) (p : Page) (ps : List Page) (ss : List Step) (d : ℕ) (e : Bool) (slot : ℕ) → d < 136 → class_of_page end p ≡ d →
    cover_of end (p ∷ ps) (Run d e ∷ ss) slot ≡ cover_of end ps ss slot + (page_length p / 16 + covered (start_of d e) (class_rest d) slot)
unfolding cover_of
cover_of-cons end p ps ss d e slot small is =
    let term : (c : ℕ) → class_cover end (p ∷ ps) (Run d e ∷ ss) slot c
    ≡ class_cover end ps ss slot c
    + cond (d == c)
    (page_length p / 16 + cond e (covered (start_of c true) (class_rest c) slot) (covered (start_of c false) (class_rest c) slot)) 0 =
    λ c.
    let turns : turns_of end (p ∷ ps) c ≡ cond (d == c) (page_length p / 16) 0 + turns_of end ps c =
    subst (λ (k : ℕ). turns_of end (p ∷ ps) c ≡ cond (k == c) (page_length p / 16) 0 + turns_of end ps c) is (turns_of-cons end p ps c) in
    rw turns (run_covers (d == c) e (page_length p / 16) (turns_of end ps c) (runs c true ss) (runs c false ss)
    (covered (start_of c true) (class_rest c) slot) (covered (start_of c false) (class_rest c) slot)) in
    sum_below-bump 136 d (page_length p / 16 + covered (start_of d e) (class_rest d) slot) (class_cover end ps ss slot)
    (class_cover end (p ∷ ps) (Run d e ∷ ss) slot) small
    (let same : (d == d) ≡ true = eq-eqb d d refl in
    term d ∙ rw (same, choose_start e d (class_rest d) slot) refl)
    (λ c l ne.
    let other : (d == c) ≡ false = ne_eqb d c (λ h. ne (sym h)) in
    term c ∙ rw (other, add-zero) refl)

walk_page : (end : End) (i m : ℕ) (p : Page) (ps : List Page) (ss : List Step) (d : ℕ) →
    d ≡ class_of end (frame_at i) (page_length p) → p.address % 8 ≡ frame_at i →
    IsWalk end (i + page_length p) m ps ss → IsWalk end i (page_length p + m) (p ∷ ps) (Run d (i % 2 == 0) ∷ ss)
walk_page end i m p ps ss d d_is frame w =
    let n = page_length p in
    let e = i % 2 == 0 in
    let class_is : class_of_page end p ≡ d = ap (λ (f : ℕ). class_of end f n) frame ∙ sym d_is in
    let small : d < 136 = subst (λ (k : ℕ). k < 136) (sym d_is) (class_below end (frame_at i) n (omega arith)) in
    let start : start_of d e ≡ i % 16 = subst (λ (k : ℕ). start_of k e ≡ i % 16) (sym d_is) (start_is end i n) in
    let finish : finish_of d e ≡ (i + n) % 16 = subst (λ (k : ℕ). finish_of k e ≡ (i + n) % 16) (sym d_is) (finish_is end i n) in
    let rest : class_rest d ≡ n % 16 =
    subst (λ (k : ℕ). class_rest k ≡ n % 16) (sym d_is) (class_rest_is end (frame_at i) n (omega arith)) in
    record {
      leads = (
        sym start,
        leads_from ((i + n) % 16) (finish_of d e) ((i + (n + m)) % 16) ss (sym finish)
            (leads_to ((i + n) % 16) ((i + n + m) % 16) ((i + (n + m)) % 16) ss (omega arith) w.leads),
      );
      counts = λ c.
          let more : count_of end (p ∷ ps) c ≡ cond (d == c) 1 0 + count_of end ps c =
          subst (λ (k : ℕ). count_of end (p ∷ ps) c ≡ cond (k == c) 1 0 + count_of end ps c) class_is (count_of-cons end p ps c) in
          omega (arith, run_counts (d == c) e, w.counts c);
      none = λ c f h. run_none (d == c) e f (runs c f ss) (ne_eqb d c (λ same. absurd (omega arith))) (w.none c f h);
      covers = λ slot h.
          let left : idles slot (finish_of d e) ss + cover_of end ps ss slot ≡ covered (i + n) m slot =
          subst (λ (q : ℕ). idles slot q ss + cover_of end ps ss slot ≡ covered (i + n) m slot) (sym finish) (w.covers slot h) in
          let own : covered (start_of d e) (class_rest d) slot ≡ covered (i % 16) (n % 16) slot =
          ap (λ (q : ℕ). covered q (class_rest d) slot) start ∙ ap (λ (q : ℕ). covered (i % 16) q slot) rest in
          omega (arith, cover_of-cons end p ps ss d e slot small class_is, covered_split i n m slot h, covered_turns i n slot h);
    }

-- the arcs of what reads as these pages
pub walk : (end : End) {ws : List Kind} {i : ℕ} {ps : List Page} → Reads ws i ps → IsWalk end i (length ws) ps (arcs end i ws)
walk end {i = i} at_end = walk_end end i
walk end {i = i} (past_idle {ws = ws} {ps = ps} r) = walk_idle end i (length ws) ps (arcs end (i + 1) ws) (walk end r)
walk end {i = i} (past_page {high = high} {function = function} {ws = ws} {ps = ps} items rest e b r) =
    let p : Page = record { address = 8 * high + frame_at i; function = function; payload = items } in
    let long : run_length ws ≡ length items = ap run_length e ∙ run_length_is items rest b in
    let left : arcs end (i + 1) ws ≡ arcs end (i + page_length p) rest =
    ap (arcs end (i + 1)) e
    ∙ (arcs_past_run end items rest (i + 1)
    ∙ (let f : i + 1 + length items ≡ i + page_length p = omega arith in ap (λ (n : ℕ). arcs end n rest) f)) in
    let all : length (Address high function ∷ ws) ≡ page_length p + length rest =
    omega (arith, ap length e, length-append (map Message items) rest, length-map items Message) in
    let class_is : class_of end (frame_at i) (1 + run_length ws) ≡ class_of end (frame_at i) (page_length p) =
    ap (λ (n : ℕ). class_of end (frame_at i) (1 + n)) long in
    let rest_walks : IsWalk end (i + page_length p) (length rest) ps (arcs end (i + page_length p) rest) =
    subst (λ (n : ℕ). IsWalk end n (length rest) ps (arcs end n rest)) (omega arith) (walk end r) in
    let walks =
    walk_page end i (length rest) p ps (arcs end (i + page_length p) rest) (class_of end (frame_at i) (1 + run_length ws)) class_is
    (omega arith) rest_walks in
    subst (λ (ss : List Step). IsWalk end i (length (Address high function ∷ ws)) (p ∷ ps)
    (Run (class_of end (frame_at i) (1 + run_length ws)) (i % 2 == 0) ∷ ss)) (sym left)
    (subst (λ (n : ℕ). IsWalk end i n (p ∷ ps)
    (Run (class_of end (frame_at i) (1 + run_length ws)) (i % 2 == 0) ∷ arcs end (i + page_length p) rest)) (sym all) walks)
