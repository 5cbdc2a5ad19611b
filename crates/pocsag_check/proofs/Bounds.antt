-- An accepted tree bounds every transmission.
use Rattle.pocsag_check.proofs.Prelude.{◌≡◌, ℕ, zero, suc, ◌+◌, ◌-◌, ◌%◌, ◌<◌, ◌≤◌, ◌==◌, Bool, true, false, List, [], ◌∷◌, ◌++◌, length, map, refl, sym, ap, subst, ◌∙◌, arith, slice_index, inl, inr, length-append, cases_lt, End, Page, BoundTree, Classes, Limits, Step, runs, AreClassesOf, IsAdmitted, load, limits_of_all, finish_of, IsTour, LastAs, LastIsIdle, LastIsWhole, Leads, idles, Accepts, replicate, append-nil, get_or-replicate, length-map, arcs, early_in, run_length, class_of, covered_batches, covered_split, finish_is, AcceptsRoot, idle_behind, last_behind}
use Rattle.std.proofs.Common.{◌*◌}
use Rattle.pocsag_words.specs.declared.codeword.Kind.{Kind}
use Rattle.pocsag_words.specs.declared.codeword.Kind.TheVariants.{Message}
use Rattle.pocsag_words.specs.declared.ending.End.TheVariants as ends
use Rattle.pocsag_pages.specs.Reading.{AreApart, IsLegalFor, Reads, at_end, past_idle, past_page, frame_at}
use Rattle.pocsag_slots.specs.declared.step.Step.TheVariants.{Idle as Stay, Run}
use Rattle.pocsag_slots.specs.Cover.{covered}
use Rattle.pocsag_slots.proofs.ToursOfLists.{toured}
use Rattle.pocsag_slots.proofs.Walks.{arcs_past_run, run_length_is}
use Rattle.pocsag_check.specs.Fits.{busy, Fits}
use Rattle.pocsag_check.proofs.Refuted.{refuted}

busy_run : (items : List ℕ) (rest : List Kind) (i slot : ℕ) → slot < 16 →
    busy i (map Message items ++ rest) slot ≡ covered i (length items) slot + busy (i + length items) rest slot
unfolding covered
busy_run [] rest i slot h = let e : i ≡ i + 0 = omega arith in ap (λ (n : ℕ). busy n rest slot) e ∙ omega arith
busy_run (b ∷ items) rest i slot h =
    let left : busy (i + 1) (map Message items ++ rest) slot ≡
    covered (i + 1) (length items) slot + busy (i + 1 + length items) rest slot = busy_run items rest (i + 1) slot h in
    let e : i + 1 + length items ≡ i + length (b ∷ items) = omega arith in
    let f : busy (i + 1 + length items) rest slot ≡ busy (i + length (b ∷ items)) rest slot = ap (λ (n : ℕ). busy n rest slot) e in
    omega arith

-- each codeword is of a page or idle
busy_or_idle : (end : End) {ws : List Kind} {i : ℕ} {ps : List Page} → Reads ws i ps → (slot : ℕ) → slot < 16 →
    busy i ws slot + idles slot (i % 16) (arcs end i ws) ≡ covered i (length ws) slot
unfolding covered
busy_or_idle end at_end slot h = refl
busy_or_idle end {i = i} (past_idle {ws = ws} r) slot h =
    let left : busy (i + 1) ws slot + idles slot ((i + 1) % 16) (arcs end (i + 1) ws) ≡ covered (i + 1) (length ws) slot =
    busy_or_idle end r slot h in
    let next : (i + 1) % 16 ≡ (i % 16 + 1) % 16 = omega arith in
    let same : idles slot ((i + 1) % 16) (arcs end (i + 1) ws) ≡ idles slot ((i % 16 + 1) % 16) (arcs end (i + 1) ws) =
    ap (λ (n : ℕ). idles slot n (arcs end (i + 1) ws)) next in
    omega arith
busy_or_idle end {i = i} (past_page {high = high} {function = function} {ws = ws} items rest e b r) slot h =
    let n = 1 + length items in
    let left : busy (i + 1 + length items) rest slot + idles slot ((i + 1 + length items) % 16) (arcs end (i + 1 + length items) rest)
    ≡ covered (i + 1 + length items) (length rest) slot = busy_or_idle end r slot h in
    let words : busy (i + 1) ws slot ≡ covered (i + 1) (length items) slot + busy (i + 1 + length items) rest slot =
    ap (λ (v : List Kind). busy (i + 1) v slot) e ∙ busy_run items rest (i + 1) slot h in
    let long : run_length ws ≡ length items = ap run_length e ∙ run_length_is items rest b in
    let finish : finish_of (class_of end (frame_at i) (1 + run_length ws)) (i % 2 == 0) ≡ (i + n) % 16 =
    ap (λ (m : ℕ). finish_of (class_of end (frame_at i) (1 + m)) (i % 2 == 0)) long ∙ finish_is end i n in
    let at : (i + n) % 16 ≡ (i + 1 + length items) % 16 = omega arith in
    let steps : arcs end (i + 1) ws ≡ arcs end (i + 1 + length items) rest = ap (arcs end (i + 1)) e
    ∙ arcs_past_run end items rest (i + 1) in
    let stay : idles slot (finish_of (class_of end (frame_at i) (1 + run_length ws)) (i % 2 == 0)) (arcs end (i + 1) ws)
    ≡ idles slot ((i + 1 + length items) % 16) (arcs end (i + 1 + length items) rest) =
    ap (λ (m : ℕ). idles slot m (arcs end (i + 1) ws)) (finish ∙ at)
    ∙ ap (λ (v : List Step). idles slot ((i + 1 + length items) % 16) v) steps in
    let all : length ws ≡ length items + length rest =
    omega (arith, ap length e, length-append (map Message items) rest, length-map items Message) in
    let whole : covered (i + 1) (length ws) slot ≡ covered (i + 1) (length items) slot + covered (i + 1 + length items) (length rest) slot =
    ap (λ (m : ℕ). covered (i + 1) m slot) all ∙ covered_split (i + 1) (length items) (length rest) slot h in
    omega arith

pub none_fits : (k : Classes) (end : End) (R : List Page) (T : List Kind) (b : ℕ) (l : Limits) (t : BoundTree) → AreApart R →
    AreClassesOf k end R →
    Accepts false k end b l t → Fits T end R b l → ⊥
none_fits k end R T b l t apart classes accepted fits =
    let tour = toured k end T R b apart classes fits.legal in
    refuted t k end l (early_in end T) b (arcs end 0 T) tour
    (record {
      within = record { least = fits.least; most = fits.most };
      capped = λ slot h.
          let whole : covered 0 (length T) slot ≡ b = ap (λ (n : ℕ). covered 0 n slot) fits.legal.0.whole.1 ∙ covered_batches b slot h in
          let each : busy 0 T slot + idles slot 0 (arcs end 0 T) ≡ covered 0 (length T) slot = busy_or_idle end fits.legal.0.reads slot h in
          let cap : busy 0 T slot ≤ slice_index l.cap slot = fits.capped slot h in
          omega (arith, tour.idle slot h);
    })
    accepted

-- more batches of idles
leads_stays : (g i : ℕ) → Leads (i % 16) (replicate g Stay) ((i + g) % 16)
leads_stays zero i = omega arith
leads_stays (suc g) i =
    let next : (i + 1) % 16 ≡ (i % 16 + 1) % 16 = omega arith in
    let last : (i + 1 + g) % 16 ≡ (i + suc g) % 16 = omega arith in
    rw next at (rw last at (leads_stays g (i + 1)))

leads_append : (ss ts : List Step) (p q r : ℕ) → Leads p ss q → Leads q ts r → Leads p (ss ++ ts) r
leads_append [] ts p q r first second = rw first second
leads_append (Stay ∷ ss) ts p q r first second = leads_append ss ts ((p + 1) % 16) q r first second
leads_append (Run c e ∷ ss) ts p q r first second = (first.0, leads_append ss ts (finish_of c e) q r first.1 second)

runs_stays : (g c : ℕ) (e : Bool) → runs c e (replicate g Stay) ≡ 0
runs_stays zero c e = refl
runs_stays (suc g) c e = runs_stays g c e

runs_append : (ss : List Step) (g c : ℕ) (e : Bool) → runs c e (ss ++ replicate g Stay) ≡ runs c e ss
runs_append [] g c e = runs_stays g c e
runs_append (Stay ∷ ss) g c e = runs_append ss g c e
runs_append (Run d f ∷ ss) g c e = let same : runs c e (ss ++ replicate g Stay) ≡ runs c e ss = runs_append ss g c e in omega arith

idles_stays : (g i slot : ℕ) → idles slot (i % 16) (replicate g Stay) ≡ covered i g slot
unfolding covered
idles_stays zero i slot = refl
idles_stays (suc g) i slot =
    let next : (i + 1) % 16 ≡ (i % 16 + 1) % 16 = omega arith in
    let rest : idles slot ((i % 16 + 1) % 16) (replicate g Stay) ≡ covered (i + 1) g slot =
    rw next at (idles_stays g (i + 1) slot) in
    omega arith

idles_append : (ss ts : List Step) (p q slot : ℕ) → Leads p ss q → idles slot p (ss ++ ts) ≡ idles slot p ss + idles slot q ts
idles_append [] ts p q slot leads = let same : idles slot p ts ≡ idles slot q ts = ap (λ (n : ℕ). idles slot n ts) leads in omega arith
idles_append (Stay ∷ ss) ts p q slot leads =
    let rest : idles slot ((p + 1) % 16) (ss ++ ts) ≡ idles slot ((p + 1) % 16) ss + idles slot q ts =
    idles_append ss ts ((p + 1) % 16) q slot leads in
    omega arith
idles_append (Run c e ∷ ss) ts p q slot leads = idles_append ss ts (finish_of c e) q slot leads.1

last_stays : (g : ℕ) → LastIsWhole (replicate (suc g) Stay)
last_stays zero = tt
last_stays (suc g) = last_stays g

last_append : (ss : List Step) (g : ℕ) → LastIsWhole (ss ++ replicate (suc g) Stay)
last_append [] g = last_stays g
last_append (s ∷ ss) g = last_behind s (ss ++ replicate (suc g) Stay) (last_append ss g)

idle_stays : (g : ℕ) → LastIsIdle (replicate (suc g) Stay)
idle_stays zero = tt
idle_stays (suc g) = idle_stays g

idle_append : (ss : List Step) (g : ℕ) → LastIsIdle (ss ++ replicate (suc g) Stay)
idle_append [] g = idle_stays g
idle_append (s ∷ ss) g = idle_behind s (ss ++ replicate (suc g) Stay) (idle_append ss g)

last_as : (end : End) (ss : List Step) (g : ℕ) → LastAs end ss → LastAs end (ss ++ replicate g Stay)
last_as ends.Open ss g h = tt
last_as ends.Closed ss zero h = rw (append-nil ss) h
last_as ends.Closed ss (suc g) h = last_append ss g
last_as ends.Idle ss zero h = rw (append-nil ss) h
last_as ends.Idle ss (suc g) h = idle_append ss g

lengthened : (k : Classes) (end : End) (choice : ℕ → ℕ) (n m : ℕ) (steps : List Step) →
    IsTour k end choice n steps → IsTour k end choice (n + m) (steps ++ replicate (16 * m) Stay)
lengthened k end choice n m steps tour = record {
  leads = leads_append steps (replicate (16 * m) Stay) 0 0 0 tour.leads
      (subst (λ (q : ℕ). Leads 0 (replicate (16 * m) Stay) q) (omega arith) (leads_stays (16 * m) 0));
  early = λ c h. runs_append steps (16 * m) c true ∙ tour.early c h;
  late = λ c h. let same : runs c false (steps ++ replicate (16 * m) Stay) ≡ runs c false steps = runs_append steps (16 * m) c false in
      omega (arith, tour.late c h);
  no_other = λ c e h. runs_append steps (16 * m) c e ∙ tour.no_other c e h;
  idle = λ slot h.
      let both : idles slot 0 (steps ++ replicate (16 * m) Stay) ≡ idles slot 0 steps + idles slot 0 (replicate (16 * m) Stay) =
      idles_append steps (replicate (16 * m) Stay) 0 0 slot tour.leads in
      let more : idles slot 0 (replicate (16 * m) Stay) ≡ m = idles_stays (16 * m) 0 slot ∙ covered_batches m slot h in
      omega (arith, tour.idle slot h);
  last = last_as end steps (16 * m) tour.last;
}

-- each choice of a tour is within the limits of all
pub admitted_all : (k : Classes) (end : End) (choice : ℕ → ℕ) (b : ℕ) (steps : List Step) → IsTour k end choice b steps →
    IsAdmitted k (limits_of_all k b) choice
admitted_all k end choice b steps tour = record {
  within = record {
    least = λ c h. subst (λ (n : ℕ). n ≤ choice c) (sym (get_or-replicate 136 c 0 0 h)) (omega arith);
    most = λ c h. omega (arith, tour.late c h);
  };
  capped = λ slot h. subst (λ (n : ℕ). load k choice slot ≤ n) (sym (get_or-replicate 16 slot b 0 h)) (omega (arith, tour.idle slot h));
}

pub bounded : (k : Classes) (end : End) (R : List Page) (T : List Kind) (batches n : ℕ) (t : BoundTree) → AreApart R → AreClassesOf k end R →
    AcceptsRoot false k end batches t → IsLegalFor end T n R → batches ≤ n
bounded k end R T batches n t apart classes accepted legal =
    elim (cases_lt n batches) [
      | inr enough ↦ enough
      | inl few ↦
          let b = batches - 1 in
          let tour = toured k end T R n apart classes legal in
          let same : n + (b - n) ≡ b = omega arith in
          let longer : IsTour k end (early_in end T) b (arcs end 0 T ++ replicate (16 * (b - n)) Stay) =
          subst (λ (m : ℕ). IsTour k end (early_in end T) m (arcs end 0 T ++ replicate (16 * (b - n)) Stay)) same
          (lengthened k end (early_in end T) n (b - n) (arcs end 0 T) tour) in
          absurd (refuted t k end (limits_of_all k b) (early_in end T) b (arcs end 0 T ++ replicate (16 * (b - n)) Stay) longer
          (admitted_all k end (early_in end T) b (arcs end 0 T ++ replicate (16 * (b - n)) Stay) longer) accepted)
    ]
