-- The codewords of a tour's steps, in order, are a legal transmission.
use Rattle.pocsag_slots.proofs.Prelude.{◌≡◌, ℕ, ◌+◌, ◌*◌, ◌/◌, ◌%◌, ◌<◌, ◌≤◌, ◌==◌, Bool, true, false, cond, List, [], ◌∷◌, ◌++◌, length, map, refl, sym, ap, subst, ◌∙◌, arith, eq-eqb, inl, inr, length-append, ◌⊎◌, IsPermutation, cases_lt, eqb-true, ne_eqb, nil_from_length, nat_tests, sum_by-cons, IsPermutation-cons, IsPermutation-refl, IsPermutation-trans, Contains-permutation, length_permutation, sum_by-IsPermutation, Kind, End, Page, Reads, at_end, past_idle, past_page, BeginsNoMessage, EndsIdle, EndsWhole, EndsAs, IsLegalFor, frame_at, page_words, page_length, Classes, arcs, runs, run_length, covered, AreClassesOf, load, first_of, without_first, laid, class_of, class_of_page, class_frame, start_of, finish_of, count_of, Leads, idles, IsTour, LastIsIdle, LastIsWhole, LastAs, Step, All-contains_itself, Idle, Address, Message}
use Rattle.pocsag_words.specs.declared.ending.End.TheVariants as ends
use Rattle.pocsag_slots.specs.declared.step.Step.TheVariants.{Idle as Stay, Run}
use Rattle.pocsag_slots.proofs.CoverLemmas.{class_below, class_frame_is, covered_is, finish_is}
use Rattle.pocsag_slots.proofs.FirstOfClass.{IsTaken, taken, left_counts}
use Rattle.pocsag_slots.proofs.ToursOfLists.{cover_is_load}
use Rattle.pocsag_slots.proofs.Walks.{cover_of, walk, arcs_past_run, run_length_is, run_counts}
use Rattle.pocsag_pages.proofs.Readings.{reads_at}

-- the runs among the steps are the pages, class by class
pub record IsServed (end : End) (R : List Page) (ss : List Step) : Type 0 where
  pub each : (c : ℕ) → runs c true ss + runs c false ss ≡ count_of end R c

-- where a run of this class starts here, its page starts here in its frame
pub record StartsHere (end : End) (i : ℕ) (p : Page) (c : ℕ) (e : Bool) : Type 0 where
  pub frame : frame_at i ≡ p.address % 8
  pub early : (i % 2 == 0) ≡ e
  pub finish : finish_of c e ≡ (i + page_length p) % 16

starts_here : (end : End) (i : ℕ) (p : Page) (c : ℕ) (e : Bool) → class_of_page end p ≡ c → i % 16 ≡ start_of c e → StartsHere end i p c e
unfolding start_of
starts_here end i p c e class start =
    let small : p.address % 8 < 8 = omega arith in
    let frame : class_frame c ≡ p.address % 8 =
    subst (λ (k : ℕ). class_frame k ≡ p.address % 8) class (class_frame_is end (p.address % 8) (page_length p) small) in
    let here : frame_at i ≡ p.address % 8 = at_frame e start frame in
    let parity : (i % 2 == 0) ≡ e = at_parity e start in
    record {
      frame = here;
      early = parity;
      finish =
          let f : finish_of (class_of end (frame_at i) (page_length p)) (i % 2 == 0) ≡ (i + page_length p) % 16 =
          finish_is end i (page_length p) in
          let same : class_of end (frame_at i) (page_length p) ≡ c = ap (λ (k : ℕ). class_of end k (page_length p)) here ∙ class in
          subst (λ (b : Bool). finish_of c b ≡ (i + page_length p) % 16) parity
          (subst (λ (k : ℕ). finish_of k (i % 2 == 0) ≡ (i + page_length p) % 16) same f);
    }
  where
    at_frame : (b : Bool) → i % 16 ≡ 2 * class_frame c + cond b 0 1 → class_frame c ≡ p.address % 8 → i % 16 / 2 ≡ p.address % 8
    at_frame true s f = omega arith
    at_frame false s f = omega arith

    at_parity : (b : Bool) → i % 16 ≡ 2 * class_frame c + cond b 0 1 → (i % 2 == 0) ≡ b
    at_parity true s = grind (arith, nat_tests)
    at_parity false s = grind (arith, nat_tests)

pub record IsLaid (end : End) (R : List Page) (i : ℕ) (ss : List Step) : Type 0 where
  pub ps : List Page
  pub reads : Reads (laid end R ss) i ps
  pub steps : arcs end i (laid end R ss) ≡ ss
  pub begins : BeginsNoMessage (laid end R ss)
  pub moved : IsPermutation R ps

-- no runs, no pages
no_pages : (end : End) (R : List Page) → ((c : ℕ) → 0 ≡ count_of end R c) → R ≡ []
no_pages end [] none = refl
no_pages end (p ∷ R) none =
    let c = class_of_page end p in
    let some : count_of end (p ∷ R) c ≡ cond (c == c) 1 0 + count_of end R c = sum_by-cons (λ q. cond (class_of_page end q == c) 1 0) p R in
    let same : (c == c) ≡ true = eq-eqb c c refl in
    let more : count_of end (p ∷ R) c ≡ 1 + count_of end R c = some ∙ rw same refl in
    let zero_count : 0 ≡ count_of end (p ∷ R) c = none c in
    absurd (omega arith)

pub first_runs : (c : ℕ) (e : Bool) (ss : List Step) (d : ℕ) →
    runs d true (Run c e ∷ ss) + runs d false (Run c e ∷ ss) ≡ cond (c == d) 1 0 + (runs d true ss + runs d false ss)
first_runs c e ss d = omega (arith, run_counts (c == d) e)

pub some_left : (end : End) (R : List Page) (c : ℕ) (e : Bool) (ss : List Step) → IsServed end R (Run c e ∷ ss) → 0 < count_of end R c
some_left end R c e ss s =
    let first : runs c true (Run c e ∷ ss) + runs c false (Run c e ∷ ss) ≡ cond (c == c) 1 0 + (runs c true ss + runs c false ss) =
    first_runs c e ss c in
    let same : (c == c) ≡ true = eq-eqb c c refl in
    let one : runs c true (Run c e ∷ ss) + runs c false (Run c e ∷ ss) ≡ 1 + (runs c true ss + runs c false ss) = first ∙ rw same refl in
    let all = s.each c in
    omega arith

pub served_left : (end : End) (R : List Page) (c : ℕ) (e : Bool) (ss : List Step) (p : Page) (left : List Page) →
    IsServed end R (Run c e ∷ ss) → IsTaken end c R p left → IsServed end left ss
served_left end R c e ss p left s t = record {
  each = λ d. omega (arith, first_runs c e ss d, s.each d, left_counts end c R p left t d);
}

lay_run : (end : End) (i : ℕ) (p : Page) (R left : List Page) (c : ℕ) (e : Bool) (ss : List Step) (T : List Kind) (ps : List Page) →
    StartsHere end i p c e → class_of_page end p ≡ c → Reads T (i + page_length p) ps → arcs end (i + page_length p) T ≡ ss →
    BeginsNoMessage T →
    Reads (page_words p ++ T) i (p ∷ ps) × (arcs end i (page_words p ++ T) ≡ Run c e ∷ ss)
lay_run end i p R left c e ss T ps here class reads steps begins = (
  subst (λ (q : Page). Reads (page_words p ++ T) i (q ∷ ps)) page_is
      (past_page p.payload T refl begins (reads_at T ps (i + page_length p) (i + 1 + length p.payload) (omega arith) reads)),
  ap (λ (k : ℕ). Run k (i % 2 == 0) ∷ arcs end (i + 1) (map Message p.payload ++ T)) class_is
      ∙ (ap (λ (b : Bool). Run c b ∷ arcs end (i + 1) (map Message p.payload ++ T)) here.early
      ∙ ap (λ (v : List Step). Run c e ∷ v) rest_is),
)
  where
    class_is : class_of end (frame_at i) (1 + run_length (map Message p.payload ++ T)) ≡ c
    class_is =
        ap (λ (n : ℕ). class_of end (frame_at i) (1 + n)) (run_length_is p.payload T begins)
        ∙ (ap (λ (f : ℕ). class_of end f (page_length p)) here.frame ∙ class)

    rest_is : arcs end (i + 1) (map Message p.payload ++ T) ≡ ss
    rest_is =
        let at : i + 1 + length p.payload ≡ i + page_length p = omega arith in
        arcs_past_run end p.payload T (i + 1) ∙ (ap (λ (n : ℕ). arcs end n T) at ∙ steps)

    page_is : (let q : Page = record { address = 8 * (p.address / 8) + frame_at i; function = p.function; payload = p.payload } in q) ≡ p
    page_is =
        let frame : frame_at i ≡ p.address % 8 = here.frame in
        let a : 8 * (p.address / 8) + frame_at i ≡ p.address = omega arith in
        ap (λ (n : ℕ). let q : Page = record { address = n; function = p.function; payload = p.payload } in q) a

pub lay : (end : End) (ss : List Step) (R : List Page) (i : ℕ) (q : ℕ) → Leads (i % 16) ss q → IsServed end R ss → IsLaid end R i ss
lay end [] R i q leads s =
    let none : R ≡ [] = no_pages end R (λ c. s.each c) in
    record {
      ps =
          [];
      reads = at_end;
      steps = refl;
      begins = tt;
      moved = subst (λ (v : List Page). IsPermutation v []) (sym none) (IsPermutation-refl []);
    }
lay end (Stay ∷ ss) R i q leads s =
    let next : (i % 16 + 1) % 16 ≡ (i + 1) % 16 = omega arith in
    let rest = lay end ss R (i + 1) q (subst (λ (n : ℕ). Leads n ss q) next leads) (record { each = s.each }) in
    record {
      ps = rest.ps;
      reads = past_idle rest.reads;
      steps = ap (λ (v : List Step). Stay ∷ v) rest.steps;
      begins = tt;
      moved = rest.moved;
    }
lay end (Run c e ∷ ss) R i q leads s =
    let p = first_of end c R in
    let left = without_first end c R in
    let t = taken end c R (some_left end R c e ss s) in
    let here = starts_here end i p c e t.class leads.0 in
    let rest =
    lay end ss left (i + page_length p) q (subst (λ (n : ℕ). Leads n ss q) here.finish leads.1) (served_left end R c e ss p left s t) in
    let one = lay_run end i p R left c e ss (laid end left ss) rest.ps here t.class rest.reads rest.steps rest.begins in
    record {
      ps = p ∷ rest.ps;
      reads = one.0;
      steps = one.1;
      begins = tt;
      moved = IsPermutation-trans R (p ∷ left) (p ∷ rest.ps) t.moved (IsPermutation-cons p left rest.ps rest.moved);
    }

ends_more : (w : Kind) (ws : List Kind) → 0 < length ws → EndsWhole ws → EndsWhole (w ∷ ws)
ends_more w [] some e = absurd (omega arith)
ends_more w (v ∷ ws) some e = e

ends_behind : (us ws : List Kind) → 0 < length ws → EndsWhole ws → EndsWhole (us ++ ws)
ends_behind [] ws some e = e
ends_behind (u ∷ us) ws some e = ends_more u (us ++ ws) (omega (arith, length-append us ws)) (ends_behind us ws some e)

some_laid : (end : End) (R : List Page) (s : Step) (ss : List Step) → 0 < length (laid end R (s ∷ ss))
some_laid end R Stay ss = omega arith
some_laid end R (Run c e) ss = omega arith

-- a page of class 135 is an address codeword alone
bare_page : (p : Page) → class_of_page ends.Closed p ≡ 135 → p.payload ≡ []
unfolding class_of
bare_page p h =
    let one : (page_length p == 1) ≡ true = short (page_length p == 1) h in
    let long : page_length p ≡ 1 = eqb-true (page_length p) 1 one in
    nil_from_length p.payload (omega arith)
  where
    short : (b : Bool) → cond b (128 + p.address % 8) (p.address % 8 * 16 + page_length p % 16) ≡ 135 → b ≡ true
    short true e = refl
    short false e = absurd (omega arith)

ends_laid : (ss : List Step) (R : List Page) → IsServed ends.Closed R ss → LastIsWhole ss → EndsWhole (laid ends.Closed R ss)
ends_laid [] R s h = absurd h
ends_laid (Stay ∷ []) R s h = tt
ends_laid (Stay ∷ (t ∷ ss)) R s h =
    ends_more Idle (laid ends.Closed R (t ∷ ss)) (some_laid ends.Closed R t ss) (ends_laid (t ∷ ss) R (record { each = s.each }) h)
ends_laid (Run c e ∷ []) R s h =
    let p = first_of ends.Closed c R in
    let taken_page = taken ends.Closed c R (some_left ends.Closed R c e [] s) in
    let bare : p.payload ≡ [] = bare_page p (taken_page.class ∙ h.0) in
    subst (λ (items : List ℕ). EndsWhole ((Address (p.address / 8) p.function ∷ map Message items) ++ [])) (sym bare) tt
ends_laid (Run c e ∷ (t ∷ ss)) R s h =
    let p = first_of ends.Closed c R in
    let left = without_first ends.Closed c R in
    let taken_page = taken ends.Closed c R (some_left ends.Closed R c e (t ∷ ss) s) in
    ends_behind (page_words p) (laid ends.Closed left (t ∷ ss)) (some_laid ends.Closed left t ss)
    (ends_laid (t ∷ ss) left (served_left ends.Closed R c e (t ∷ ss) p left s taken_page) h)

idle_more : (w : Kind) (ws : List Kind) → EndsIdle ws → EndsIdle (w ∷ ws)
idle_more w [] e = absurd e
idle_more w (v ∷ ws) e = e

idle_after : (us ws : List Kind) → EndsIdle ws → EndsIdle (us ++ ws)
idle_after [] ws e = e
idle_after (u ∷ us) ws e = idle_more u (us ++ ws) (idle_after us ws e)

idle_laid : (end : End) (ss : List Step) (R : List Page) → LastIsIdle ss → EndsIdle (laid end R ss)
idle_laid end [] R h = absurd h
idle_laid end (Stay ∷ []) R h = refl
idle_laid end (Stay ∷ (t ∷ ss)) R h = idle_more Idle (laid end R (t ∷ ss)) (idle_laid end (t ∷ ss) R h)
idle_laid end (Run c e ∷ []) R h = absurd h
idle_laid end (Run c e ∷ (t ∷ ss)) R h =
    idle_after (page_words (first_of end c R)) (laid end (without_first end c R) (t ∷ ss)) (idle_laid end (t ∷ ss) (without_first end c R) h)

ends_as_laid : (end : End) (ss : List Step) (R : List Page) → IsServed end R ss → LastAs end ss → EndsAs end (laid end R ss)
ends_as_laid ends.Open ss R s h = tt
ends_as_laid ends.Closed ss R s h = ends_laid ss R s h
ends_as_laid ends.Idle ss R s h = idle_laid ends.Idle ss R h

-- no page has a class from 136 on
no_class : (end : End) (R : List Page) (c : ℕ) → 136 ≤ c → count_of end R c ≡ 0
no_class end [] c h = refl
no_class end (p ∷ R) c h =
    let small : class_of_page end p < 136 = class_below end (p.address % 8) (page_length p) (omega arith) in
    let other : (class_of_page end p == c) ≡ false = ne_eqb (class_of_page end p) c (λ same. absurd (omega arith)) in
    let all : count_of end (p ∷ R) c ≡ cond (class_of_page end p == c) 1 0 + count_of end R c =
    sum_by-cons (λ q. cond (class_of_page end q == c) 1 0) p R in
    let rest : count_of end R c ≡ 0 = no_class end R c h in
    all ∙ rw other (omega arith)

-- every slot covered b times
covered_whole : (n b : ℕ) → covered 0 n 0 ≡ b → covered 0 n 15 ≡ b → n ≡ 16 * b
covered_whole n b first last = omega (arith, covered_is 0 n 0 (omega arith), covered_is 0 n 15 (omega arith))

-- a tour has a run for each page, class by class
pub served_tour : (k : Classes) (end : End) (choice : ℕ → ℕ) (b : ℕ) (steps : List Step) (R : List Page) → AreClassesOf k end R →
    IsTour k end choice b steps → IsServed end R steps
served_tour k end choice b steps R classes tour = record { each = λ c. go c (cases_order_lt c) }
  where
    cases_order_lt : (c : ℕ) → (c < 136) ⊎ (136 ≤ c)
    cases_order_lt c = cases_lt c 136

    go : (c : ℕ) → (c < 136) ⊎ (136 ≤ c) → runs c true steps + runs c false steps ≡ count_of end R c
    go c (inl h) = omega (arith, tour.early c h, tour.late c h, classes.count c h)
    go c (inr h) = omega (arith, tour.no_other c true h, tour.no_other c false h, no_class end R c h)

pub laid_legal : (k : Classes) (end : End) (choice : ℕ → ℕ) (b : ℕ) (steps : List Step) (R : List Page) → 0 < b → AreClassesOf k end R →
    IsTour k end choice b steps → IsLegalFor end (laid end R steps) b R × (arcs end 0 (laid end R steps) ≡ steps)
laid_legal k end choice b steps R some classes tour =
    let s = served_tour k end choice b steps R classes tour in
    let l = lay end steps R 0 0 tour.leads s in
    let T = laid end R steps in
    let w = walk end l.reads in
    let each : (slot : ℕ) → slot < 16 → covered 0 (length T) slot ≡ b =
    λ slot h.
    let cover : idles slot 0 steps + cover_of end l.ps steps slot ≡ covered 0 (length T) slot =
    subst (λ (v : List Step). idles slot 0 v + cover_of end l.ps v slot ≡ covered 0 (length T) slot) l.steps (w.covers slot h) in
    let same : load k choice slot ≡ cover_of end l.ps steps slot =
    cover_is_load k end l.ps steps choice slot
    (λ c d. classes.turns c d ∙ sym (sum_by-IsPermutation (λ p. cond (class_of_page end p == c) (page_length p / 16) 0) R l.ps l.moved))
    tour.early tour.late in
    omega (arith, tour.idle slot h) in (
      (
        record {
          whole = (some, covered_whole (length T) b (each 0 (omega arith)) (each 15 (omega arith)));
          ps = l.ps;
          reads = l.reads;
          as_many = length_permutation R l.ps l.moved;
          each = λ j d h. Contains-permutation R l.ps _ l.moved (All-contains_itself R j d h);
        },
        ends_as_laid end steps R s tour.last,
      ),
      l.steps,
    )
