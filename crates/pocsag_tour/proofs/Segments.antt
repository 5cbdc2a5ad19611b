-- Segments of a walk: many steps that lead back are so many walks on.
use Rattle.pocsag_tour.proofs.Prelude.{◌≡◌, ◌≢◌, ℕ, zero, suc, ◌+◌, ◌-◌, ◌<◌, ◌≤◌, ◌==◌, true, false, cond, List, [], ◌∷◌, ◌++◌, length, slice_index, slice_set, refl, sym, ap, ◌∙◌, subst, arith, inl, inr, get_or-set_same, get_or-set_other, cases_eq, Step, holds, sum_below, arc_at, arc_from, arc_to, IsDeparture, IsWalk, step_of, ◌*◌, append_assoc, get_or, map, take, repeat, append-nil, AddsMember, sum_below-bump, sum_below-le, ArePassed, AreTaken, IsSegment, IsPath, often}
use Rattle.std.proofs.lemmas.List.Sums.{sum_by-append, sum_by-cons, sum_by_more, sum_by_more_le}
use Rattle.pocsag_tour.proofs.Joined.{cond_few}
use Rattle.pocsag_tour.proofs.Walks.{IsLess, hit, less_le, no_hit, walk_on}

-- how often an arc stands among arcs
pub often_none : (b : ℕ) → often b [] ≡ 0
unfolding often
often_none b = refl

pub often_cons : (b a : ℕ) (arcs : List ℕ) → often b (a ∷ arcs) ≡ cond (b == a) 1 0 + often b arcs
unfolding often
often_cons b a arcs = sum_by-cons (λ x. cond (b == x) 1 0) a arcs

pub often_push : (b a : ℕ) (arcs : List ℕ) → often b (arcs ++ a ∷ []) ≡ often b arcs + cond (b == a) 1 0
unfolding often
often_push b a arcs = sum_by-append (λ x. cond (b == x) 1 0) arcs (a ∷ []) ∙ omega arith

pub often_more : (b i d : ℕ) (arcs : List ℕ) → i < length arcs → often b (take (i + 1) arcs) ≡ often b (take i arcs) + cond (b == get_or arcs i d) 1 0
unfolding often
often_more b i d arcs h = sum_by_more (λ x. cond (b == x) 1 0) arcs i d h

pub often_more_le : (b i d : ℕ) (arcs : List ℕ) → i < length arcs → often b (take i arcs) + cond (b == get_or arcs i d) 1 0 ≤ often b arcs
unfolding often
often_more_le b i d arcs h = sum_by_more_le (λ x. cond (b == x) 1 0) arcs i d h

-- counts that are the same at each arc are the same
walk_as : (counts exits left less : ℕ → ℕ) (ss : List Step) (p root : ℕ) → ((b : ℕ) → left b ≡ less b) →
    IsWalk counts exits left ss p root → IsWalk counts exits less ss p root
walk_as counts exits left less ss p root h w =
    let same : ◌≡◌ {A = ℕ → ℕ} left less = λ i. λ b. h b i in
    subst (λ (f : ℕ → ℕ). IsWalk counts exits f ss p root) same w

departs : (before left : ℕ → ℕ) (exit p a : ℕ) → IsDeparture before exit p a → ((b : ℕ) → left b ≤ before b) → 0 < left a →
    IsDeparture left exit p a
departs before left exit p a d low there =
    record {
      known = d.known;
      there = there;
      leaves = d.leaves;
      last = λ e b m from ne. let none : before b ≡ 0 = d.last e b m from ne in omega (arith, low b);
    }

-- one segment
segment_on : (counts exits before left less : ℕ → ℕ) (arcs : List ℕ) (p q root : ℕ) (ss : List Step) →
    IsWalk counts exits left ss p root → IsPath before exits p arcs q → ((b : ℕ) → left b ≤ before b) →
    ((b : ℕ) → less b + often b arcs ≡ left b) → IsWalk counts exits less (ss ++ map step_of arcs) q root
segment_on counts exits before left less [] p q root ss w path low taken =
    let here : IsWalk counts exits less ss p root =
    walk_as counts exits left less ss p root (λ b. omega (arith, taken b, often_none b)) w in
    rw (append-nil ss) (subst (λ (n : ℕ). IsWalk counts exits less ss n root) path here)
segment_on counts exits before left less (a ∷ arcs) p q root ss w path low taken =
    let next : ℕ → ℕ = λ b. less b + often b arcs in
    let l : IsLess a left next = record {
      here = omega (arith, taken a, often_cons a a arcs, hit a);
      other = λ b ne. omega (arith, taken b, often_cons b a arcs, no_hit b a ne);
    } in
    let there : 0 < left a = omega (arith, l.here) in
    let d : IsDeparture left (exits p) p a = departs before left (exits p) p a path.0 low there in
    let on : IsWalk counts exits next (ss ++ (step_of a ∷ [])) (arc_to a) root = walk_on counts exits left next a p root ss w d l in
    let rest : IsWalk counts exits less ((ss ++ (step_of a ∷ [])) ++ map step_of arcs) q root =
    segment_on counts exits before next less arcs (arc_to a) q root (ss ++ (step_of a ∷ [])) on path.1
    (λ b. omega (arith, less_le a left next l b, low b)) (λ b. refl) in
    rw (append_assoc ss (step_of a ∷ []) (map step_of arcs)) at rest

-- segments that lead back, one after another
back_on : (m : ℕ) (counts exits before left less : ℕ → ℕ) (arcs : List ℕ) (p root : ℕ) (ss : List Step) →
    IsWalk counts exits left ss p root → IsPath before exits p arcs p → ((b : ℕ) → left b ≤ before b) →
    AreTaken m arcs left less → IsWalk counts exits less (ss ++ repeat m (map step_of arcs)) p root
back_on zero counts exits before left less arcs p root ss w path low taken =
    rw (append-nil ss) (walk_as counts exits left less ss p root (λ b. omega (arith, taken b)) w)
back_on (suc m) counts exits before left less arcs p root ss w path low taken =
    let next : ℕ → ℕ = λ b. less b + m * often b arcs in
    let one : IsWalk counts exits next (ss ++ map step_of arcs) p root =
    segment_on counts exits before left next arcs p p root ss w path low (λ b. omega (arith, taken b)) in
    let rest : IsWalk counts exits less ((ss ++ map step_of arcs) ++ repeat m (map step_of arcs)) p root =
    back_on m counts exits before next less arcs p root (ss ++ map step_of arcs) one path
    (λ b. omega (arith, taken b, low b)) (λ b. refl) in
    rw (append_assoc ss (map step_of arcs) (repeat m (map step_of arcs))) at rest

-- a walk goes on by its segments
pub laps_on : (counts exits left less : ℕ → ℕ) (arcs : List ℕ) (times p q root : ℕ) (ss : List Step) →
    IsSegment left exits p arcs times q → IsWalk counts exits left ss p root → AreTaken times arcs left less →
    IsWalk counts exits less (ss ++ repeat times (map step_of arcs)) q root
laps_on counts exits left less arcs times p q root ss segment w taken =
    elim (cases_eq times 1) [
      | inl once ↦
          let single : AreTaken 1 arcs left less = subst (λ (n : ℕ). AreTaken n arcs left less) once taken in
          let on : IsWalk counts exits less (ss ++ map step_of arcs) q root =
          segment_on counts exits left left less arcs p q root ss w segment.path (λ b. omega arith) (λ b. omega (arith, single b)) in
          let whole : IsWalk counts exits less (ss ++ repeat 1 (map step_of arcs)) q root = rw (append-nil (map step_of arcs)) on in
          subst (λ (n : ℕ). IsWalk counts exits less (ss ++ repeat n (map step_of arcs)) q root) (sym once) whole
      | inr more ↦
          let back : q ≡ p = segment.back more in
          let path : IsPath left exits p arcs p = subst (λ (n : ℕ). IsPath left exits p arcs n) back segment.path in
          subst (λ (n : ℕ). IsWalk counts exits less (ss ++ repeat times (map step_of arcs)) n root) (sym back)
          (back_on times counts exits left left less arcs p root ss w path (λ b. omega arith) taken)
    ]

no_less : (t x : ℕ) → 1 ≤ t → x ≤ t * x
no_less zero x h = absurd (omega arith)
no_less (suc t) x h = omega arith

-- and less is left
pub laps_less : (exits left less : ℕ → ℕ) (arcs : List ℕ) (times p q : ℕ) → IsSegment left exits p arcs times q → (length arcs ≡ 0 → ⊥) →
    AreTaken times arcs left less → sum_below 288 less < sum_below 288 left
laps_less exits left less [] times p q segment some taken = absurd (some refl)
laps_less exits left less (a ∷ arcs) times p q segment some taken =
    let mid : ℕ → ℕ = λ b. less b + cond (b == a) 1 0 in
    let more : sum_below 288 mid ≡ sum_below 288 less + 1 =
    sum_below-bump 288 a 1 less mid segment.path.0.known (omega (arith, hit a)) (λ b m ne. omega (arith, no_hit b a ne)) in
    let within : sum_below 288 mid ≤ sum_below 288 left =
    sum_below-le 288 mid left (λ b m. omega (arith, taken b, often_cons b a arcs, no_less times (often b (a ∷ arcs)) segment.some)) in
    omega arith

-- the arcs of a path are known
pub path_known : (left exits : ℕ → ℕ) (p : ℕ) (arcs : List ℕ) (q : ℕ) → IsPath left exits p arcs q →
    (k : ℕ) → k < length arcs → slice_index arcs k < 288
path_known left exits p [] q path k h = absurd (omega arith)
path_known left exits p (a ∷ arcs) q path zero h = path.0.known
path_known left exits p (a ∷ arcs) q path (suc k) h = path_known left exits (arc_to a) arcs q path.1 k (omega arith)

-- a path with one arc more
pub path_push : (left exits : ℕ → ℕ) (p : ℕ) (arcs : List ℕ) (q a : ℕ) → IsPath left exits p arcs q → IsDeparture left (exits q) q a →
    IsPath left exits p (arcs ++ a ∷ []) (arc_to a)
path_push left exits p [] q a path d =
    let at : IsDeparture left (exits p) p a = subst (λ (n : ℕ). IsDeparture left (exits n) n a) (sym path) d in
    (at, refl)
path_push left exits p (b ∷ arcs) q a path d = (path.0, path_push left exits (arc_to b) arcs q a path.1 d)

-- what was passed stays passed
pub passed_less : (left less exits kinds : ℕ → ℕ) → ((b : ℕ) → less b ≤ left b) → ArePassed left exits kinds → ArePassed less exits kinds
passed_less left less exits kinds low passed p h j m ne =
    let none : left (arc_at p j) ≡ 0 = passed p h j m ne in
    omega (arith, low (arc_at p j))

-- taking a segment leaves enough for its next arc
times_more : (t x y : ℕ) → x ≤ y → t * x ≤ t * y
times_more t x y h = grind arith

pub enough_left : (t before arc all x left : ℕ) → before + arc ≤ all → arc ≡ 1 → t * all ≤ left → x + t * before ≡ left → t ≤ x
enough_left t before arc all x left within one enough is =
    let most : t * (before + 1) ≤ t * all = times_more t (before + 1) all (omega arith) in
    omega arith

-- segments with one more behind them
pub repeat_more : {A : Type 0} (n : ℕ) (xs : List A) → repeat n xs ++ xs ≡ repeat (n + 1) xs
repeat_more zero xs = sym (append-nil xs)
repeat_more (suc n) xs =
    let next : suc n + 1 ≡ suc (n + 1) = omega arith in
    rw next (append_assoc xs (repeat n xs) xs ∙ ap (λ l. xs ++ l) (repeat_more n xs))

-- an arc from a boundary that no arc of the path leaves is not among them
none_yet : (seen p b : ℕ) (arcs : List ℕ) → holds seen p ≡ false → arc_from b ≡ p →
    ((a : ℕ) → often a arcs ≤ cond (holds seen (arc_from a)) 1 0) → often b arcs ≡ 0
none_yet seen p b arcs new from once =
    let low : often b arcs ≤ cond (holds seen p) 1 0 = rw from at (once b) in
    let zero : often b arcs ≤ 0 = rw new at low in
    omega arith

pub once_push : (seen larger p a : ℕ) (arcs : List ℕ) → AddsMember seen p larger → holds seen p ≡ false → arc_from a ≡ p →
    ((b : ℕ) → often b arcs ≤ cond (holds seen (arc_from b)) 1 0) →
    (b : ℕ) → often b (arcs ++ a ∷ []) ≤ cond (holds larger (arc_from b)) 1 0
once_push seen larger p a arcs adds new from once b =
    elim (cases_eq (arc_from b) p) [
      | inl same ↦
          let zero : often b arcs ≡ 0 = none_yet seen p b arcs new same once in
          let held : holds larger (arc_from b) ≡ true = rw same adds.held in
          rw held (omega (arith, often_push b a arcs, cond_few (b == a)))
      | inr other ↦
          let differs : b ≢ a = λ e. other (ap arc_from e ∙ from) in
          rw (adds.others (arc_from b) other) (omega (arith, often_push b a arcs, no_hit b a differs, once b))
    ]

times_less : (s t x y : ℕ) → s ≤ t → t * x ≤ y → s * x ≤ y
times_less s t x y h low =
    let mono : x * s ≤ x * t = times_more x s t h in
    omega arith

pub enough_push : (seen p a s t : ℕ) (arcs : List ℕ) (left : ℕ → ℕ) → holds seen p ≡ false → arc_from a ≡ p →
    ((b : ℕ) → often b arcs ≤ cond (holds seen (arc_from b)) 1 0) → ((b : ℕ) → t * often b arcs ≤ left b) → s ≤ t → s ≤ left a →
    (b : ℕ) → s * often b (arcs ++ a ∷ []) ≤ left b
enough_push seen p a s t arcs left new from once enough low here b =
    elim (cases_eq b a) [
      | inl same ↦
          let zero : often b arcs ≡ 0 = none_yet seen p b arcs new (ap arc_from same ∙ from) once in
          let one : often b (arcs ++ a ∷ []) ≤ 1 = omega (arith, often_push b a arcs, cond_few (b == a)) in
          let most : s * often b (arcs ++ a ∷ []) ≤ s * 1 = times_more s (often b (arcs ++ a ∷ [])) 1 one in
          omega (arith, ap left same)
      | inr other ↦
          let kept : often b (arcs ++ a ∷ []) ≡ often b arcs = omega (arith, often_push b a arcs, no_hit b a other) in
          rw kept (times_less s t (often b arcs) (left b) low (enough b))
    ]

-- the next arc of a segment is taken
pub taken_more : (times : ℕ) (arcs start now : List ℕ) (k : ℕ) → k < length arcs →
    AreTaken times (take k arcs) (slice_index start) (slice_index now) → get_or arcs k 0 < length now →
    times ≤ slice_index now (get_or arcs k 0) →
    AreTaken times (take (k + 1) arcs) (slice_index start)
    (slice_index (slice_set now (get_or arcs k 0) (slice_index now (get_or arcs k 0) - times)))
taken_more times arcs start now k h taken here room a =
    let arc = get_or arcs k 0 in
    let more : often a (take (k + 1) arcs) ≡ often a (take k arcs) + cond (a == arc) 1 0 = often_more a k 0 arcs h in
    elim (cases_eq a arc) [
      | inl same ↦
          let set : slice_index (slice_set now arc (slice_index now arc - times)) a ≡ slice_index now arc - times =
          ap (slice_index (slice_set now arc (slice_index now arc - times))) same
          ∙ get_or-set_same now arc (slice_index now arc - times) 0 here in
          let one : often a (take (k + 1) arcs) ≡ often a (take k arcs) + 1 =
          more ∙ ap (λ (n : ℕ). often a (take k arcs) + n) (rw same (hit arc)) in
          rw (set, one) (omega (arith, taken a, ap (slice_index now) same))
      | inr other ↦
          let set : slice_index (slice_set now arc (slice_index now arc - times)) a ≡ slice_index now a =
          get_or-set_other now arc a (slice_index now arc - times) 0 other in
          let none : often a (take (k + 1) arcs) ≡ often a (take k arcs) = omega (arith, more, no_hit a arc other) in
          rw (set, none) (taken a)
    ]
