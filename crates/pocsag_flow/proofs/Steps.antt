-- What the steps of the search for a way do, each by the steps inside it.
use Rattle.pocsag_flow.proofs.Prelude.{◌≡◌, ◌≢◌, ℕ, ◌+◌, ◌-◌, ◌*◌, ◌<◌, ◌≤◌, ◌⊎◌, true, false, refl, sym, ap, ◌∙◌, arith, inl, inr, List, length, slice_index, slice_set, get_or-set_same, get_or-set_other, length-set, cases_eq, cases_lt, nat_tests, Limits, IsWithin, load, finish_of, start_of, holds, Network, Progress, AreStuck, Includes, StaysInside, IsNetworkOf, IsOf, IsStuck, Keeps, LeadsInto, Leaves, Pushes, same_slot}
use Rattle.std.proofs.lemmas.List.{set-get_or}
use Rattle.pocsag_flow.proofs.Shifts.{Moves, load_moved}

-- a slot outside the larger set is outside the smaller one
outside : (large small s : ℕ) → Includes large small → holds large s ≡ false → holds small s ≡ false
outside large small s more out = grind (arith)

not_slot : (set s slot : ℕ) → holds set s ≡ true → holds set slot ≡ false → s ≢ slot
not_slot set s slot held out same = let other : holds set s ≡ false = ap (holds set) same ∙ out in cc

leads_larger : (l : Limits) (early : ℕ → ℕ) (large small class slot : ℕ) → Includes large small →
    LeadsInto l early small class slot → LeadsInto l early large class slot
leads_larger l early large small class slot more leads =
    record {
      to_late = λ from out. leads.to_late from (outside large small _ more out);
      to_early = λ from out. leads.to_early from (outside large small _ more out);
    }

stuck_larger : (n : Network) (early : ℕ → ℕ) (large small slot : ℕ) → Includes large small →
    IsStuck n early small slot → IsStuck n early large slot
stuck_larger n early large small slot more stuck =
    record {
      closed = record { each = λ c h. leads_larger n.limits.now early large small c slot more (stuck.closed.each c h) };
      full = stuck.full;
    }

-- the slot that is entered has no room, and is left
pub entered : (n : Network) (before mid after : Progress) (slot most moved : ℕ) →
    mid.early ≡ before.early → holds mid.reached slot ≡ true →
    ((other : ℕ) → other ≢ slot → holds mid.reached other ≡ holds before.reached other) →
    holds before.reached slot ≡ false → before.reached < mid.reached →
    slice_index n.limits.now.cap slot ≤ load n.classes.now (slice_index before.early) slot →
    Pushes n mid after slot most moved →
    (moved ≡ 0 → StaysInside n.limits.now (slice_index after.early) after.reached slot) →
    Pushes n before after slot most moved
entered n before mid after slot most moved same here others out more full p closed =
    let grown : Includes mid.reached before.reached =
    record { each = λ s held. others s (not_slot before.reached s slot held out) ∙ held } in
    let kept : Keeps mid.reached slot (slice_index before.early) (slice_index after.early) = rw same at p.kept in
    let of : (s : ℕ) → IsOf before.reached slot s → IsOf mid.reached slot s =
    λ s is. elim is [ inl held ↦ inl (grown.each s held) | inr at_slot ↦ inr at_slot ] in
    record {
      within = p.within;
      size = p.size;
      grows = record { each = λ s held. p.grows.each s (grown.each s held) };
      more = omega (arith, p.more);
      marked = p.marked;
      bounded = p.bounded;
      kept = record { each = λ c h first last. kept.each c h (of _ first) (of _ last) };
      relieved = λ some. rw same at (p.relieved some);
      same = λ none. p.same none ∙ same;
      stuck = λ none. record {
        each = λ s l held new.
            elim (cases_eq s slot) [
              | inl is ↦
                  let shut : StaysInside n.limits.now (slice_index before.early) after.reached slot =
                  rw (p.same none ∙ same) at (closed none) in
                  let stuck : IsStuck n (slice_index before.early) after.reached slot = record { closed = shut; full = full } in
                  rw is stuck
              | inr other ↦
                  let stuck : AreStuck n (slice_index before.early) mid.reached after.reached = rw same at (p.stuck none) in
                  stuck.each s l held (others s other ∙ new)
            ];
      };
    }

-- a step that moves nothing
pub left_same : (n : Network) (before now after : Progress) (slot most moved class : ℕ) →
    Leaves n before now slot class → Pushes n now after slot most moved → moved ≡ 0 → Leaves n before after slot 0
left_same n before now after slot most moved class l p none =
    let stuck : AreStuck n (slice_index before.early) now.reached after.reached = rw l.same at (p.stuck none) in
    record {
      same = p.same none ∙ l.same;
      grows = record { each = λ s held. p.grows.each s (l.grows.each s held) };
      more = omega (arith, l.more, p.more);
      stuck = record {
        each = λ s low held new.
            elim (holds now.reached s) as (λ b. (holds now.reached s ≡ b → IsStuck n (slice_index before.early) after.reached s)) [
              | true ↦ (λ e. stuck_larger n (slice_index before.early) after.reached now.reached s p.grows (l.stuck.each s low e new))
              | false ↦ (λ e. stuck.each s low held e)
            ] refl;
      };
      leads = λ tried h. absurd (omega arith);
    }

-- one class more leads nowhere
pub left_more : (n : Network) (before now after : Progress) (slot most moved class : ℕ) →
    Leaves n before now slot class → Pushes n now after slot most moved → moved ≡ 0 →
    LeadsInto n.limits.now (slice_index after.early) after.reached class slot →
    Leaves n before after slot (class + 1)
left_more n before now after slot most moved class l p none leads =
    let base : Leaves n before after slot 0 = left_same n before now after slot most moved class l p none in
    let here : LeadsInto n.limits.now (slice_index before.early) after.reached class slot = rw base.same at leads in
    record {
      same = base.same;
      grows = base.grows;
      more = base.more;
      stuck = base.stuck;
      leads = λ tried h.
          elim (cases_lt tried class) [
            | inl low ↦ leads_larger n.limits.now (slice_index before.early) after.reached now.reached tried slot p.grows (l.leads tried low)
            | inr high ↦
                let is : class ≡ tried = omega arith in
                rw is at here
          ];
    }

pub same_slot_same : (a : ℕ) → same_slot a a ≡ 1
unfolding same_slot
same_slot_same a = grind (arith, nat_tests)

pub same_slot_other : (a b : ℕ) → a ≢ b → same_slot a b ≡ 0
unfolding same_slot
same_slot_other a b ne = grind (arith, nat_tests)

-- one class is set, and the others stay
set_here : (early : List ℕ) (class e : ℕ) → class < 136 → length early ≡ 136 → slice_index (slice_set early class e) class ≡ e
set_here early class e h size = get_or-set_same early class e 0 (omega arith)

set_other : (early : List ℕ) (class e c : ℕ) → c ≢ class → slice_index (slice_set early class e) c ≡ slice_index early c
set_other early class e c ne = get_or-set_other early class c e 0 ne

set_within : (l : Limits) (early : List ℕ) (class e : ℕ) → class < 136 → length early ≡ 136 →
    slice_index l.lo class ≤ e → e ≤ slice_index l.hi class → IsWithin l (slice_index early) →
    IsWithin l (slice_index (slice_set early class e))
set_within l early class e h size low high within =
    record {
      least = λ c k.
          elim (cases_eq c class) [
            | inl is ↦ rw is (omega (arith, set_here early class e h size))
            | inr other ↦ omega (arith, set_other early class e c other, within.least c k)
          ];
      most = λ c k.
          elim (cases_eq c class) [
            | inl is ↦ rw is (omega (arith, set_here early class e h size))
            | inr other ↦ omega (arith, set_other early class e c other, within.most c k)
          ];
    }

-- where nothing moved the class is set to what it was
set_still : (early : List ℕ) (class e : ℕ) → e ≡ slice_index early class → slice_set early class e ≡ early
set_still early class e is = ap (λ (v : ℕ). slice_set early class v) is ∙ set-get_or early class 0

-- load goes on from a slot by runs of a class of which both are ends: the class is set, and all else is as it was
pushed_on : (n : Network) (before mid : Progress) (class from to e most amount moved : ℕ)
    → class < 136 → (to ≡ start_of class true) ⊎ (to ≡ finish_of class true)
    → holds before.reached from ≡ true → holds before.reached to ≡ false
    → Pushes n before mid to amount moved → amount ≤ most
    → slice_index n.limits.now.lo class ≤ e → e ≤ slice_index n.limits.now.hi class
    → ((slot : ℕ) → slot < 16 → load n.classes.now (slice_index (slice_set mid.early class e)) slot + moved * same_slot from slot
    ≡ load n.classes.now (slice_index mid.early) slot + moved * same_slot to slot)
    → (moved ≡ 0 → e ≡ slice_index mid.early class)
    → Pushes n before (record { early = slice_set mid.early class e; reached = mid.reached; end = mid.end }) from most moved
pushed_on n before mid class from to e most amount moved h between held out p fits low high loads still =
    let in_set : (q : ℕ) → IsOf before.reached from q → holds before.reached q ≡ true =
    λ q is. elim is [ inl inside ↦ inside | inr here ↦ ap (holds before.reached) here ∙ held ] in
    let other_class : (c : ℕ) → holds before.reached (start_of c true) ≡ true → holds before.reached (finish_of c true) ≡ true → c ≢ class =
    λ c first last same.
    elim between [
      | inl is ↦
          let e : holds before.reached to ≡ true = ap (holds before.reached) (is ∙ ap (λ (d : ℕ). start_of d true) (sym same)) ∙ first in cc
      | inr is ↦
          let e : holds before.reached to ≡ true = ap (holds before.reached) (is ∙ ap (λ (d : ℕ). finish_of d true) (sym same)) ∙ last in cc
    ] in
    record {
      within = set_within n.limits.now mid.early class e h p.size low high p.within;
      size = length-set mid.early class e ∙ p.size;
      grows = p.grows;
      more = p.more;
      marked = p.grows.each from held;
      bounded = omega (arith, p.bounded);
      kept = record {
        each = λ c k first last.
            let one : holds before.reached (start_of c true) ≡ true = in_set (start_of c true) first in
            let two : holds before.reached (finish_of c true) ≡ true = in_set (finish_of c true) last in
            set_other mid.early class e c (other_class c one two) ∙ p.kept.each c k (inl one) (inl two);
      };
      relieved = λ some. record {
        to_fits = (p.relieved some).to_fits;
        room = (p.relieved some).room;
        loads = λ slot l. omega (arith, loads slot l, (p.relieved some).loads slot l);
      };
      same = λ none. set_still mid.early class e (still none) ∙ p.same none;
      stuck = p.stuck;
    }

pub moved_late : (n : Network) (before mid : Progress) (class most amount moved : ℕ) → class < 136 →
    IsNetworkOf n before → holds before.reached (start_of class true) ≡ true → holds before.reached (finish_of class true) ≡ false →
    amount + slice_index n.limits.now.lo class ≤ slice_index before.early class → amount ≤ most →
    Pushes n before mid (finish_of class true) amount moved →
    Pushes n before (record {
      early = slice_set mid.early class (slice_index mid.early class - moved);
      reached = mid.reached;
      end = mid.end;
    })
    (start_of class true) most moved
moved_late n before mid class most amount moved h network held out room fits p =
    let e : ℕ = slice_index mid.early class - moved in
    let kept : slice_index mid.early class ≡ slice_index before.early class = p.kept.each class h (inl held) (inr refl) in
    let here : slice_index (slice_set mid.early class e) class ≡ e = set_here mid.early class e h p.size in
    let moves : Moves (slice_index mid.early) (slice_index (slice_set mid.early class e)) class moved =
    record { here = omega (arith, here, kept, p.bounded, room); others = λ c k ne. set_other mid.early class e c ne } in
    pushed_on n before mid class (start_of class true) (finish_of class true) e most amount moved h (inr refl) held out p fits
    (omega (arith, kept, p.bounded, room)) (omega (arith, p.within.most class h))
    (λ slot l. load_moved n.classes.now (slice_index mid.early) (slice_index (slice_set mid.early class e)) class moved slot h l
    (omega (arith, p.within.most class h, network.ordered.counted class h)) moves)
    (λ none. omega (arith, none))

pub moved_early : (n : Network) (before mid : Progress) (class most amount moved : ℕ) → class < 136 →
    IsNetworkOf n before → holds before.reached (finish_of class true) ≡ true → holds before.reached (start_of class true) ≡ false →
    slice_index before.early class + amount ≤ slice_index n.limits.now.hi class → amount ≤ most →
    Pushes n before mid (start_of class true) amount moved →
    Pushes n before (record {
      early = slice_set mid.early class (slice_index mid.early class + moved);
      reached = mid.reached;
      end = mid.end;
    })
    (finish_of class true) most moved
moved_early n before mid class most amount moved h network held out room fits p =
    let e : ℕ = slice_index mid.early class + moved in
    let kept : slice_index mid.early class ≡ slice_index before.early class = p.kept.each class h (inr refl) (inl held) in
    let here : slice_index (slice_set mid.early class e) class ≡ e = set_here mid.early class e h p.size in
    let moves : Moves (slice_index (slice_set mid.early class e)) (slice_index mid.early) class moved =
    record { here = sym here; others = λ c k ne. sym (set_other mid.early class e c ne) } in
    pushed_on n before mid class (finish_of class true) (start_of class true) e most amount moved h (inl refl) held out p fits
    (omega (arith, p.within.least class h)) (omega (arith, kept, p.bounded, room))
    (λ slot l. sym (load_moved n.classes.now (slice_index (slice_set mid.early class e)) (slice_index mid.early) class moved slot h l
    (omega (arith, here, kept, p.bounded, room, network.ordered.counted class h)) moves))
    (λ none. omega (arith, none))

pub pushes_at : (n : Network) (before after : Progress) (slot at most moved : ℕ) → slot ≡ at → Pushes n before after at most moved →
    Pushes n before after slot most moved
pushes_at n before after slot at most moved is p = rw is p

-- the loads of a switch from one slot to another
pub shifted_is : (loads : List ℕ) (from to moved slot : ℕ) → from < length loads → to < length loads → to ≢ from →
    moved ≤ slice_index loads from →
    slice_index (slice_set (slice_set loads from (slice_index loads from - moved)) to
    (slice_index (slice_set loads from (slice_index loads from - moved)) to + moved)) slot + moved * same_slot from slot
    ≡ slice_index loads slot + moved * same_slot to slot
shifted_is loads from to moved slot h l apart fits =
    let mid : List ℕ = slice_set loads from (slice_index loads from - moved) in
    let v : ℕ = slice_index mid to + moved in
    let taken : slice_index mid from ≡ slice_index loads from - moved = get_or-set_same loads from (slice_index loads from - moved) 0 h in
    let kept : slice_index mid to ≡ slice_index loads to = get_or-set_other loads from to (slice_index loads from - moved) 0 apart in
    let size : to < length mid = omega (arith, length-set loads from (slice_index loads from - moved)) in
    elim (cases_eq slot from) [
      | inl is ↦
          let here : slice_index (slice_set mid to v) from ≡ slice_index mid from =
          get_or-set_other mid to from v 0 (λ same. apart (sym same)) in
          let one : same_slot from from ≡ 1 = same_slot_same from in
          let none : same_slot to from ≡ 0 = same_slot_other to from apart in
          rw is (rw (one, none) (omega arith))
      | inr other ↦ elim (cases_eq slot to) [
        | inl is ↦
            let here : slice_index (slice_set mid to v) to ≡ v = get_or-set_same mid to v 0 size in
            let one : same_slot to to ≡ 1 = same_slot_same to in
            let none : same_slot from to ≡ 0 = same_slot_other from to (λ same. apart (sym same)) in
            rw is (rw (one, none) (omega arith))
        | inr else ↦
            let here : slice_index (slice_set mid to v) slot ≡ slice_index mid slot = get_or-set_other mid to slot v 0 else in
            let there : slice_index mid slot ≡ slice_index loads slot =
            get_or-set_other loads from slot (slice_index loads from - moved) 0 other in
            let none : same_slot from slot ≡ 0 = same_slot_other from slot (λ same. other (sym same)) in
            let nothing : same_slot to slot ≡ 0 = same_slot_other to slot (λ same. else (sym same)) in
            rw (none, nothing) (omega arith)
      ]
    ]
