-- The classes whose early runs have an end at a slot, one after the other.
use Rattle.pocsag_flow.proofs.Prelude.{◌≡◌, ◌≢◌, ℕ, ◌+◌, ◌-◌, ◌*◌, ◌/◌, ◌%◌, ◌<◌, ◌≤◌, true, false, refl, sym, ◌∙◌, arith, inl, inr, slice_index, cases_lt, nat_tests, Limits, class_frame, class_rest, finish_of, start_of, Network, Progress, EndsElsewhere, HasEndAt, LeadsInto, Leaves}

-- where the classes before the bare ones start and end, and the bare ones
pub start_full : (c : ℕ) → c < 128 → start_of c true ≡ 2 * (c / 16)
unfolding start_of class_frame
start_full c h = grind (arith, nat_tests)

finish_full : (c : ℕ) → c < 128 → finish_of c true ≡ (2 * (c / 16) + c % 16) % 16
unfolding finish_of start_of class_frame class_rest
finish_full c h = grind (arith, nat_tests)

pub frame_full : (c : ℕ) → c < 128 → class_frame c ≡ c / 16
unfolding class_frame
frame_full c h = grind (arith, nat_tests)

pub rest_full : (c : ℕ) → c < 128 → class_rest c ≡ c % 16
unfolding class_rest
rest_full c h = grind (arith, nat_tests)

start_bare : (c : ℕ) → 128 ≤ c → start_of c true ≡ 2 * (c - 128)
unfolding start_of class_frame
start_bare c h = grind (arith, nat_tests)

finish_bare : (c : ℕ) → 128 ≤ c → c < 136 → finish_of c true ≡ 2 * (c - 128) + 1
unfolding finish_of start_of class_frame class_rest
finish_bare c h few = grind (arith, nat_tests)

apart_full : (c slot : ℕ) → c < 128 → 2 * (c / 16) ≢ slot → (2 * (c / 16) + c % 16) % 16 ≢ slot → EndsElsewhere c slot
apart_full c slot h start finish = record {
  start = λ is. start (omega (arith, start_full c h, is));
  finish = λ is. finish (omega (arith, finish_full c h, is));
}

apart_bare : (c slot : ℕ) → 128 ≤ c → c < 136 → 2 * (c - 128) ≢ slot → 2 * (c - 128) + 1 ≢ slot → EndsElsewhere c slot
apart_bare c slot h few start finish = record {
  start = λ is. start (omega (arith, start_bare c h, is));
  finish = λ is. finish (omega (arith, finish_bare c h few, is));
}

-- before the class of frame 0 whose rest is the slot there is none
pub apart_first : (c slot : ℕ) → slot < 16 → c < slot → EndsElsewhere c slot
apart_first c slot h below = apart_full c slot (omega arith) (λ is. omega arith) (λ is. omega arith)

pub at_first : (slot : ℕ) → slot < 16 → HasEndAt slot slot
at_first slot h = inr (omega (arith, finish_full slot (omega arith)))

-- a class at the slot, by numbers
at_full : (c slot : ℕ) → c < 128 → HasEndAt c slot → 2 * (c / 16) ≢ slot → (2 * (c / 16) + c % 16) % 16 ≡ slot
at_full c slot h is other = elim is [
  | inl start ↦ absurd (other (omega (arith, start_full c h, start)))
  | inr finish ↦ omega (arith, finish_full c h, finish)
]

-- in the frame of the slot all classes, and in each other one the class of one rest
pub at_own : (c slot : ℕ) → c < 128 → start_of c true ≡ slot → c % 16 < 15 → HasEndAt (c + 1) slot
at_own c slot h start rest = inl (omega (arith, start_full c h, start_full (c + 1) (omega arith)))

pub at_other : (f slot : ℕ) → f < 8 → slot < 16 → HasEndAt (16 * f + (slot + 16 - 2 * f) % 16) slot
at_other f slot h few =
    let c : ℕ = 16 * f + (slot + 16 - 2 * f) % 16 in
    let frame : c / 16 ≡ f = omega arith in
    let rest : c % 16 ≡ (slot + 16 - 2 * f) % 16 = omega arith in
    inr (omega (arith, finish_full c (omega arith), frame, rest))

pub at_bare : (slot : ℕ) → slot < 16 → HasEndAt (128 + slot / 2) slot
at_bare slot h = elim (cases_lt (2 * (slot / 2)) slot) [
  | inl odd ↦ inr (omega (arith, finish_bare (128 + slot / 2) (omega arith) (omega arith)))
  | inr even ↦ inl (omega (arith, start_bare (128 + slot / 2) (omega arith)))
]

-- between two of them there is none: in the frame of the first, in the frame after it, and among the bare ones
none_frame : (c between slot : ℕ) → c < 128 → HasEndAt c slot → (start_of c true ≡ slot → c % 16 ≡ 15) → c < between →
    between / 16 ≡ c / 16 → EndsElsewhere between slot
none_frame c between slot h is last above frame =
    let other : 2 * (c / 16) ≢ slot = λ own. (let full : c % 16 ≡ 15 = last (start_full c h ∙ own) in omega arith) in
    let at : (2 * (c / 16) + c % 16) % 16 ≡ slot = at_full c slot h is other in
    apart_full between slot (omega arith) (λ own. other (omega arith)) (λ same. omega arith)

none_next : (f between slot : ℕ) → f < 8 → slot < 16 → between / 16 ≡ f → between % 16 < (slot + 16 - 2 * f) % 16 → EndsElsewhere between slot
none_next f between slot few h frame below =
    apart_full between slot (omega arith) (λ own. omega arith) (λ same. omega arith)

none_bare : (between slot : ℕ) → slot < 16 → 128 ≤ between → between < 128 + slot / 2 → EndsElsewhere between slot
none_bare between slot h low below = apart_bare between slot low (omega arith) (λ own. omega arith) (λ same. omega arith)

pub none_other : (c between slot : ℕ) → c < 128 → slot < 16 → HasEndAt c slot → (start_of c true ≡ slot → c % 16 ≡ 15) → c / 16 + 1 < 8 →
    c < between → between < 16 * (c / 16 + 1) + (slot + 16 - 2 * (c / 16 + 1)) % 16 → EndsElsewhere between slot
none_other c between slot h few is last more above below =
    elim (cases_lt between (16 * (c / 16 + 1))) [
      | inl here ↦ none_frame c between slot h is last above (omega arith)
      | inr next ↦ none_next (c / 16 + 1) between slot more few (omega arith) (omega arith)
    ]

pub none_to_bare : (c between slot : ℕ) → c < 128 → slot < 16 → HasEndAt c slot → (start_of c true ≡ slot → c % 16 ≡ 15) → c / 16 ≡ 7 →
    c < between → between < 128 + slot / 2 → EndsElsewhere between slot
none_to_bare c between slot h few is last seventh above below =
    elim (cases_lt between 128) [
      | inl here ↦ none_frame c between slot h is last above (omega arith)
      | inr bare ↦ none_bare between slot few bare below
    ]

pub none_behind : (c between slot : ℕ) → 128 ≤ c → slot < 16 → HasEndAt c slot → c < between → between < 136 → EndsElsewhere between slot
none_behind c between slot bare few is above below =
    elim is [
      | inl start ↦ apart_bare between slot (omega arith) below
          (λ own. omega (arith, start_bare c bare)) (λ same. omega (arith, start_bare c bare))
      | inr finish ↦ apart_bare between slot (omega arith) below
          (λ own. omega (arith, finish_bare c bare (omega arith))) (λ same. omega (arith, finish_bare c bare (omega arith)))
    ]

-- a class with no end at the slot leads nowhere from it
nowhere : (l : Limits) (early : ℕ → ℕ) (set class slot : ℕ) → EndsElsewhere class slot → LeadsInto l early set class slot
nowhere l early set class slot apart = record {
  to_late = λ is out. absurd (apart.start is);
  to_early = λ is out. absurd (apart.finish is);
}

-- the classes up to a place lead nowhere from the slot, and those behind it have no end there
pub left_apart : (n : Network) (before now : Progress) (slot class next : ℕ) → Leaves n before now slot (class + 1) →
    ((between : ℕ) → class < between → between < next → EndsElsewhere between slot) → Leaves n before now slot next
left_apart n before now slot class next l none = record {
  same = l.same;
  grows = l.grows;
  more = l.more;
  stuck = l.stuck;
  leads = λ tried h.
      elim (cases_lt tried (class + 1)) [
        | inl low ↦ l.leads tried low
        | inr high ↦ nowhere n.limits.now (slice_index before.early) now.reached tried slot (none tried (omega arith) h)
      ];
}

pub left_none : (n : Network) (before : Progress) (slot : ℕ) → Leaves n before before slot 0
left_none n before slot = record {
  same = refl;
  grows = record { each = λ s held. held };
  more = omega arith;
  stuck = record { each = λ s low held new. let none : true ≡ false = sym held ∙ new in cc };
  leads = λ tried h. absurd (omega arith);
}

pub left_before : (n : Network) (before now : Progress) (slot : ℕ) → slot < 16 → Leaves n before now slot 0 → Leaves n before now slot slot
left_before n before now slot h l = record {
  same = l.same;
  grows = l.grows;
  more = l.more;
  stuck = l.stuck;
  leads = λ tried below. nowhere n.limits.now (slice_index before.early) now.reached tried slot (apart_first tried slot h below);
}
