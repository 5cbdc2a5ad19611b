-- The frames of a plan, one after the other, and the idles of each, step by step.
use Rattle.pocsag_plan.proofs.Prelude.{◌≡◌, ℕ, ◌+◌, ◌*◌, ◌%◌, ◌<◌, ◌≤◌, ◌==◌, Bool, true, false, List, ◌∷◌, cond, arith, ap, sym, subst, ◌∙◌, refl, eq-eqb, drop, get_or, length, slice_set, take, inl, inr, cases_lt, drop_more, All-get_or, count_by_more_no, count_by_more_yes, sum_by_more, Page, AreGood, IsGoodPage, page_length, good_pages, Step, finish_of, idles, HasClasses, frame_codewords, frame_pages, frame_row, frames_of, starts_in}
use Rattle.std.proofs.Common.{length-set}
use Rattle.std.proofs.lemmas.List.Edits.{fill_by_more}
use Rattle.std.proofs.lemmas.List.FromFn.{fill_by_all}
use Rattle.pocsag_slots.specs.declared.step.Step.TheVariants.{Idle as Stay, Run}
use Rattle.pocsag_plan.specs.declared.frames.FrameRoom.{FrameRoom}

-- how many idles stand in the two slots of a frame, where the steps start at boundary p
abbrev pub room_from : ℕ → ℕ → List Step → ℕ
room_from frame p steps = idles (2 * frame) p steps + idles (2 * frame + 1) p steps

pub next_step : (steps : List Step) (i : ℕ) (s : Step) → i < length steps → get_or steps i Stay ≡ s → drop i steps ≡ s ∷ drop (i + 1) steps
next_step steps i s h is = drop_more steps i Stay h ∙ ap (λ (step : Step). step ∷ drop (i + 1) steps) is

pub class_small : (c : ℕ) (e : Bool) (steps : List Step) → HasClasses (Run c e ∷ steps) → c < 136
class_small c true steps h =
    elim (cases_lt c 136) [
      | inl small ↦ small
      | inr other ↦ let none = h c true other in let same : (c == c) ≡ true = eq-eqb c c refl in absurd (omega (arith, rw same at none))
    ]
class_small c false steps h =
    elim (cases_lt c 136) [
      | inl small ↦ small
      | inr other ↦ let none = h c false other in let same : (c == c) ≡ true = eq-eqb c c refl in absurd (omega (arith, rw same at none))
    ]

pub classes_behind : (s : Step) (steps : List Step) → HasClasses (s ∷ steps) → HasClasses steps
classes_behind Stay steps h = h
classes_behind (Run d f) steps h = λ c e high. omega (arith, h c e high)

-- the idles so far, and those of the steps that are left from boundary p, are all
abbrev pub Keeps : (frame total : ℕ) → List Step → (i p room : ℕ) → Type 0
Keeps frame total steps i p room =
    (room + room_from frame p (drop i steps) ≡ total) × HasClasses (drop i steps) × (p < 16) × (room ≤ i)

pub idle_keeps : (frame total : ℕ) (steps : List Step) (i p room more : ℕ) → i < length steps → get_or steps i Stay ≡ Stay →
    more ≡ cond (p == 2 * frame) 1 0 + cond (p == 2 * frame + 1) 1 0 → more ≤ 1 → Keeps frame total steps i p room →
    Keeps frame total steps (i + 1) ((p + 1) % 16) (room + more)
idle_keeps frame total steps i p room more h is value small keeps =
    let next : drop i steps ≡ Stay ∷ drop (i + 1) steps = next_step steps i Stay h is in
    let all : room + room_from frame p (Stay ∷ drop (i + 1) steps) ≡ total = rw next at keeps.0 in
    let classes : HasClasses (Stay ∷ drop (i + 1) steps) = rw next at keeps.1 in
    (omega (arith, all, value), classes_behind Stay (drop (i + 1) steps) classes, omega arith, omega (arith, keeps.3))

pub run_keeps : (frame total : ℕ) (steps : List Step) (i p room c q : ℕ) (e : Bool) → i < length steps → get_or steps i Stay ≡ Run c e →
    q ≡ finish_of c e → q < 16 → Keeps frame total steps i p room → Keeps frame total steps (i + 1) q room
run_keeps frame total steps i p room c q e h is value small keeps =
    let next : drop i steps ≡ Run c e ∷ drop (i + 1) steps = next_step steps i (Run c e) h is in
    let all : room + room_from frame p (Run c e ∷ drop (i + 1) steps) ≡ total = rw next at keeps.0 in
    let classes : HasClasses (Run c e ∷ drop (i + 1) steps) = rw next at keeps.1 in
    (rw value all, classes_behind (Run c e) (drop (i + 1) steps) classes, small, omega (arith, keeps.3))

-- the eight frames, with one more of them written; and all of them
pub rooms_more : (R S : List Page) (steps : List Step) (n : ℕ) (rooms : List FrameRoom) (r : FrameRoom) → S ≡ R → n < 8 → length rooms ≡ 8
    → r ≡ frame_row S steps n → ((k : ℕ) → k < n → get_or rooms k (frame_row R steps 0) ≡ frame_row R steps k) → (
    record {
      long : length (slice_set rooms n r) ≡ 8;
      rows : (k : ℕ) → k < n + 1 → get_or (slice_set rooms n r) k (frame_row R steps 0) ≡ frame_row R steps k;
    }
    )
rooms_more R S steps n rooms r same low long is so_far =
    let f : ℕ → FrameRoom = frame_row R steps in
    let this : r ≡ f n = is ∙ ap (λ (v : List Page). frame_row v steps n) same in
    record {
      long = length-set rooms n r ∙ long;
      rows = subst (λ (x : FrameRoom). (k : ℕ) → k < n + 1 → get_or (slice_set rooms n x) k (f 0) ≡ f k) (sym this)
          (fill_by_more f rooms n (f 0) (omega (arith, low, long)) so_far);
    }

pub all_rooms : (R : List Page) (steps : List Step) (n : ℕ) (rooms : List FrameRoom) → 8 ≤ n → length rooms ≡ 8
    → ((k : ℕ) → k < n → get_or rooms k (frame_row R steps 0) ≡ frame_row R steps k) → rooms ≡ frames_of R steps
all_rooms R steps n rooms all long rows =
    fill_by_all (frame_row R steps) rooms 8 (frame_row R steps 0) long (λ k low. rows k (omega (arith, low, all)))

-- the pages of a frame and their codewords, with one page more
module _ (frame : ℕ) (R : List Page) (i : ℕ) (p : Page) (within : i < length R) (here : p ≡ get_or R i p) where
  abbrev long : Page → ℕ
  long q = cond (starts_in frame q) (page_length q) 0

  codewords_more : frame_codewords frame (take (i + 1) R) ≡ frame_codewords frame (take i R) + long p
  codewords_more = sum_by_more long R i p within ∙ ap (λ (n : ℕ). frame_codewords frame (take i R) + n) (ap long (sym here))

  pub counted_in : starts_in frame p ≡ true → (frame_pages frame (take (i + 1) R) ≡ frame_pages frame (take i R) + 1)
      × (frame_codewords frame (take (i + 1) R) ≡ frame_codewords frame (take i R) + page_length p)
  counted_in is_in = (
    count_by_more_yes (starts_in frame) R i p within (ap (starts_in frame) (sym here) ∙ is_in),
    codewords_more ∙ ap (λ (b : Bool). frame_codewords frame (take i R) + cond b (page_length p) 0) is_in,
  )

  pub counted_out : starts_in frame p ≡ false → (frame_pages frame (take (i + 1) R) ≡ frame_pages frame (take i R))
      × (frame_codewords frame (take (i + 1) R) ≡ frame_codewords frame (take i R) + 0)
  counted_out is_out = (
    count_by_more_no (starts_in frame) R i p within (ap (starts_in frame) (sym here) ∙ is_out),
    codewords_more ∙ ap (λ (b : Bool). frame_codewords frame (take i R) + cond b (page_length p) 0) is_out,
  )

-- a good page has 1,401 codewords at most
pub page_short : (R : List Page) (i : ℕ) (p : Page) → i < length R → p ≡ get_or R i p → AreGood R → page_length p ≤ 1401
page_short R i p within here good =
    let it : IsGoodPage p = subst IsGoodPage (sym here) (All-get_or IsGoodPage R i p within (good_pages R good)) in
    omega (arith, it.few)
