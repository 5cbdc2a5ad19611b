-- The receiver, one word at a time, against the list of places.
use Rattle.pocsag_pager.proofs.Prelude.{◌≡◌, ◌≢◌, ℕ, ◌+◌, ◌/◌, ◌%◌, ◌^◌, Bool, true, false, cond, nat_eq, List, [], ◌∷◌, ◌++◌, length, refl, ap, arith, Option, Some, None, option_to_list, ne_eqb, Kind, Page, frame_at, is_ours, page_called, run_of, shown_from, ended_from, open_from, ending, next_open, not, nat_lt, ◌&&◌, Idle, Address, Message, idle_word, kind_of, is_run}
use Rattle.pocsag_words.proofs.TruthValues.{and_false}

-- ---- a run of message codewords has no page of its own

run_has_none : (a i : ℕ) (ms : List (Option Kind)) → is_run ms ≡ true
    → (shown_from a i ms ≡ []) × (ended_from a i ms ≡ []) × (open_from a i ms ≡ None)
run_has_none a i [] e = (refl, refl, refl)
run_has_none a i (None ∷ ms) e = absurd (cc)
run_has_none a i (Some Idle ∷ ms) e = absurd (cc)
run_has_none a i (Some (Address high function) ∷ ms) e = absurd (cc)
run_has_none a i (Some (Message bits) ∷ ms) e = run_has_none a (i + 1) ms e

-- ---- what is shown is what has ended and what is still open

shown_case : (p : Page) (S E : List Page) (O : Option Page) (ours run : Bool) → S ≡ E ++ option_to_list O
    → (run ≡ true → S ≡ []) → (run ≡ true → E ≡ [])
    → cond ours (p ∷ S) S ≡ cond (ours && not run) (p ∷ E) E ++ option_to_list (cond (ours && run) (Some p) O)
shown_case p S E O false run e s h = e
shown_case p S E O true false e s h = ap (λ xs. p ∷ xs) e
shown_case p S E O true true e s h = rw (s refl, h refl) refl

pub shown_is : (a i : ℕ) (ms : List (Option Kind)) → shown_from a i ms ≡ ended_from a i ms ++ option_to_list (open_from a i ms)
shown_is a i [] = refl
shown_is a i (None ∷ ms) = shown_is a (i + 1) ms
shown_is a i (Some Idle ∷ ms) = shown_is a (i + 1) ms
shown_is a i (Some (Address high function) ∷ ms) =
    shown_case (page_called a function ms) (shown_from a (i + 1) ms) (ended_from a (i + 1) ms) (open_from a (i + 1) ms) (is_ours a i high)
    (is_run ms)
    (shown_is a (i + 1) ms) (λ e. (run_has_none a (i + 1) ms e).0) (λ e. (run_has_none a (i + 1) ms e).1)
shown_is a i (Some (Message bits) ∷ ms) = shown_is a (i + 1) ms

-- ---- one more word

run_more : (ms : List (Option Kind)) (m : Option Kind) → is_run (ms ++ m ∷ []) ≡ (is_run ms && is_run (m ∷ []))
run_more [] m = refl
run_more (None ∷ ms) m = refl
run_more (Some Idle ∷ ms) m = refl
run_more (Some (Address high function) ∷ ms) m = refl
run_more (Some (Message bits) ∷ ms) m = run_more ms m

-- a word after a run of message codewords lengthens it, if it is one
run_grows : (ms : List (Option Kind)) (m : Option Kind) → is_run ms ≡ true → run_of (ms ++ m ∷ []) ≡ run_of ms ++ run_of (m ∷ [])
run_grows [] m e = refl
run_grows (None ∷ ms) m e = absurd (cc)
run_grows (Some Idle ∷ ms) m e = absurd (cc)
run_grows (Some (Address high function) ∷ ms) m e = absurd (cc)
run_grows (Some (Message bits) ∷ ms) m e = ap (λ xs. bits ∷ xs) (run_grows ms m e)

-- where a run ends, the bits are those before that word
run_stops : (ms : List (Option Kind)) (m : Option Kind) → is_run (ms ++ m ∷ []) ≡ false → run_of (ms ++ m ∷ []) ≡ run_of ms
run_stops [] None e = refl
run_stops [] (Some Idle) e = refl
run_stops [] (Some (Address high function)) e = refl
run_stops [] (Some (Message bits)) e = absurd (cc)
run_stops (None ∷ ms) m e = refl
run_stops (Some Idle ∷ ms) m e = refl
run_stops (Some (Address high function) ∷ ms) m e = refl
run_stops (Some (Message bits) ∷ ms) m e = ap (λ xs. bits ∷ xs) (run_stops ms m e)

with_run : (a function : ℕ) (ms ns : List (Option Kind)) → run_of ms ≡ run_of ns → page_called a function ms ≡ page_called a function ns
with_run a function ms ns e = ap (λ (xs : List ℕ). (record { address = a; function = function; payload = xs })) e

ended_case : (p q : Page) (E F : List Page) (O : Option Page) (m : Option Kind) (ours run more : Bool)
    → F ≡ E ++ option_to_list (ending O m)
    → more ≡ (run && is_run (m ∷ [])) → (more ≡ false → q ≡ p) → (run ≡ true → E ≡ []) → (run ≡ true → O ≡ None)
    → cond (ours && not more) (q ∷ F) F ≡ cond (ours && not run) (p ∷ E) E ++ option_to_list (ending (cond (ours && run) (Some p) O) m)
ended_case p q E F O m false run more e r s h o = e
ended_case p q E F O m true false more e r s h o = rw (r, s r, e) refl
ended_case p q E F O None true true more e r s h o = rw (r, s r, e, h refl, o refl) refl
ended_case p q E F O (Some Idle) true true more e r s h o = rw (r, s r, e, h refl, o refl) refl
ended_case p q E F O (Some (Address high function)) true true more e r s h o = rw (r, s r, e, h refl, o refl) refl
ended_case p q E F O (Some (Message bits)) true true more e r s h o = rw (r, e, h refl) refl

no_end : (b : Bool) (p : Page) → cond (b && false) (p ∷ []) [] ≡ []
no_end true p = refl
no_end false p = refl

pub ended_more : (a i : ℕ) (ms : List (Option Kind)) (m : Option Kind)
    → ended_from a i (ms ++ m ∷ []) ≡ ended_from a i ms ++ option_to_list (ending (open_from a i ms) m)
ended_more a i [] None = refl
ended_more a i [] (Some Idle) = refl
ended_more a i [] (Some (Address high function)) = no_end (is_ours a i high) (page_called a function [])
ended_more a i [] (Some (Message bits)) = refl
ended_more a i (None ∷ ms) m = ended_more a (i + 1) ms m
ended_more a i (Some Idle ∷ ms) m = ended_more a (i + 1) ms m
ended_more a i (Some (Address high function) ∷ ms) m =
    ended_case (page_called a function ms) (page_called a function (ms ++ m ∷ [])) (ended_from a (i + 1) ms)
    (ended_from a (i + 1) (ms ++ m ∷ []))
    (open_from a (i + 1) ms) m (is_ours a i high) (is_run ms) (is_run (ms ++ m ∷ [])) (ended_more a (i + 1) ms m) (run_more ms m)
    (λ e. with_run a function (ms ++ m ∷ []) ms (run_stops ms m e)) (λ e. (run_has_none a (i + 1) ms e).1)
    (λ e. (run_has_none a (i + 1) ms e).2)
ended_more a i (Some (Message bits) ∷ ms) m = ended_more a (i + 1) ms m

open_case : (a j : ℕ) (p q : Page) (O N : Option Page) (m : Option Kind) (ours run more : Bool) → N ≡ next_open a j O m
    → more ≡ (run && is_run (m ∷ [])) → (run ≡ true → q ≡ record p { payload = p.payload ++ run_of (m ∷ []) })
    → cond (ours && more) (Some q) N ≡ next_open a j (cond (ours && run) (Some p) O) m
open_case a j p q O N m false run more e r s = e
open_case a j p q O N m true false more e r s = rw r e
open_case a j p q O N None true true more e r s = rw r e
open_case a j p q O N (Some Idle) true true more e r s = rw r e
open_case a j p q O N (Some (Address high function)) true true more e r s = rw r e
open_case a j p q O N (Some (Message bits)) true true more e r s = rw r (ap Some (s refl))

and_true : (b : Bool) (x y : Option Page) → cond (b && true) x y ≡ cond b x y
and_true true x y = refl
and_true false x y = refl

pub open_more : (a i j : ℕ) (ms : List (Option Kind)) (m : Option Kind) → j ≡ i + length ms
    → open_from a i (ms ++ m ∷ []) ≡ next_open a j (open_from a i ms) m
open_more a i j [] None e = refl
open_more a i j [] (Some Idle) e = refl
open_more a i j [] (Some (Address high function)) e =
    let same : i ≡ j = omega arith in
    rw same (and_true (is_ours a j high) (Some (page_called a function [])) None)
open_more a i j [] (Some (Message bits)) e = refl
open_more a i j (None ∷ ms) m e = open_more a (i + 1) j ms m (omega arith)
open_more a i j (Some Idle ∷ ms) m e = open_more a (i + 1) j ms m (omega arith)
open_more a i j (Some (Address high function) ∷ ms) m e =
    open_case a j (page_called a function ms) (page_called a function (ms ++ m ∷ [])) (open_from a (i + 1) ms)
    (open_from a (i + 1) (ms ++ m ∷ []))
    m (is_ours a i high) (is_run ms) (is_run (ms ++ m ∷ [])) (open_more a (i + 1) j ms m (omega arith)) (run_more ms m)
    (λ t. ap (λ (xs : List ℕ). (record { address = a; function = function; payload = xs })) (run_grows ms m t))
open_more a i j (Some (Message bits) ∷ ms) m e = open_more a (i + 1) j ms m (omega arith)

-- ---- a word counts by its slot

is_ours_same : (a j k high : ℕ) → j % 16 ≡ k % 16 → is_ours a j high ≡ is_ours a k high
unfolding is_ours
is_ours_same a j k high e = ap (λ (n : ℕ). nat_eq (n / 2) (a % 8) && nat_eq high (a / 8)) e

pub next_open_same : (a j k : ℕ) (before : Option Page) (m : Option Kind) → j % 16 ≡ k % 16
    → next_open a j before m ≡ next_open a k before m
next_open_same a j k before None e = refl
next_open_same a j k before (Some Idle) e = refl
next_open_same a j k before (Some (Address high function)) e =
    ap (λ b. cond b (Some (page_called a function [])) None) (is_ours_same a j k high e)
next_open_same a j k before (Some (Message bits)) e = refl

-- ---- a word in another frame

is_ours_elsewhere : (a j high : ℕ) → frame_at j ≢ a % 8 → is_ours a j high ≡ false
unfolding is_ours
is_ours_elsewhere a j high n = rw (ne_eqb _ _ n) refl

pub next_open_elsewhere : (a j : ℕ) (m : Option Kind) → frame_at j ≢ a % 8 → next_open a j None m ≡ None
next_open_elsewhere a j None n = refl
next_open_elsewhere a j (Some Idle) n = refl
next_open_elsewhere a j (Some (Address high function)) n = rw (is_ours_elsewhere a j high n) refl
next_open_elsewhere a j (Some (Message bits)) n = refl

-- ---- a word with other high bits

not_ours : (a j high : ℕ) → high ≢ a / 8 → is_ours a j high ≡ false
unfolding is_ours
not_ours a j high n = rw (ne_eqb _ _ n) (and_false (nat_eq (frame_at j) (a % 8)))

quiet_case : (a j d : ℕ) (idle low : Bool) → d / 4 ≢ a / 8
    → next_open a j None (Some (cond idle Idle (cond low (Address (d / 4) (d % 4)) (Message (d % 2 ^ 20))))) ≡ None
quiet_case a j d true low n = refl
quiet_case a j d false true n = rw (not_ours a j (d / 4) n) refl
quiet_case a j d false false n = refl

pub quiet_kind : (a j w : ℕ) → w / 8192 ≢ a / 8 → next_open a j None (Some (kind_of w)) ≡ None
quiet_kind a j w n = quiet_case a j (w / 2048) (nat_eq w idle_word) (nat_lt (w / 2048) (2 ^ 20)) (λ e. n (omega arith))

pub ending_none : (m : Option Kind) → ending None m ≡ None
ending_none None = refl
ending_none (Some Idle) = refl
ending_none (Some (Address high function)) = refl
ending_none (Some (Message bits)) = refl
