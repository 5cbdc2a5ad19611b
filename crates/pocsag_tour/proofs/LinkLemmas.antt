-- Links between boundaries, and what they lead to.
use Rattle.pocsag_tour.proofs.Prelude.{◌≡◌, ◌⊎◌, ℕ, ◌+◌, ◌%◌, ◌<◌, ◌≤◌, ◌==◌, Bool, true, false, List, length, slice_index, sym, ap, subst, ◌∙◌, arith, inl, inr, cases_eq, nat_tests, Classes, load, start_of, finish_of, holds, IsLed, AreReached, IsReached, runs_of, ltb, bit_or, max, lt-ltb, ltb-true, start_below, holds_none, AddsLink, AreLinked, at_start, by_link, Follows, HaveIdles, HaveRuns, IsLinked}
use Rattle.std.proofs.lemmas.Nat.Bits.{bit_at_or, bit_at-lt}
use Rattle.std.specs.Int.{bit_at}
use Rattle.pocsag_tour.specs.Links.{by_idle, by_run}
use Rattle.pocsag_tour.specs.Reached.{at_start as start, by_idle as on_idle, by_run as on_run}

either_bit : (a b : ℕ) → a < 2 → b < 2 → (max a b == 1) ≡ true → ((a == 1) ≡ true) ⊎ ((b == 1) ≡ true)
either_bit a b h l e = grind (arith, cases_eq, nat_tests)

-- the members of a union
holds_either : (a b i : ℕ) → holds (bit_or a b) i ≡ true → (holds a i ≡ true) ⊎ (holds b i ≡ true)
unfolding holds
holds_either a b i held =
    either_bit (bit_at a i) (bit_at b i) (bit_at-lt a i) (bit_at-lt b i) (rw (bit_at_or a b i) at held)

left_bit : (a b : ℕ) → b < 2 → (a == 1) ≡ true → (max a b == 1) ≡ true
left_bit a b h e = grind (arith, nat_tests)

right_bit : (a b : ℕ) → a < 2 → (b == 1) ≡ true → (max a b == 1) ≡ true
right_bit a b h e = grind (arith, nat_tests)

holds_left : (a b i : ℕ) → holds a i ≡ true → holds (bit_or a b) i ≡ true
unfolding holds
holds_left a b i held = rw (bit_at_or a b i) (left_bit (bit_at a i) (bit_at b i) (bit_at-lt b i) held)

holds_right : (a b i : ℕ) → holds b i ≡ true → holds (bit_or a b) i ≡ true
unfolding holds
holds_right a b i held = rw (bit_at_or a b i) (right_bit (bit_at a i) (bit_at b i) (bit_at-lt a i) held)

pub link_at : (there : Bool) (links more : ℕ → ℕ) (from to p q : ℕ) → from ≡ p → to ≡ q → AddsLink there links more from to →
    AddsLink there links more p q
link_at there links more from to p q at end adds = rw at at (rw end at adds)

-- the links of the classes so far
pub record AreLinks (k : Classes) (choice : ℕ → ℕ) (batches : ℕ) (links : List ℕ) (n : ℕ) : Type 0 where
  pub long : length links ≡ 16
  pub linked : AreLinked k choice batches (slice_index links)
  pub runs : HaveRuns k choice (slice_index links) n

linked_more : (k : Classes) (choice : ℕ → ℕ) (batches : ℕ) (links more : ℕ → ℕ) (n c : ℕ) (e : Bool) → n ≡ runs_of k choice c e → c < 136 →
    AreLinked k choice batches links → AddsLink (ltb 0 n) links more (start_of c e) (finish_of c e) → AreLinked k choice batches more
linked_more k choice batches links more n c e is h linked adds p q l held =
    elim (adds.only p q l held) [
      | inl was ↦ linked p q l was
      | inr new ↦
          rw new.1 (rw new.2 (by_run c e h (rw is at (ltb-true 0 n new.0))))
    ]

pub runs_more : (k : Classes) (choice : ℕ → ℕ) (batches : ℕ) (links one two : List ℕ) (c early late : ℕ) →
    c < 136 → early ≡ runs_of k choice c true → late ≡ runs_of k choice c false → length two ≡ 16 →
    AddsLink (ltb 0 early) (slice_index links) (slice_index one) (start_of c true) (finish_of c true) →
    AddsLink (ltb 0 late) (slice_index one) (slice_index two) (start_of c false) (finish_of c false) →
    AreLinks k choice batches links c → AreLinks k choice batches two (c + 1)
runs_more k choice batches links one two c early late h is_early is_late long first second so_far = record {
  long = long;
  linked =
      linked_more k choice batches (slice_index one) (slice_index two) late c false is_late h
      (linked_more k choice batches (slice_index links) (slice_index one) early c true is_early h so_far.linked first) second;
  runs = λ d e low some.
      elim (cases_eq d c) [
        | inl same ↦ subst (λ (b : ℕ). 0 < runs_of k choice b e → holds (slice_index two (start_of b e)) (finish_of b e) ≡ true)
            (sym same) (own e) some
        | inr other ↦
            let there : start_of d e < 16 = start_below d e (omega arith) in
            second.kept (start_of d e) (finish_of d e) there
            (first.kept (start_of d e) (finish_of d e) there (so_far.runs d e (omega arith) some))
      ];
}
  where
    own : (e : Bool) → 0 < runs_of k choice c e → holds (slice_index two (start_of c e)) (finish_of c e) ≡ true
    own true some =
        second.kept (start_of c true) (finish_of c true) (start_below c true h)
        (first.held (lt-ltb 0 early (subst (λ (m : ℕ). 0 < m) (sym is_early) some)))
    own false some = second.held (lt-ltb 0 late (subst (λ (m : ℕ). 0 < m) (sym is_late) some))

-- a class without pages has no runs
no_runs : (k : Classes) (choice : ℕ → ℕ) (c : ℕ) (early : Bool) → slice_index k.count c ≡ 0 → choice c ≤ slice_index k.count c →
    runs_of k choice c early ≡ 0
unfolding runs_of
no_runs k choice c true none few = omega arith
no_runs k choice c false none few = omega arith

pub runs_none : (k : Classes) (choice : ℕ → ℕ) (links : ℕ → ℕ) (c : ℕ) → slice_index k.count c ≡ 0 → choice c ≤ slice_index k.count c →
    HaveRuns k choice links c → HaveRuns k choice links (c + 1)
runs_none k choice links c none few so_far d e low some = grind (arith, cases_eq, no_runs)

pub no_links : (k : Classes) (choice : ℕ → ℕ) (batches : ℕ) (links : List ℕ) → length links ≡ 16 →
    ((p : ℕ) → p < 16 → slice_index links p ≡ 0) →
    AreLinks k choice batches links 0
no_links k choice batches links long none = record {
  long = long;
  linked = λ p q h held. absurd (let out : holds (slice_index links p) q ≡ false = ap (λ (s : ℕ). holds s q) (none p h)
      ∙ holds_none q in cc);
  runs = λ c e h. absurd (omega arith);
}

-- the links of the slots so far
pub record WithIdles (k : Classes) (choice : ℕ → ℕ) (batches : ℕ) (links : List ℕ) (n : ℕ) : Type 0 where
  pub of_runs : AreLinks k choice batches links 136
  pub idles : HaveIdles k choice batches (slice_index links) n

pub idles_more : (k : Classes) (choice : ℕ → ℕ) (batches : ℕ) (links more : List ℕ) (slot used : ℕ) →
    slot < 16 → used ≡ load k choice slot → length more ≡ 16 →
    AddsLink (ltb used batches) (slice_index links) (slice_index more) slot ((slot + 1) % 16) →
    WithIdles k choice batches links slot → WithIdles k choice batches more (slot + 1)
idles_more k choice batches links more slot used h is long adds so_far = record {
  of_runs = record {
    long = long;
    linked = λ p q l held.
        elim (adds.only p q l held) [
          | inl was ↦ so_far.of_runs.linked p q l was
          | inr new ↦
              subst (λ (a : ℕ). IsLinked k choice batches a q) (sym new.1)
              (subst (λ (b : ℕ). IsLinked k choice batches slot b) (sym new.2)
              (by_idle slot h (subst (λ (m : ℕ). m < batches) is (ltb-true used batches new.0))))
        ];
    runs = λ c e l some. adds.kept (start_of c e) (finish_of c e) (start_below c e l) (so_far.of_runs.runs c e l some);
  };
  idles = λ s l some.
      elim (cases_eq s slot) [
        | inl same ↦
            subst (λ (b : ℕ). load k choice b < batches → holds (slice_index more b) ((b + 1) % 16) ≡ true) (sym same)
            (λ own. adds.held (lt-ltb used batches (subst (λ (m : ℕ). m < batches) (sym is) own))) some
        | inr other ↦ adds.kept s ((s + 1) % 16) (omega arith) (so_far.idles s (omega arith) some)
      ];
}

-- what one pass over the boundaries keeps
pub record IsGrown (links : ℕ → ℕ) (set grown n : ℕ) : Type 0 where
  pub kept : (q : ℕ) → holds set q ≡ true → holds grown q ≡ true
  pub linked : (p q : ℕ) → p < n → holds set p ≡ true → holds (links p) q ≡ true → holds grown q ≡ true
  pub led : ((q : ℕ) → holds set q ≡ true → IsLed links q) → (q : ℕ) → holds grown q ≡ true → IsLed links q

pub grown_start : (links : ℕ → ℕ) (set : ℕ) → IsGrown links set set 0
grown_start links set = record { kept = λ q h. h; linked = λ p q l. absurd (omega arith); led = λ all q h. all q h }

pub grown_link : (links : ℕ → ℕ) (set grown p : ℕ) → p < 16 → holds grown p ≡ true → IsGrown links set grown p →
    IsGrown links set (bit_or grown (links p)) (p + 1)
grown_link links set grown p h held g = record {
  kept = λ q was. holds_left grown (links p) q (g.kept q was);
  linked = λ b q l was to.
      elim (cases_eq b p) [
        | inl same ↦ holds_right grown (links p) q (rw same at to)
        | inr other ↦ holds_left grown (links p) q (g.linked b q (omega arith) was to)
      ];
  led = λ all q now.
      elim (holds_either grown (links p) q now) [
        | inl was ↦ g.led all q was
        | inr to ↦ by_link p q h to (g.led all p held)
      ];
}

pub grown_pass : (links : ℕ → ℕ) (set grown p : ℕ) → holds grown p ≡ false → IsGrown links set grown p → IsGrown links set grown (p + 1)
grown_pass links set grown p out g = record {
  kept = g.kept;
  linked = λ b q l was to.
      elim (cases_eq b p) [
        | inl same ↦ absurd (let here : holds grown p ≡ true = rw same at (g.kept b was) in cc)
        | inr other ↦ g.linked b q (omega arith) was to
      ];
  led = g.led;
}

pub follows_all : (links : ℕ → ℕ) (set grown n : ℕ) → 16 ≤ n → IsGrown links set grown n → Follows links set grown
follows_all links set grown n all g = record { kept = g.kept; linked = λ p q l was to. g.linked p q (omega arith) was to; led = g.led }

-- what is led to from boundary 0 is what is reached
led_reached : (k : Classes) (choice : ℕ → ℕ) (batches : ℕ) (links : ℕ → ℕ) → AreLinked k choice batches links → (q : ℕ) → IsLed links q →
    IsReached k choice batches q
led_reached k choice batches links linked _ at_start = start
led_reached k choice batches links linked _ (by_link p q h held rest) =
    reached_on p q (linked p q h held) (led_reached k choice batches links linked p rest)
  where
    reached_on : (p q : ℕ) → IsLinked k choice batches p q → IsReached k choice batches p → IsReached k choice batches q
    reached_on _ _ (by_idle s h some) r = on_idle s h some r
    reached_on _ _ (by_run c e h some) r = on_run c e h some r

reached_led : (k : Classes) (choice : ℕ → ℕ) (batches : ℕ) (links : ℕ → ℕ) (set : ℕ) → HaveRuns k choice links 136 →
    HaveIdles k choice batches links 16 →
    holds set 0 ≡ true → ((p q : ℕ) → p < 16 → holds set p ≡ true → holds (links p) q ≡ true → holds set q ≡ true) →
    (p : ℕ) → IsReached k choice batches p → holds set p ≡ true
reached_led k choice batches links set runs idles home closed _ start = home
reached_led k choice batches links set runs idles home closed _ (on_idle s h some rest) =
    closed s ((s + 1) % 16) h (reached_led k choice batches links set runs idles home closed s rest) (idles s h some)
reached_led k choice batches links set runs idles home closed _ (on_run c e h some rest) =
    closed (start_of c e) (finish_of c e) (start_below c e h)
    (reached_led k choice batches links set runs idles home closed (start_of c e) rest) (runs c e h some)

pub all_reached : (k : Classes) (choice : ℕ → ℕ) (batches : ℕ) (links : ℕ → ℕ) (set : ℕ) → AreLinked k choice batches links →
    HaveRuns k choice links 136 → HaveIdles k choice batches links 16 → holds set 0 ≡ true →
    ((p q : ℕ) → p < 16 → holds set p ≡ true → holds (links p) q ≡ true → holds set q ≡ true) →
    ((q : ℕ) → holds set q ≡ true → IsLed links q) → AreReached k choice batches set
all_reached k choice batches links set linked runs idles home closed led p h = (
  (λ held. led_reached k choice batches links linked p (led p held)),
  (λ r. reached_led k choice batches links set runs idles home closed p r),
)
