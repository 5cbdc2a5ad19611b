-- Class tables that gain or lose one page, wherever it stands.
use Rattle.pocsag_plan.proofs.Prelude.{◌≡◌, ◌≢◌, ℕ, ◌+◌, ◌-◌, ◌/◌, ◌<◌, ◌==◌, cond, List, [], ◌∷◌, ◌++◌, All, length, sym, ◌∙◌, subst, arith, slice_index, slice_set, get_or-set_same, get_or-set_other, inl, inr, cases_eq, nat_tests, length-set, All-cons, All-head, All-tail, All-weaker, End, Page, IsGoodPage, page_length, Classes, AreClassesOf, class_of, class_of_page, count_of, turns_of, AreCounted, IsShort, tables_of, count_of-cons, turns_of-cons, CanGain, CanLose}
use Rattle.std.proofs.Common.{◌⊎◌}
use Rattle.std.proofs.lemmas.List.{length-append}
use Rattle.pocsag_words.specs.declared.ending.End.TheVariants as ends
use Rattle.pocsag_slots.specs.Tables.{AreTables}

-- one page of a list counts as if it stood before the others
count_amid : (end : End) (S R : List Page) (p : Page) (c : ℕ)
    → count_of end (S ++ p ∷ R) c ≡ count_of end (S ++ R) c + cond (class_of_page end p == c) 1 0
count_amid end [] R p c = omega (arith, count_of-cons end p R c)
count_amid end (q ∷ S) R p c =
    omega (arith, count_amid end S R p c, count_of-cons end q (S ++ p ∷ R) c, count_of-cons end q (S ++ R) c)

turns_amid : (end : End) (S R : List Page) (p : Page) (c : ℕ)
    → turns_of end (S ++ p ∷ R) c ≡ turns_of end (S ++ R) c + cond (class_of_page end p == c) (page_length p / 16) 0
turns_amid end [] R p c = omega (arith, turns_of-cons end p R c)
turns_amid end (q ∷ S) R p c =
    omega (arith, turns_amid end S R p c, turns_of-cons end q (S ++ p ∷ R) c, turns_of-cons end q (S ++ R) c)

-- one entry of a table is another
changed : (xs : List ℕ) (f g : ℕ → ℕ) (at value : ℕ) → length xs ≡ 136 → at < 136 → ((c : ℕ) → c < 136 → slice_index xs c ≡ f c) →
    value ≡ g at → ((c : ℕ) → at ≢ c → f c ≡ g c) → (c : ℕ) → c < 136 → slice_index (slice_set xs at value) c ≡ g c
changed xs f g at value long h each here others c l =
    elim (cases_eq at c) [
      | inl same ↦
          let fits : at < length xs = omega arith in
          subst (λ (n : ℕ). slice_index (slice_set xs at value) n ≡ g n) same (get_or-set_same xs at value 0 fits ∙ here)
      | inr other ↦ get_or-set_other xs at c value 0 (λ e. other (sym e)) ∙ (each c l ∙ others c other)
    ]

here_more : (at n more : ℕ) → n + more ≡ n + cond (at == at) more 0
here_more at n more = grind (arith, nat_tests)

other_same : (at c n more : ℕ) → at ≢ c → n + cond (at == c) more 0 ≡ n
other_same at c n more h = grind (arith, nat_tests)

-- what each element of a list is, each of the others is
pub All-amid : {X : Type 0} (P : X → Type 0) (xs ys : List X) (x : X) → All P (xs ++ x ∷ ys) → All P (xs ++ ys)
All-amid P [] ys x a = All-tail P x ys a
All-amid P (y ∷ xs) ys x a =
    All-cons P y (xs ++ ys) (All-head P y (xs ++ x ∷ ys) a) (All-amid P xs ys x (All-tail P y (xs ++ x ∷ ys) a))

pub All-here : {X : Type 0} (P : X → Type 0) (xs ys : List X) (x : X) → All P (xs ++ x ∷ ys) → P x
All-here P [] ys x a = All-head P x ys a
All-here P (y ∷ xs) ys x a = All-here P xs ys x (All-tail P y (xs ++ x ∷ ys) a)

-- a table's own facts with those of the list
pub counted_of : (k : Classes) (end : End) (R : List Page) → AreClassesOf k end R → AreCounted k.count k.turns end R
counted_of k end R of = record { long = k.tables.counts; turns_long = k.tables.totals; each = of.count; each_turns = of.turns }

pub short_pages : (R : List Page) → All IsGoodPage R → All IsShort R
short_pages R good = All-weaker IsGoodPage IsShort (λ p g. g.few) R good

pub counted_more : (counts turns : List ℕ) (end : End) (S R : List Page) (p : Page) → class_of_page end p < 136
    → AreCounted counts turns end (S ++ R) →
    AreCounted (slice_set counts (class_of_page end p) (slice_index counts (class_of_page end p) + 1))
    (slice_set turns (class_of_page end p) (slice_index turns (class_of_page end p) + page_length p / 16)) end (S ++ p ∷ R)
counted_more counts turns end S R p h of =
    let at = class_of_page end p in
    record {
      long = length-set counts at (slice_index counts at + 1) ∙ of.long;
      turns_long = length-set turns at (slice_index turns at + page_length p / 16) ∙ of.turns_long;
      each = changed counts (count_of end (S ++ R)) (count_of end (S ++ p ∷ R)) at (slice_index counts at + 1) of.long h of.each
          (omega (arith, of.each at h, count_amid end S R p at, here_more at (count_of end (S ++ R) at) 1))
          (λ c other. omega (arith, count_amid end S R p c, other_same at c (count_of end (S ++ R) c) 1 other));
      each_turns = changed turns (turns_of end (S ++ R)) (turns_of end (S ++ p ∷ R)) at (slice_index turns at + page_length p / 16)
          of.turns_long h of.each_turns
          (omega (arith, of.each_turns at h, turns_amid end S R p at, here_more at (turns_of end (S ++ R) at) (page_length p / 16)))
          (λ c other. omega (arith, turns_amid end S R p c, other_same at c (turns_of end (S ++ R) c) (page_length p / 16) other));
    }

pub counted_less : (counts turns : List ℕ) (end : End) (S R : List Page) (p : Page) → class_of_page end p < 136
    → AreCounted counts turns end (S ++ p ∷ R) →
    AreCounted (slice_set counts (class_of_page end p) (slice_index counts (class_of_page end p) - 1))
    (slice_set turns (class_of_page end p) (slice_index turns (class_of_page end p) - page_length p / 16)) end (S ++ R)
counted_less counts turns end S R p h of =
    let at = class_of_page end p in
    record {
      long = length-set counts at (slice_index counts at - 1) ∙ of.long;
      turns_long = length-set turns at (slice_index turns at - page_length p / 16) ∙ of.turns_long;
      each = changed counts (count_of end (S ++ p ∷ R)) (count_of end (S ++ R)) at (slice_index counts at - 1) of.long h of.each
          (omega (arith, of.each at h, count_amid end S R p at, here_more at (count_of end (S ++ R) at) 1))
          (λ c other. omega (arith, count_amid end S R p c, other_same at c (count_of end (S ++ R) c) 1 other));
      each_turns = changed turns (turns_of end (S ++ p ∷ R)) (turns_of end (S ++ R)) at (slice_index turns at - page_length p / 16)
          of.turns_long h of.each_turns
          (omega (arith, of.each_turns at h, turns_amid end S R p at, here_more at (turns_of end (S ++ R) at) (page_length p / 16)))
          (λ c other. omega (arith, turns_amid end S R p c, other_same at c (turns_of end (S ++ R) c) (page_length p / 16) other));
    }

-- the same at the numbers that the calls compute
module _ (k : Classes) (end : End) (p : Page) (at whole : ℕ) (class : at ≡ class_of_page end p) (long : whole ≡ page_length p / 16)
    (h : at < 136) where
  below : class_of_page end p < 136
  below = rw class at h

  pub gained : (S R : List Page) → AreClassesOf k end (S ++ R) →
      AreCounted (slice_set k.count at (slice_index k.count at + 1)) (slice_set k.turns at (slice_index k.turns at + whole)) end
      (S ++ p ∷ R)
  gained S R of = rw (class, long) (counted_more k.count k.turns end S R p below (counted_of k end (S ++ R) of))

  pub lost : (S R : List Page) → AreClassesOf k end (S ++ p ∷ R) →
      AreCounted (slice_set k.count at (slice_index k.count at - 1)) (slice_set k.turns at (slice_index k.turns at - whole)) end (S ++ R)
  lost S R of = rw (class, long) (counted_less k.count k.turns end S R p below (counted_of k end (S ++ p ∷ R) of))

  pub gained_tables : CanGain k end p
      → AreTables (slice_set k.count at (slice_index k.count at + 1)) (slice_set k.turns at (slice_index k.turns at + whole))
  gained_tables can =
      tables_of _ _ end (p ∷ can.pages) (gained [] can.pages can.counted) (omega (arith, can.room))
      (short_pages (p ∷ can.pages) (All-cons IsGoodPage p can.pages can.good_page can.good))

  pub lost_tables : CanLose k end p
      → AreTables (slice_set k.count at (slice_index k.count at - 1)) (slice_set k.turns at (slice_index k.turns at - whole))
  lost_tables can =
      tables_of _ _ end (can.before ++ can.after) (lost can.before can.after can.counted)
      (omega (arith, can.few, length-append can.before (p ∷ can.after), length-append can.before can.after))
      (short_pages (can.before ++ can.after) (All-amid IsGoodPage can.before can.after p can.good))

-- the table for the open end is that for the idle end
idle_classes : (k : Classes) (ps : List Page) → AreClassesOf k ends.Open ps → AreClassesOf k ends.Idle ps
unfolding class_of
idle_classes k ps of = record { count = of.count; turns = of.turns }

pub open_or_idle : (k : Classes) (end : End) (ps qs : List Page) → (end ≡ ends.Open) ⊎ (end ≡ ends.Idle) → ps ≡ qs →
    AreClassesOf k ends.Open ps → AreClassesOf k end qs
open_or_idle k ends.Open ps qs e same of = subst (λ (rs : List Page). AreClassesOf k ends.Open rs) same of
open_or_idle k ends.Idle ps qs e same of = subst (λ (rs : List Page). AreClassesOf k ends.Idle rs) same (idle_classes k ps of)
open_or_idle k ends.Closed ps qs (inl e) same of = cc e
open_or_idle k ends.Closed ps qs (inr e) same of = cc e
