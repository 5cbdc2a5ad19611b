-- The class tables of a list of pages, and what they keep for a round.
use Rattle.pocsag_slots.proofs.Prelude.{◌≡◌, ◌≢◌, ℕ, ◌+◌, ◌*◌, ◌/◌, ◌%◌, ◌<◌, ◌≤◌, ◌==◌, Bool, cond, List, [], ◌∷◌, All, length, take, refl, sym, ap, ◌∙◌, subst, arith, eq-eqb, slice_index, slice_index_or, slice_set, get_or-set_same, get_or-set_other, inl, inr, replicate, cases_eq, ne_eqb, nat_tests, get_or-replicate, All-head, All-tail, End, Page, page_length, class_of, class_of_page, class_rest, count_of, turns_of, sum_below, length-replicate, length-set, count_by-le-length, sum_by_more}
use Rattle.pocsag_words.specs.declared.ending.End.TheVariants as ends
use Rattle.pocsag_slots.specs.Tables.{AreTables}
use Rattle.pocsag_slots.proofs.CoverLemmas.{class_below, class_rest_is}
use Rattle.pocsag_slots.proofs.SumLemmas.{sum_below-bump, sum_below-same, sum_below-zero}
use Rattle.pocsag_slots.proofs.Walks.{count_of-cons, turns_of-cons}

-- a page with a message of at most 1,400 items
abbrev pub IsShort : Page → Type 0
IsShort p = length p.payload ≤ 1400

-- the two lists are the tables of the list of pages
pub record AreCounted (counts turns : List ℕ) (end : End) (R : List Page) : Type 0 where
  pub long : length counts ≡ 136
  pub turns_long : length turns ≡ 136
  pub each : (c : ℕ) → c < 136 → slice_index counts c ≡ count_of end R c
  pub each_turns : (c : ℕ) → c < 136 → slice_index turns c ≡ turns_of end R c

pub page_class_below : (end : End) (p : Page) → class_of_page end p < 136
page_class_below end p = class_below end (p.address % 8) (page_length p) (omega arith)

-- one entry grows
grown : (xs : List ℕ) (f g : ℕ → ℕ) (at more : ℕ) → length xs ≡ 136 → at < 136 →
    ((c : ℕ) → c < 136 → slice_index xs c ≡ f c) → ((c : ℕ) → g c ≡ f c + cond (at == c) more 0) →
    (c : ℕ) → c < 136 → slice_index (slice_set xs at (slice_index xs at + more)) c ≡ g c
grown xs f g at more long h each next c l =
    elim (cases_eq at c) [
      | inl same ↦
          let fits : at < length xs = omega arith in
          let now : slice_index (slice_set xs at (slice_index xs at + more)) at ≡ slice_index xs at + more =
          get_or-set_same xs at (slice_index xs at + more) 0 fits in
          let test : cond (at == at) more 0 ≡ more = grind (arith, nat_tests) in
          subst (λ (n : ℕ). slice_index (slice_set xs at (slice_index xs at + more)) n ≡ g n) same (omega (arith, each at h, next at))
      | inr other ↦
          let now : slice_index (slice_set xs at (slice_index xs at + more)) c ≡ slice_index xs c =
          get_or-set_other xs at c (slice_index xs at + more) 0 (λ e. other (sym e)) in
          let test : cond (at == c) more 0 ≡ 0 = grind (arith, nat_tests) in
          omega (arith, each c l, next c)
    ]

-- a page in the class, and one outside it
count_in : (end : End) (p : Page) (R : List Page) (c : ℕ) → class_of_page end p ≡ c → count_of end (p ∷ R) c ≡ 1 + count_of end R c
count_in end p R c e = count_of-cons end p R c ∙ ap (λ (b : Bool). cond b 1 0 + count_of end R c) (eq-eqb _ _ e)

count_out : (end : End) (p : Page) (R : List Page) (c : ℕ) → class_of_page end p ≢ c → count_of end (p ∷ R) c ≡ 0 + count_of end R c
count_out end p R c e = count_of-cons end p R c ∙ ap (λ (b : Bool). cond b 1 0 + count_of end R c) (ne_eqb _ _ e)

turns_in : (end : End) (p : Page) (R : List Page) (c : ℕ) → class_of_page end p ≡ c →
    turns_of end (p ∷ R) c ≡ page_length p / 16 + turns_of end R c
turns_in end p R c e = turns_of-cons end p R c ∙ ap (λ (b : Bool). cond b (page_length p / 16) 0 + turns_of end R c) (eq-eqb _ _ e)

turns_out : (end : End) (p : Page) (R : List Page) (c : ℕ) → class_of_page end p ≢ c → turns_of end (p ∷ R) c ≡ 0 + turns_of end R c
turns_out end p R c e = turns_of-cons end p R c ∙ ap (λ (b : Bool). cond b (page_length p / 16) 0 + turns_of end R c) (ne_eqb _ _ e)

-- the whole turns of a class against its pages
pub turns_short : (end : End) (c : ℕ) (R : List Page) → All IsShort R → turns_of end R c ≤ 87 * count_of end R c
turns_short end c [] h = omega arith
turns_short end c (p ∷ R) h =
    let rest = turns_short end c R (All-tail IsShort p R h) in
    let here : length p.payload ≤ 1400 = All-head IsShort p R h in
    elim (cases_eq (class_of_page end p) c) [
      | inl same ↦ omega (arith, count_in end p R c same, turns_in end p R c same)
      | inr other ↦ omega (arith, count_out end p R c other, turns_out end p R c other)
    ]

turns_whole : (end : End) (c : ℕ) (R : List Page) → class_rest c ≡ 0 → count_of end R c ≤ turns_of end R c
turns_whole end c [] h = omega arith
turns_whole end c (p ∷ R) h =
    let rest = turns_whole end c R h in
    elim (cases_eq (class_of_page end p) c) [
      | inl same ↦
          let of : class_rest (class_of_page end p) ≡ page_length p % 16 =
          class_rest_is end (p.address % 8) (page_length p) (omega arith) in
          let none : page_length p % 16 ≡ 0 = sym of ∙ (ap class_rest same ∙ h) in
          omega (arith, count_in end p R c same, turns_in end p R c same)
      | inr other ↦ omega (arith, count_out end p R c other, turns_out end p R c other)
    ]

bare_length : (end : End) (frame n : ℕ) → frame < 8 → 128 ≤ class_of end frame n → n ≡ 1
unfolding class_of
bare_length ends.Open frame n h l = absurd (omega arith)
bare_length ends.Closed frame n h l = grind (arith, nat_tests)
bare_length ends.Idle frame n h l = absurd (omega arith)

turns_bare : (end : End) (c : ℕ) (R : List Page) → 128 ≤ c → turns_of end R c ≡ 0
turns_bare end c [] h = refl
turns_bare end c (p ∷ R) h =
    let rest = turns_bare end c R h in
    elim (cases_eq (class_of_page end p) c) [
      | inl same ↦
          let one : page_length p ≡ 1 = bare_length end (p.address % 8) (page_length p) (omega arith) (omega arith) in
          omega (arith, turns_in end p R c same)
      | inr other ↦ omega (arith, turns_out end p R c other)
    ]

-- only the closed end has classes of an address codeword alone
other_below : (end : End) (frame n : ℕ) → end ≢ ends.Closed → frame < 8 → class_of end frame n < 128
unfolding class_of
other_below ends.Open frame n other h = omega arith
other_below ends.Closed frame n other h = absurd (other refl)
other_below ends.Idle frame n other h = omega arith

pub count_bare : (end : End) (c : ℕ) (R : List Page) → end ≢ ends.Closed → 128 ≤ c → count_of end R c ≡ 0
count_bare end c [] other h = refl
count_bare end c (p ∷ R) other h =
    let rest = count_bare end c R other h in
    let below : class_of_page end p < 128 = other_below end (p.address % 8) (page_length p) other (omega arith) in
    let apart : class_of_page end p ≢ c = omega arith in
    omega (arith, count_out end p R c apart)

-- each page is in one class
counts_sum : (end : End) (R : List Page) → sum_below 136 (count_of end R) ≡ length R
counts_sum end [] = sum_below-zero 136 _ (λ c h. refl)
counts_sum end (p ∷ R) =
    let rest = counts_sum end R in
    let all : sum_below 136 (count_of end (p ∷ R)) ≡ sum_below 136 (count_of end R) + 1 =
    sum_below-bump 136 (class_of_page end p) 1 (count_of end R) (count_of end (p ∷ R)) (page_class_below end p)
    (omega (arith, count_in end p R (class_of_page end p) refl))
    (λ c h other. omega (arith, count_out end p R c (λ e. other (sym e)))) in
    omega arith

-- the tables of no pages
pub none_counted : (end : End) → AreCounted (replicate 136 0) (replicate 136 0) end []
none_counted end =
    record {
      long = length-replicate {A = ℕ} 136 0;
      turns_long = length-replicate {A = ℕ} 136 0;
      each = λ c h. get_or-replicate {A = ℕ} 136 c 0 0 h;
      each_turns = λ c h. get_or-replicate {A = ℕ} 136 c 0 0 h;
    }

-- the tables with one page more
pub more_counted : (counts turns : List ℕ) (end : End) (R : List Page) (i : ℕ) (p : Page) (at whole : ℕ) → i < length R →
    p ≡ slice_index_or R i p → at ≡ class_of_page end p → whole ≡ page_length p / 16 → AreCounted counts turns end (take i R) →
    AreCounted (slice_set counts at (slice_index counts at + 1)) (slice_set turns at (slice_index turns at + whole)) end (take (i + 1) R)
more_counted counts turns end R i p at whole h item class long_run so_far =
    let fits : at < 136 = subst (λ (n : ℕ). n < 136) (sym class) (page_class_below end p) in
    let count_next : (c : ℕ) → count_of end (take (i + 1) R) c ≡ count_of end (take i R) c + cond (at == c) 1 0 =
    λ c. rw (class, item) (sum_by_more (λ q. cond (class_of_page end q == c) 1 0) R i p h) in
    let turns_next : (c : ℕ) → turns_of end (take (i + 1) R) c ≡ turns_of end (take i R) c + cond (at == c) whole 0 =
    λ c. rw (class, long_run, item) (sum_by_more (λ q. cond (class_of_page end q == c) (page_length q / 16) 0) R i p h) in
    record {
      long = length-set counts at (slice_index counts at + 1) ∙ so_far.long;
      turns_long = length-set turns at (slice_index turns at + whole) ∙ so_far.turns_long;
      each = grown counts (count_of end (take i R)) (count_of end (take (i + 1) R)) at 1 so_far.long fits so_far.each count_next;
      each_turns =
          grown turns (turns_of end (take i R)) (turns_of end (take (i + 1) R)) at whole so_far.turns_long fits so_far.each_turns
          turns_next;
    }

pub tables_sum : (counts turns : List ℕ) (end : End) (R : List Page) → AreCounted counts turns end R →
    sum_below 136 (slice_index counts) ≡ length R
tables_sum counts turns end R of = sum_below-same 136 (slice_index counts) (count_of end R) of.each ∙ counts_sum end R

-- the tables of a round keep what tables do
pub tables_of : (counts turns : List ℕ) (end : End) (R : List Page) → AreCounted counts turns end R → length R ≤ 20000 → All IsShort R →
    AreTables counts turns
tables_of counts turns end R of few short =
    let sum : sum_below 136 (slice_index counts) ≡ length R = tables_sum counts turns end R of in
    record {
      counts = of.long;
      totals = of.turns_long;
      few = omega arith;
      short = λ c h. omega (arith, of.each c h, of.each_turns c h, turns_short end c R short);
      whole = λ c h none. omega (arith, of.each c h, of.each_turns c h, turns_whole end c R none);
      bare = λ c l h. of.each_turns c h ∙ turns_bare end c R l;
    }

-- what a count and its turns are at most, while the tables grow
pub count_most : (counts turns : List ℕ) (end : End) (R : List Page) (c : ℕ) → c < 136 → AreCounted counts turns end R → length R ≤ 20000 →
    slice_index counts c ≤ 20000
count_most counts turns end R c h of few =
    omega (arith, of.each c h, count_by-le-length (λ p. class_of_page end p == c) R)

pub turns_most : (counts turns : List ℕ) (end : End) (R : List Page) (c : ℕ) → c < 136 → AreCounted counts turns end R → length R ≤ 20000 →
    All IsShort R → slice_index turns c ≤ 1740000
turns_most counts turns end R c h of few short =
    omega (arith, of.each_turns c h, of.each c h, count_most counts turns end R c h of few, turns_short end c R short)
