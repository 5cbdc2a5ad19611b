use Rattle.pocsag_slots.proofs.Prelude.{◌≡◌, ◌≤◌, ◌<◌, ℕ, ◌+◌, List, All, arith, length, take, sym, ap, ◌∙◌, subst, slice_index, slice_index_or, End, Page, IsGoodPage, IsRound, length-take, All-get_or, All-take, All-weaker, good_pages}
use Rattle.std.proofs.Math.Seq.{take-length}
use Rattle.pocsag_slots.proofs.CountLemmas.{AreCounted, IsShort, count_bare, count_most, more_counted, none_counted, tables_of, tables_sum, turns_most}
use Rattle.pocsag_slots.proofs.count.classes_of.Goals as goal

all_short : (R : List Page) → IsRound R → All IsShort R
all_short R round = All-weaker IsGoodPage IsShort (λ p good. good.few) R (good_pages R round.good)

of_round : (S R : List Page) → S ≡ R → IsRound R → IsRound S
of_round S R same round = subst IsRound (sym same) round

item_short : (S : List Page) (i : ℕ) (p : Page) → i < length S → p ≡ slice_index_or S i p → IsRound S → length p.payload ≤ 1400
item_short S i p h item round = subst IsShort (sym item) (All-get_or IsShort S i p h (all_short S round))

whole : (counts turns : List ℕ) (end : End) (S : List Page) (i : ℕ) → length S ≤ i → i ≤ length S → AreCounted counts turns end (take i S) →
    AreCounted counts turns end S
whole counts turns end S i low high of =
    let all : i ≡ length S = omega arith in
    subst (λ (ps : List Page). AreCounted counts turns end ps) (ap (λ (n : ℕ). take n S) all ∙ take-length S) of

few_so_far : (counts turns : List ℕ) (end : End) (S : List Page) (i at more : ℕ) → IsRound S → AreCounted counts turns end (take i S) →
    at < 136 → more ≤ 87 → (slice_index counts at ≤ 20000) × (slice_index turns at + more ≤ 1740087)
few_so_far counts turns end S i at more round of h l =
    let short : All IsShort (take i S) = All-take IsShort i S (all_short S round) in
    let few : length (take i S) ≤ 20000 = omega (arith, length-take i S, round.few) in
    (count_most counts turns end (take i S) at h of few, omega (arith, turns_most counts turns end (take i S) at h of few short))

pub loop-page-init : goal.loop-page-init
loop-page-init c = none_counted c.args.end

pub whole_turns-requires : goal.whole_turns-requires
whole_turns-requires c =
    item_short _ c.loop-page.page-index c.page-item.result c.loop-page-test.true c.page-item.is
    (of_round _ _ c.pages-page-items.ensures.pages c.pages-page-items.ensures.round)

pub overflow_add-turns : goal.overflow_add-turns
overflow_add-turns c =
    omega (
      arith,
      (few_so_far c.loop-page.count c.loop-page.turns c.args.end _ c.loop-page.page-index c.class_of-class.result.number c.whole_turns.result
          (of_round _ _ c.pages-page-items.ensures.pages c.pages-page-items.ensures.round) c.loop-page.invariant
          c.class_of-class.result.known c.whole_turns.ensures.bound).1,
    )

pub loop-page-preserved : goal.loop-page-preserved
loop-page-preserved c =
    more_counted c.loop-page.count c.loop-page.turns c.args.end _ c.loop-page.page-index c.page-item.result c.class_of-class.result.number
    c.whole_turns.result
    c.loop-page-test.true c.page-item.is c.class_of-class.ensures c.whole_turns.ensures.value c.loop-page.invariant

pub invariant_of-result : goal.invariant_of-result
invariant_of-result c =
    let round = of_round _ _ c.pages-page-items.ensures.pages c.pages-page-items.ensures.round in
    record {
      tables = tables_of c.loop-page.count c.loop-page.turns c.args.end c.pages-page-items.result.now
          (whole c.loop-page.count c.loop-page.turns c.args.end _ c.loop-page.page-index c.loop-page-test.false
          c.loop-page.auto.page-index-end c.loop-page.invariant)
          round.few (all_short _ round);
    }

pub returns-clause-pages : goal.returns-clause-pages
returns-clause-pages c =
    tables_sum c.loop-page.count c.loop-page.turns c.args.end c.pages-page-items.result.now
    (whole c.loop-page.count c.loop-page.turns c.args.end _ c.loop-page.page-index c.loop-page-test.false c.loop-page.auto.page-index-end
    c.loop-page.invariant)
    ∙ ap length c.pages-page-items.ensures.pages

pub returns-clause-bare : goal.returns-clause-bare
returns-clause-bare c other k l h =
    (whole c.loop-page.count c.loop-page.turns c.args.end _ c.loop-page.page-index c.loop-page-test.false
    c.loop-page.auto.page-index-end c.loop-page.invariant).each k h
    ∙ count_bare c.args.end k c.pages-page-items.result.now other l
