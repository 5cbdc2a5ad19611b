use Rattle.pocsag_journal.proofs.Prelude.{◌≡◌, false, ℕ, ◌<◌, ◌≤◌, ◌++◌, List, [], ◌∷◌, length, get_or, take, drop, ◌+◌, arith, ap, ◌∙◌, subst, sym, take-append-drop, drop_more, length-take-le, take_more, Page, HasNoLine, IsUnspelled, ListsPages}
use Rattle.std.proofs.Math.Seq.{take-length}
use Rattle.pocsag_journal.proofs.KeptPages.{listed_first, listed_on}
use Rattle.pocsag_journal.proofs.LinedPages.{not_unlined}
use Rattle.pocsag_journal.proofs.compaction.text_of_pages.Goals.{In_ok-is_added}
use Rattle.pocsag_journal.proofs.compaction.text_of_pages.Goals as goal

whole : (text : List ℕ) (pages so_far : List Page) (i : ℕ) → length pages ≤ i → i ≤ length pages → so_far ≡ take i pages →
    ListsPages text so_far → ListsPages text pages
whole text pages so_far i low high e listed =
    let all : i ≡ length pages = omega arith in
    subst (λ (ps : List Page). ListsPages text ps) (e ∙ ap (λ (n : ℕ). take n pages) all ∙ take-length pages) listed

next_has_none : (pages : List Page) (i : ℕ) (page : Page) → i < length pages → page ≡ get_or pages i page → IsUnspelled (take i pages) page →
    HasNoLine pages (i + 1)
next_has_none pages i page more is none = record {
  before = take i pages;
  page = page;
  rest = drop (i + 1) pages;
  parts = sym (take-append-drop i pages)
      ∙ ap (λ (ps : List Page). take i pages ++ ps)
      (drop_more pages i page more ∙ ap (λ (p : Page). p ∷ drop (i + 1) pages) (sym is));
  place = let long = length-take-le i pages (omega (arith, more)) in omega (arith, long);
  none = none;
}

pub loop-index-init : goal.loop-index-init
loop-index-init c = (
  listed_first c.in-Ok.text.items c.new-book.result (c.in-Ok.ensures.items_if_clones_equal (λ x y h. h) ∙ c.first_line.ensures)
      c.new-book.ensures,
  c.new-book.ensures,
)

pub loop-index-preserved : goal.loop-index-preserved
loop-index-preserved c =
    let page = c.index-pages-index.result in
    let puts = c.in_ok-is_added.ensures.added c.if-not-is_added.false in (
      listed_on c.loop-index.text.items puts.0 c.add_line.new.text.items c.loop-index.book c.add_line.new.book page c.loop-index.invariant.0 puts.1 puts.2,
      puts.1.behind ∙ ap (λ (ps : List Page). ps ++ page ∷ []) c.loop-index.invariant.1
          ∙ ap (λ (p : Page). take c.loop-index.index c.args.pages.now ++ p ∷ []) c.index-pages-index.is
          ∙ sym (take_more c.args.pages.now c.loop-index.index page c.loop-index-test.true),
    )

pub returns-clause-listed : goal.returns-clause-listed
returns-clause-listed c =
    whole c.loop-index.text.items c.args.pages.now c.loop-index.book c.loop-index.index c.loop-index-test.false
    c.loop-index.auto.index-end c.loop-index.invariant.1 c.loop-index.invariant.0

has_none : (c : In_ok-is_added) → c.in_ok-is_added.is_added ≡ false → HasNoLine c.args.pages.now (c.loop-index.index + 1)
has_none c none =
    next_has_none c.args.pages.now c.loop-index.index c.index-pages-index.result c.loop-index-test.true c.index-pages-index.is
    (subst (λ (ps : List Page). IsUnspelled ps c.index-pages-index.result) c.loop-index.invariant.1 (c.in_ok-is_added.ensures.none none))

pub returns-then-not-is_added-clause-explained : goal.returns-then-not-is_added-clause-explained
returns-then-not-is_added-clause-explained c =
    has_none (goal.at.returns-then-not-is_added-clause-explained c).In_ok-is_added c.if-not-is_added.true

pub returns-then-not-is_added-clause-lined : goal.returns-then-not-is_added-clause-lined
returns-then-not-is_added-clause-lined c = λ lined.
    absurd (not_unlined c.args.pages.now (c.loop-index.index + 1) lined
    (has_none (goal.at.returns-then-not-is_added-clause-lined c).In_ok-is_added c.if-not-is_added.true))
