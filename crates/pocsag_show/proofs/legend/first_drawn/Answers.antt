use Rattle.pocsag_show.proofs.Prelude.{◌≡◌, [], ◌∷◌, true, false, All, sym, subst, ◌∙◌, arith, All-append, All-cons, All-head, All-nil, All-tail, IsListable, placed_left, Placed}
use Rattle.pocsag_show.proofs.LegendPages.{collected_begun, legend_full, legend_whole, one_kept, one_skipped}
use Rattle.pocsag_show.proofs.legend.first_drawn.Goals as goal

pub loop-drawn-init : goal.loop-drawn-init
loop-drawn-init c = record {
  left = c.requires;
  kept = subst (All (λ (pl : Placed). IsListable pl.page)) (sym c.new-drawn.ensures.items) (All-nil (λ (pl : Placed). IsListable pl.page));
  collected = collected_begun c.args.window.low c.args.window.high (placed_left c.args.pages.now) _ c.new-drawn.ensures.items;
}

pub loop-drawn-preserved-then-not-is_drawn : goal.loop-drawn-preserved-then-not-is_drawn
loop-drawn-preserved-then-not-is_drawn c =
    let loop = c.loop-drawn in
    let rest = placed_left c.next_placed.new.self in
    let first : placed_left loop.pages ≡ c.in-Some.placed ∷ rest = rw c.in-Some.is at c.in_ok-placed.ensures in
    let out : c.is_drawn.result ≡ false = c.if-not-is_drawn.true in
    record {
      left =
          All-tail (λ (pl : Placed). IsListable pl.page) c.in-Some.placed rest
          (subst (All (λ (pl : Placed). IsListable pl.page)) first loop.invariant.left);
      kept = loop.invariant.kept;
      collected =
          one_skipped c.args.window.low c.args.window.high _ _ (placed_left loop.pages) rest c.in-Some.placed first (sym c.is_drawn.ensures ∙ out)
          loop.invariant.collected;
    }

pub returns-then-len-gt-MOST-clause-legend : goal.returns-then-len-gt-MOST-clause-legend
returns-then-len-gt-MOST-clause-legend c =
    let loop = c.loop-drawn in
    let rest = placed_left c.next_placed.new.self in
    let first : placed_left loop.pages ≡ c.in-Some.placed ∷ rest = rw c.in-Some.is at c.in_ok-placed.ensures in
    let inside : c.is_drawn.result ≡ true = c.if-not-is_drawn.false in
    legend_full c.args.window.low c.args.window.high _ c.push.new.self.items rest (omega (arith, c.len.ensures, c.if-len-gt-MOST.true))
    (one_kept c.args.window.low c.args.window.high _ _ _ (placed_left loop.pages) rest c.in-Some.placed first (sym c.is_drawn.ensures ∙ inside)
    c.in_ok-push.ensures.items loop.invariant.collected)

pub loop-drawn-preserved : goal.loop-drawn-preserved
loop-drawn-preserved c =
    let loop = c.loop-drawn in
    let rest = placed_left c.next_placed.new.self in
    let first : placed_left loop.pages ≡ c.in-Some.placed ∷ rest = rw c.in-Some.is at c.in_ok-placed.ensures in
    let inside : c.is_drawn.result ≡ true = c.if-not-is_drawn.false in
    let left = subst (All (λ (pl : Placed). IsListable pl.page)) first loop.invariant.left in
    record {
      left = All-tail (λ (pl : Placed). IsListable pl.page) c.in-Some.placed rest left;
      kept =
          subst (All (λ (pl : Placed). IsListable pl.page)) (sym c.in_ok-push.ensures.items)
          (All-append (λ (pl : Placed). IsListable pl.page) loop.drawn.items (c.in-Some.placed ∷ []) loop.invariant.kept
          (All-cons (λ (pl : Placed). IsListable pl.page) c.in-Some.placed [] (All-head (λ (pl : Placed). IsListable pl.page) c.in-Some.placed rest left)
          (All-nil (λ (pl : Placed). IsListable pl.page))));
      collected =
          one_kept c.args.window.low c.args.window.high _ _ _ (placed_left loop.pages) rest c.in-Some.placed first (sym c.is_drawn.ensures ∙ inside)
          c.in_ok-push.ensures.items loop.invariant.collected;
    }

pub returns-clause-legend : goal.returns-clause-legend
returns-clause-legend c =
    let loop = c.loop-drawn in
    let none : placed_left loop.pages ≡ [] = rw c.in_default.is at c.in_ok-placed.ensures in
    legend_whole c.args.window.low c.args.window.high _ loop.drawn.items (placed_left loop.pages) none loop.invariant.collected
