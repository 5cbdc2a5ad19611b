use Rattle.pocsag_pages.proofs.Prelude.{◌≡◌, ◌∙◌, ◌≤◌, sym, refl, inr, arith, take, length, None, drop_all, page_fault_of, first_page_fault}
use Rattle.pocsag_pages.proofs.GrownRounds.{builder_none, builder_push, was_new, was_there}
use Rattle.pocsag_pages.proofs.PageLists.{fault_here, fault_later, taken, left, few, broken, again, fine}
use Rattle.pocsag_pages.proofs.list.judge_pages.Goals as goal

pub loop-index-init : goal.loop-index-init
loop-index-init c = record { builder = builder_none _ c.new-seen.ensures.empty; rest = refl }

pub overflow_cast-number : goal.overflow_cast-number
overflow_cast-number c =
    omega (
      arith,
      few c.args.pages.now c.loop-index.index c.index-pages-index.result c.loop-index-test.true c.index-pages-index.is
          c.loop-index.invariant.builder.good,
    )

pub overflow_add-number : goal.overflow_add-number
overflow_add-number c =
    omega (
      arith,
      few c.args.pages.now c.loop-index.index c.index-pages-index.result c.loop-index-test.true c.index-pages-index.is
          c.loop-index.invariant.builder.good,
    )

pub returns-in-Some-clause-err : goal.returns-in-Some-clause-err
returns-in-Some-clause-err c =
    let ps = c.args.pages.now in
    let i = c.loop-index.index in
    let p = c.index-pages-index.result in
    let within = c.loop-index-test.true in
    let here = c.index-pages-index.is in
    let f = broken ps i p within here c.in-Some.fault (sym c.in-Some.ensures) in
    inr (c.loop-index.invariant.rest ∙ rw (left ps i p within here) (fault_here (take i ps) _ p _ f))

pub returns-then-not-added-clause-err : goal.returns-then-not-added-clause-err
returns-then-not-added-clause-err c =
    let ps = c.args.pages.now in
    let i = c.loop-index.index in
    let p = c.index-pages-index.result in
    let within = c.loop-index-test.true in
    let here = c.index-pages-index.is in
    let there =
    was_there (take i ps) c.loop-index.seen p.address c.in-Ok.added c.loop-index.invariant.builder c.in-Ok.ensures.added
    c.if-not-added.true in
    let f = again ps i p within here (sym c.in_default.ensures) there in
    inr (c.loop-index.invariant.rest ∙ rw (left ps i p within here) (fault_here (take i ps) _ p _ f))

pub loop-index-preserved : goal.loop-index-preserved
loop-index-preserved c =
    let ps = c.args.pages.now in
    let i = c.loop-index.index in
    let p = c.index-pages-index.result in
    let within = c.loop-index-test.true in
    let here = c.index-pages-index.is in
    let unbroken : page_fault_of p ≡ None = sym c.in_default.ensures in
    let another =
    was_new (take i ps) c.loop-index.seen p.address c.in-Ok.added c.loop-index.invariant.builder c.in-Ok.ensures.added
    c.if-not-added.false in
    record {
      builder =
          rw (taken ps i p within here) (builder_push _ _ _ p c.loop-index.invariant.builder unbroken another c.in-Ok.ensures.updates);
      rest =
          c.loop-index.invariant.rest ∙ rw (left ps i p within here, taken ps i p within here)
          (fault_later (take i ps) _ p (fine ps i p within here unbroken another));
    }

pub returns-clause-ok : goal.returns-clause-ok
unfolding first_page_fault
returns-clause-ok c =
    let ps = c.args.pages.now in
    let i = c.loop-index.index in
    let over : length ps ≤ i = c.loop-index-test.false in
    c.loop-index.invariant.rest ∙ rw (drop_all i ps over) refl
