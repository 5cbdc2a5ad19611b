use Rattle.pocsag_batch.proofs.Prelude.{◌≡◌, ℕ, Bool, ◌+◌, ◌<◌, List, [], ◌∷◌, ◌++◌, drop, length, get_or, ap, ◌∙◌, drop_all, End, Page, Step, AreChains, Links, all_places, rules, drop_more, good_pages}
use Rattle.pocsag_slots.specs.declared.step.Step.TheVariants.{Idle as Stay, Run}
use Rattle.pocsag_batch.proofs.Orders.{Stands, order_has_places, order_stands, stands_first, stands_run, takes}
use Rattle.pocsag_batch.proofs.page_order.order_of.Goals as goal

pub new-requires-clause-good : goal.new-requires-clause-good
new-requires-clause-good c =
    rw c.pages-pages.ensures.pages (good_pages c.args.round.now c.pages-pages.ensures.round.good)

pub loop-step-init : goal.loop-step-init
loop-step-init c =
    let R : List Page = c.args.round.now in
    let chains : AreChains c.args.end R c.in_ok-queues.queues (all_places R) =
    rw (← c.pages-pages.ensures.pages) c.in_ok-queues.ensures in
    rw c.in_ok-order.ensures.items
    (stands_first c.args.end R c.in_ok-queues.queues c.args.steps.now chains c.requires)

-- before a run
before_run : (end : End) (R : List Page) (links : Links) (order : List ℕ) (steps : List Step) (i c : ℕ) (e : Bool) → i < length steps
    → get_or steps i Stay ≡ Run c e → Stands end R links order steps (drop i steps)
    → Stands end R links order steps (Run c e ∷ drop (i + 1) steps)
before_run end R links order steps i c e h is s =
    let first : drop i steps ≡ Run c e ∷ drop (i + 1) steps = drop_more steps i Stay h ∙ ap (λ step. step ∷ drop (i + 1) steps) is in
    rw (← first) s

pub invariant_of-take : goal.invariant_of-take
invariant_of-take c =
    let s = before_run _ _ _ _ _ _ _ _ c.loop-step-test.true c.in-Run.is c.loop-step.invariant in
    record { known = (takes _ _ _ _ _ _ _ _ s).small }

pub take-requires-clause-some : goal.take-requires-clause-some
take-requires-clause-some c =
    let s = before_run _ _ _ _ _ _ _ _ c.loop-step-test.true c.in-Run.is c.loop-step.invariant in
    let t = takes _ _ _ _ _ _ _ _ s in
    rw t.head t.within

pub loop-step-preserved : goal.loop-step-preserved
loop-step-preserved c =
    let steps : List Step = c.args.steps.now in
    let rest : List Step = drop (c.loop-step.step-index + 1) steps in
    let s = before_run _ _ _ _ _ _ _ _ c.loop-step-test.true c.in-Run.is c.loop-step.invariant in
    let pushed : c.push.new.self.items ≡ c.loop-step.order.items ++ c.take.result ∷ [] = search rules in
    rw pushed
    (stands_run _ _ _ _ _ _ _ _ _ _ s c.take.ensures.place c.take.ensures.next c.take.ensures.head)

pub returns-clause-order : goal.returns-clause-order
returns-clause-order c =
    order_stands c.args.end c.args.round.now c.loop-step.queues c.loop-step.order.items c.args.steps.now
    (drop c.loop-step.step-index c.args.steps.now)
    (drop_all c.loop-step.step-index c.args.steps.now c.loop-step-test.false) c.loop-step.invariant

pub returns-clause-places : goal.returns-clause-places
returns-clause-places c =
    order_has_places c.args.end c.args.round.now c.args.steps.now c.loop-step.order.items (returns-clause-order c)
