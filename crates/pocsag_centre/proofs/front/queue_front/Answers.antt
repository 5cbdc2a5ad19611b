use Rattle.pocsag_centre.proofs.Prelude.{◌≡◌, ◌++◌, List, refl, sym, ap, subst, ◌∙◌, not-true, err_from_is_err_and, Page, AreGood, firsts, left_of, ExplainsFront}
use Rattle.pocsag_centre.proofs.FirstPart.{first_is, front_of_pages}
use Rattle.pocsag_centre.proofs.QueueRounds.{round_firsts, round_left}
use Rattle.pocsag_centre.proofs.front.queue_front.Goals as goal

pub of-requires : goal.of-requires
of-requires c = record { some = c.requires.queue.some; few = c.requires.queue.few; good = c.requires.apart (not-true _ c.if-not-asked.true) }

pub returns-then-not-asked-clause-front : goal.returns-then-not-asked-clause-front
returns-then-not-asked-clause-front c =
    let Q = c.args.queue.items in
    let R = c.of.result in
    let found = c.in_ok-whole.ensures in
    let front = c.in_ok-whole.whole in
    let good : AreGood Q = c.requires.apart (not-true _ c.if-not-asked.true) in
    let parts : front.round ++ front.rest.items ≡ Q = found.parts ∙ c.of.ensures in
    let behind : left_of front.round Q ≡ front.rest.items =
    subst (λ (v : List Page). left_of front.round v ≡ front.rest.items) parts
    (round_left front.round front.rest.items (subst AreGood (sym parts) good)) in
    front_of_pages c.args.asked Q R front (c.of.ensures ∙ sym (round_firsts Q good)) (first_is R front.round front.rest.items _ found.parts refl)
    (sym behind) found.front found.longest found.plan found.within found.why

pub returns-in_err-whole-clause-fault : goal.returns-in_err-whole-clause-fault
returns-in_err-whole-clause-fault c =
    let p = err_from_is_err_and c.from_residual.result c.from_residual.ensures.1 in
    let refused = c.in_err-whole.field-0.0 in
    let good : AreGood c.args.queue.items = c.requires.apart (not-true _ c.if-not-asked.true) in
    rw (p.1, p.2)
    (subst (λ (v : List Page). ExplainsFront c.args.asked.search v c.args.asked.batches refused) (c.of.ensures ∙ sym (round_firsts _ good))
    c.in_err-whole.ensures.fault)

pub returns-clause-front : goal.returns-clause-front
returns-clause-front c =
    let Q = c.args.queue.items in
    let found = c.in_ok-front.ensures in
    let front = c.in_ok-front.front in
    let R = c.in-Ok.firsts in
    let same : R ≡ firsts Q = c.in-Ok.ensures ∙ ap firsts c.as_slice.ensures.value in
    let left : c.in-Ok-left_pages.rest.items ≡ left_of front.round Q =
    c.in-Ok-left_pages.ensures ∙ ap (λ (v : List Page). left_of v Q) c.pages.ensures.pages in
    front_of_pages c.args.asked Q R _ same (first_is R front.round front.rest.items _ found.parts refl) left
    found.front found.longest found.plan found.within found.why

pub returns-in_err-front-clause-fault : goal.returns-in_err-front-clause-fault
returns-in_err-front-clause-fault c =
    let p = err_from_is_err_and c.from_residual-in_err-front.result c.from_residual-in_err-front.ensures.1 in
    let refused = c.in_err-front.field-0.0 in
    let same : c.in-Ok.firsts ≡ firsts c.args.queue.items = c.in-Ok.ensures ∙ ap firsts c.as_slice.ensures.value in
    rw (p.1, p.2)
    (subst (λ (v : List Page). ExplainsFront c.args.asked.search v c.args.asked.batches refused) same c.in_err-front.ensures.fault)
