use Rattle.pocsag_centre.proofs.Prelude.{◌≡◌, ℕ, ◌<◌, List, length, min, inl, inr, sym, ap, subst, ◌∙◌, arith, Ok, err_from_is_err_and, Page, AreGood, IsQueue, firsts, sent_of, planned_of}
use Rattle.pocsag_centre.proofs.AsidePages.{planned_good, planned_queue}
use Rattle.pocsag_centre.proofs.FirstPart.{no_pages_sent, pages_sent}
use Rattle.pocsag_centre.proofs.readback.read_sent.Goals as goal

pub round_of_queue-requires-clause-queue : goal.round_of_queue-requires-clause-queue
round_of_queue-requires-clause-queue g c =
    subst IsQueue (sym c.in-Ok.ensures.planned) (planned_queue c.args.sent.asked c.in_ok-queue.queue.items c.in_ok-queue.ensures.queue)

pub round_of_queue-requires-clause-apart : goal.round_of_queue-requires-clause-apart
round_of_queue-requires-clause-apart g c = λ off.
    subst AreGood (sym c.in-Ok.ensures.planned) (planned_good c.args.sent.asked c.in_ok-queue.queue.items (c.in_ok-queue.ensures.apart off))

pub returns-in_err-queue-clause-err : goal.returns-in_err-queue-clause-err
returns-in_err-queue-clause-err g c = λ known.
    let p = err_from_is_err_and c.from_residual.result c.from_residual.ensures.1 in
    let sent = c.args.sent in
    rw (p.1, p.2) (elim (c.in_err-queue.ensures.err known) [
      | inl memory ↦ inl memory
      | inr (inl failed) ↦ inr (inl failed)
      | inr (inr held) ↦ inr (inr (ap (sent_of sent.asked sent.count) held))
    ])

pub returns-then-count-eq0-clause-err : goal.returns-then-count-eq0-clause-err
returns-then-count-eq0-clause-err g c = λ known.
    let sent = c.args.sent in
    let Q = c.in_ok-queue.queue.items in
    let R = c.in-Ok-round_of_queue.round in
    let same : R ≡ firsts (planned_of sent.asked Q) =
    c.in-Ok-round_of_queue.ensures ∙ ap firsts c.in-Ok.ensures.planned in
    let least : c.min-count.result ≡ min sent.count (length R) = c.min-count.ensures ∙ ap (λ (ps : List Page). min sent.count (length ps)) c.pages.ensures.pages in
    inr (inr (ap (sent_of sent.asked sent.count) (c.in_ok-queue.ensures.ok known)
    ∙ no_pages_sent sent.asked Q R sent.count c.min-count.result same least c.if-count-eq0.true c.pages.ensures.round.some))

pub returns-in-Ok-split-clause-ok : goal.returns-in-Ok-split-clause-ok
returns-in-Ok-split-clause-ok g c = λ known.
    let sent = c.args.sent in
    let Q = c.in_ok-queue.queue.items in
    let R = c.in-Ok-round_of_queue.round in
    let k : ℕ = c.min-count.result in
    let same : R ≡ firsts (planned_of sent.asked Q) =
    c.in-Ok-round_of_queue.ensures ∙ ap firsts c.in-Ok.ensures.planned in
    let least : k ≡ min sent.count (length R) = c.min-count.ensures ∙ ap (λ (ps : List Page). min sent.count (length ps)) c.pages.ensures.pages in
    let other = c.if-count-eq0.false in
    let some : 0 < k = omega arith in
    ap (sent_of sent.asked sent.count) (c.in_ok-queue.ensures.ok known)
    ∙ pages_sent sent.asked Q R sent.count k same least some
    ∙ ap Ok (sym c.in-Ok-split.ensures.first)
