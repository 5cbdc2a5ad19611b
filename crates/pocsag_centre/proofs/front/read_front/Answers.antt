use Rattle.pocsag_centre.proofs.Prelude.{◌≡◌, List, All, length, not, sym, ap, subst, rules, All-filter, err_from_is_err_and, Page, IsListable, AreGood, IsQueue, firsts, left_of, IsSpellable, ExplainsFront, IsExpected, fault_of_front, IsFrontOfPages, is_aside, planned_of}
use Rattle.std.proofs.Common.{Err}
use Rattle.pocsag_centre.proofs.AsidePages.{part_back, planned_good, planned_queue}
use Rattle.pocsag_centre.proofs.CutFiles.{failed_cut, told_of_round, told_of_whole}
use Rattle.pocsag_centre.proofs.FrontRuns.{front_unread, front_unwritten}
use Rattle.pocsag_centre.proofs.QueueRounds.{AreReadBack, held_spellable, left_back, left_listable, queue_listable}
use Rattle.pocsag_centre.proofs.front.read_front.Goals as goal

pub queue_front-requires-clause-queue : goal.queue_front-requires-clause-queue
queue_front-requires-clause-queue g c =
    subst IsQueue (sym c.in-Ok.ensures.planned) (planned_queue c.args.asked c.in_ok-queue.queue.items c.in_ok-queue.ensures.queue)

pub queue_front-requires-clause-apart : goal.queue_front-requires-clause-apart
queue_front-requires-clause-apart g c = λ off.
    subst AreGood (sym c.in-Ok.ensures.planned) (planned_good c.args.asked c.in_ok-queue.queue.items (c.in_ok-queue.ensures.apart off))

pub returns-clause-front : goal.returns-clause-front
returns-clause-front g c = λ t.
    let asked = c.args.asked in
    let Q = c.in_ok-queue.queue.items in
    let W = planned_of asked Q in
    let front = c.in_ok-front.front in
    let aside = c.in-Ok.field-0.aside.items in
    let queue = c.in_ok-queue.ensures.queue in
    let read = c.in_ok-queue.ensures.ok t in
    let texts : All IsSpellable Q =
    held_spellable asked.may_wait _ Q read c.recall_pages_of_files_are_spellable.ensures.files c.recall_pages_of_files_are_spellable.ensures.queues in
    let back : AreReadBack = (c.recall_page_files_are_read_back.ensures.pages, c.recall_page_files_are_read_back.ensures.queues) in
    let many : c.len.result ≡ length Q = search rules in
    let found : IsFrontOfPages asked W front =
    subst (λ (v : List Page). IsFrontOfPages asked v front) c.in-Ok.ensures.planned c.in_ok-front.ensures.front in
    record {
      queue = Q;
      read = read;
      expected = subst (IsExpected asked.expect) many c.in_ok-refuse_other_count.ensures.expected;
      front_of = found;
      aside_is = c.in-Ok.ensures.aside;
      others_of = left_back W front.round (planned_queue asked Q queue) back asked.may_wait (λ off. planned_good asked Q (c.in_ok-queue.ensures.apart off))
          (All-filter (λ p. not (is_aside asked Q p)) IsSpellable Q texts) front.rest.items found.left;
      aside_held = part_back back (is_aside asked Q) asked.may_wait Q queue c.in_ok-queue.ensures.apart texts aside c.in-Ok.ensures.aside;
    }

pub returns-clause-listable : goal.returns-clause-listable
returns-clause-listable g c =
    let asked = c.args.asked in
    let Q = c.in_ok-queue.queue.items in
    let front = c.in_ok-front.front in
    let left : front.rest.items ≡ left_of front.round (planned_of asked Q) =
    subst (λ (v : List Page). front.rest.items ≡ left_of front.round v) c.in-Ok.ensures.planned c.in_ok-front.ensures.front.left in
    subst (All IsListable) (sym left) (left_listable (planned_of asked Q) front.round (planned_queue asked Q c.in_ok-queue.ensures.queue))

pub returns-clause-listable_aside : goal.returns-clause-listable_aside
returns-clause-listable_aside g c =
    let Q = c.in_ok-queue.queue.items in
    subst (All IsListable) (sym c.in-Ok.ensures.aside)
    (All-filter (is_aside c.args.asked Q) IsListable Q (queue_listable Q c.in_ok-queue.ensures.queue))

pub returns-in_err-queue-clause-cut : goal.returns-in_err-queue-clause-cut
returns-in_err-queue-clause-cut g c =
    let p = err_from_is_err_and c.from_residual-in_err-queue.result c.from_residual-in_err-queue.ensures.1 in
    let e = c.in_err-queue.field-0.0 in
    rw (p.1, p.2) (told_of_round g.P.Source _ e (λ k. c.in_err-queue.ensures.cut k))

pub returns-in_err-queue-clause-explained : goal.returns-in_err-queue-clause-explained
returns-in_err-queue-clause-explained g c =
    let p = err_from_is_err_and c.from_residual-in_err-queue.result c.from_residual-in_err-queue.ensures.1 in
    let e = c.in_err-queue.field-0.0 in
    rw (p.1, p.2) (front_unread g.P.Source c.args.asked _ _ c.in_ok-refuse_bad_limit.ensures.good e (λ k. c.in_err-queue.ensures.err k)
    (failed_cut g.P.Source _ (λ same. c.in_err-queue.ensures.failed (ap Err same)) (λ k. c.in_err-queue.ensures.cut k)))

pub returns-in_err-refuse_other_count-clause-cut : goal.returns-in_err-refuse_other_count-clause-cut
returns-in_err-refuse_other_count-clause-cut g c =
    let p = err_from_is_err_and c.from_residual-in_err-refuse_other_count.result c.from_residual-in_err-refuse_other_count.ensures.1 in
    rw (p.1, p.2) (told_of_whole g.P.Source _ c.in_err-refuse_other_count.field-0.0 (λ k. c.in_ok-queue.ensures.uncut k))

pub returns-in_err-refuse_other_count-clause-explained : goal.returns-in_err-refuse_other_count-clause-explained
returns-in_err-refuse_other_count-clause-explained g c =
    let p = err_from_is_err_and c.from_residual-in_err-refuse_other_count.result c.from_residual-in_err-refuse_other_count.ensures.1 in
    let told = c.in_err-refuse_other_count.ensures.unexpected in
    let many : c.len.result ≡ length c.in_ok-queue.queue.items = search rules in
    rw (p.1, p.2, told.1)
    (λ k. (
      c.in_ok-refuse_bad_limit.ensures.good,
      record { queue = c.in_ok-queue.queue.items; read = c.in_ok-queue.ensures.ok k; holds = sym many },
      told.2,
    ))

pub returns-in_err-front-clause-cut : goal.returns-in_err-front-clause-cut
returns-in_err-front-clause-cut g c =
    let p = err_from_is_err_and c.from_residual-in_err-front.result c.from_residual-in_err-front.ensures.1 in
    rw (p.1, p.2) (told_of_whole g.P.Source _ (fault_of_front c.in_err-front.field-0.0) (λ k. c.in_ok-queue.ensures.uncut k))

pub returns-in_err-front-clause-explained : goal.returns-in_err-front-clause-explained
returns-in_err-front-clause-explained g c =
    let p = err_from_is_err_and c.from_residual-in_err-front.result c.from_residual-in_err-front.ensures.1 in
    let refused = c.in_err-front.field-0.0 in
    let many : c.len.result ≡ length c.in_ok-queue.queue.items = search rules in
    rw (p.1, p.2)
    (front_unwritten g.P.Source c.args.asked _ _ c.in_ok-queue.queue.items (λ t. c.in_ok-queue.ensures.ok t)
    (subst (IsExpected c.args.asked.expect) many c.in_ok-refuse_other_count.ensures.expected) refused
    (subst (λ (v : List Page). ExplainsFront c.args.asked.search (firsts v) c.args.asked.batches refused) c.in-Ok.ensures.planned c.in_err-front.ensures.fault))
