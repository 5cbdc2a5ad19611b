use Rattle.pocsag_plan.proofs.Prelude.{err_from_is_err_and}
use Rattle.pocsag_plan.proofs.Due.{all_as, asked_headline, certificate_part_as, has_headline, part_as}
use Rattle.pocsag_plan.proofs.Unwritten.{answered_limit, book_answered, its_own, of_no_writer, same_bad_limit, stream_explained, unsent_explained, unwritten}
use Rattle.pocsag_plan.proofs.book.Book.bounded_stream.Goals as goal

pub returns-in_err-round : goal.returns-in_err-round
returns-in_err-round g c =
    let p = err_from_is_err_and c.from_residual.result c.from_residual.ensures.1 in
    let e = c.in_err-round.field-0.0 in
    let said = c.in_err-round.ensures in
    record {
      headline = λ _ _. rw p.1 tt;
      plan = rw p.1 tt;
      explained = rw (p.1, p.2) (stream_explained _ _ _ _ e said.fault);
      answered = λ always. rw (p.1, p.2) (book_answered _ _ _ _ e said.fault always);
      bad_limit = rw (p.1, p.2) (same_bad_limit _ e said.bad_limit);
      writers = rw (p.1, p.2) (unwritten _ _ _ _ e);
      part = λ _. rw (p.1, p.2) (λ h. absurd ((of_no_writer e).0 h));
      certificate_part = λ _ _. rw (p.1, p.2) (λ h. absurd ((of_no_writer e).1 h));
    }

pub send-requires : goal.send-requires
send-requires g c =
    let planned = c.in_ok-round in
    its_own _ _ _ _ _ planned.ensures.round.0 planned.ensures.plan.plan_of

pub returns-in_err-send-clause-explained : goal.returns-in_err-send-clause-explained
returns-in_err-send-clause-explained g c =
    let p = err_from_is_err_and c.from_residual-in_err-send.result c.from_residual-in_err-send.ensures.1 in
    let planned = c.in_ok-round.ensures in
    rw (p.1, p.2) (unsent_explained _ _ _ _ c.in_err-send.field-0.0 c.in_err-send.ensures.unsent
    (answered_limit _ _ c.args.search.limit planned.bad_limit) planned.round.1)

pub returns-in_err-send-clause-part : goal.returns-in_err-send-clause-part
returns-in_err-send-clause-part g c = λ tx_tells.
    let p = err_from_is_err_and c.from_residual-in_err-send.result c.from_residual-in_err-send.ensures.1 in
    let planned = c.in_ok-round in
    rw (p.1, p.2) (λ failed.
    part_as _ _ (has_headline c.args.search c.args.self.now planned.bounded planned.ensures.plan) _ _
    (rw planned.ensures.round.0 at c.in_err-send.ensures.part tx_tells failed))

pub returns-in_err-send-clause-certificate_part : goal.returns-in_err-send-clause-certificate_part
returns-in_err-send-clause-certificate_part g c = λ tx_tells cert_tells.
    let p = err_from_is_err_and c.from_residual-in_err-send.result c.from_residual-in_err-send.ensures.1 in
    let planned = c.in_ok-round in
    rw (p.1, p.2) (λ failed.
    certificate_part_as _ _ (has_headline c.args.search c.args.self.now planned.bounded planned.ensures.plan) _ _ _ _
    (rw planned.ensures.round.0 at c.in_err-send.ensures.certificate_part tx_tells cert_tells failed))

pub returns-clause-headline : goal.returns-clause-headline
returns-clause-headline g c = λ tx_tells cert_tells.
    let planned = c.in_ok-round in
    all_as _ _ (asked_headline c.args.search c.args.self.now planned.bounded planned.ensures.plan) _ _ _ _
    (rw planned.ensures.round.0 at c.in_ok-send.ensures.whole tx_tells cert_tells)
