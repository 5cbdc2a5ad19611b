use Rattle.pocsag_plan.proofs.Prelude.{refl}
use Rattle.pocsag_plan.proofs.Due.{all_as, book_front, book_longest, certificate_part_as, first_has_headline, first_headline, first_plan, part_as}
use Rattle.pocsag_plan.proofs.Unwritten.{front_fault, its_own, limit_taken, unsent_front}
use Rattle.pocsag_plan.proofs.book.Book.front_stream.Goals as goal

pub returns-in-Err-Plan-clause-explained : goal.returns-in-Err-Plan-clause-explained
returns-in-Err-Plan-clause-explained g c =
    front_fault _ _ c.in-Ok.round _ c.in-Ok.ensures.round c.in-Ok.ensures.good c.in-Err-Plan.fault
    (rw c.in-Err-Plan.field-0-is at c.in-Err-Plan.ensures.fault)

pub returns-in-Err-FirstPage-clause-explained : goal.returns-in-Err-FirstPage-clause-explained
returns-in-Err-FirstPage-clause-explained g c =
    let said = rw c.in-Err-FirstPage.field-0-is at c.in-Err-FirstPage.ensures.fault in
    (said.0, c.in-Ok.ensures.good, rw c.in-Ok.ensures.round at said.1)

pub send-requires : goal.send-requires
send-requires g c = its_own _ _ _ _ _ refl c.in-Ok-longest_front.ensures.plan.plan_of

pub returns-in-Ok-send-clause-front : goal.returns-in-Ok-send-clause-front
returns-in-Ok-send-clause-front g c =
    let front = c.in-Ok-longest_front.front in
    let said = c.in-Ok-longest_front.ensures in
    book_front c.args.search c.args.self.now c.in-Ok.round front.round front.rest.items _ front.bounded c.in-Ok.ensures.round said.parts said.plan said.front

pub returns-in-Ok-send-clause-longest : goal.returns-in-Ok-send-clause-longest
returns-in-Ok-send-clause-longest g c =
    let front = c.in-Ok-longest_front.front in
    let said = c.in-Ok-longest_front.ensures in
    λ fewest.
    book_longest c.args.search c.args.self.now c.in-Ok.round front.round front.rest.items _ front.bounded c.in-Ok.ensures.round said.parts said.plan (said.longest fewest)

pub returns-in-Ok-send-clause-headline : goal.returns-in-Ok-send-clause-headline
returns-in-Ok-send-clause-headline g c =
    let front = c.in-Ok-longest_front.front in
    let said = c.in-Ok-longest_front.ensures in
    λ tx_tells cert_tells.
    all_as _ _ (first_headline c.args.search c.args.self.now c.in-Ok.round front.round front.rest.items c.args.batches front.bounded c.in-Ok.ensures.round said.parts said.plan)
    _ _ _ _ (c.in-Ok-send.ensures.whole tx_tells cert_tells)

pub returns-in-Ok-send-clause-plan : goal.returns-in-Ok-send-clause-plan
returns-in-Ok-send-clause-plan g c =
    let front = c.in-Ok-longest_front.front in
    let said = c.in-Ok-longest_front.ensures in
    first_plan c.args.search c.args.self.now c.in-Ok.round front.round front.rest.items c.args.batches front.bounded c.in-Ok.ensures.round said.parts said.plan

pub returns-in-Err-clause-explained : goal.returns-in-Err-clause-explained
returns-in-Err-clause-explained g c =
    unsent_front c.args.search c.args.self.now c.args.batches c.in-Err.fault c.in-Err.ensures.unsent
    (limit_taken _ c.args.search.limit c.if-not-is_node_limit.false c.is_node_limit.ensures) c.in-Ok.ensures.good

pub returns-in-Err-clause-part : goal.returns-in-Err-clause-part
returns-in-Err-clause-part g c =
    let front = c.in-Ok-longest_front.front in
    let said = c.in-Ok-longest_front.ensures in
    λ tx_tells failed.
    part_as _ _ (first_has_headline c.args.search c.args.self.now c.in-Ok.round front.round front.rest.items c.args.batches front.bounded c.in-Ok.ensures.round said.parts
    said.plan said.front) _ _ (c.in-Err.ensures.part tx_tells failed)

pub returns-in-Err-clause-certificate_part : goal.returns-in-Err-clause-certificate_part
returns-in-Err-clause-certificate_part g c =
    let front = c.in-Ok-longest_front.front in
    let said = c.in-Ok-longest_front.ensures in
    λ tx_tells cert_tells failed.
    certificate_part_as _ _ (first_has_headline c.args.search c.args.self.now c.in-Ok.round front.round front.rest.items c.args.batches front.bounded c.in-Ok.ensures.round said.parts
    said.plan said.front) _ _ _ _ (c.in-Err.ensures.certificate_part tx_tells cert_tells failed)
