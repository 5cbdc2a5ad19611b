use Rattle.pocsag_centre.proofs.Prelude.{rules, ◌∙◌, answers_always, apart_pages}
use Rattle.std.proofs.lemmas.Map.Lookups.{exact_unsigned}
use Rattle.pocsag_centre.specs.declared.sent_marks.AddressPlace.{AddressPlace}
use Rattle.pocsag_centre.proofs.SentMarks.{not_there, other_there, rising}
use Rattle.pocsag_centre.proofs.sent_marks.place_of.Goals as goal

pub returns-in-Err : goal.returns-in-Err
returns-in-Err c =
    let parted = c.in-Err.ensures.position (λ (it : AddressPlace). it.address) (answers_always _ _ _ (λ f a r g called. search rules)) (rising c.args.places.now c.args.page.now.address c.requires.places.order) in
    not_there c.args.round.now c.args.places.now c.args.page.now c.in-Err.field-0 c.requires.places parted.0 parted.1

pub returns-else-eq : goal.returns-else-eq
returns-else-eq c =
    let round = c.args.round.now in
    let none : AddressPlace = record { address = 0; place = 0 } in
    let at = c.requires.places.hold.each c.in-Ok.found none c.in-Ok.ensures.bound in
    let here = exact_unsigned _ _ (c.in-Ok.ensures.position (λ (it : AddressPlace). it.address) (answers_always _ _ _ (λ f a r g called. search rules)) none) in
    other_there round _ c.index-round-place.result c.args.page.now c.eq.result (apart_pages round c.requires.round.good) at.within
    c.index-round-place.is (λ d. at.same d ∙ here) c.eq.ensures c.if-eq.false
