use Rattle.pocsag_plan.proofs.Prelude.{false, List, Contains, ap, sym, ◌∙◌, subst, is_some, Open, Closed, Page}
use Rattle.pocsag_plan.proofs.Edits.{can_lose, rest_is, shrunk_book, there_is, was_there}
use Rattle.pocsag_plan.proofs.Entries.{takes_out}
use Rattle.pocsag_plan.proofs.book.Book.cancel.Goals as goal

pub discount_page-requires : goal.discount_page-requires
discount_page-requires c =
    let was = c.self.invariant in
    let out = takes_out c.args.address c.self.inside.pages.entries c.in-Some.found was.keyed (sym c.in-Some.ensures.value) in
    can_lose c.self.inside.for_open Open c.args.address c.self.inside.pages.entries c.in-Some.found was.counted was.few was.good out

pub discount_page-requires-in-Some : goal.discount_page-requires-in-Some
discount_page-requires-in-Some c =
    let was = c.self.invariant in
    let out = takes_out c.args.address c.self.inside.pages.entries c.in-Some.found was.keyed (sym c.in-Some.ensures.value) in
    can_lose c.self.inside.for_closed Closed c.args.address c.self.inside.pages.entries c.in-Some.found was.counted_closed was.few
    was.good out

pub invariant_of-self : goal.invariant_of-self
invariant_of-self c =
    let was = c.self.invariant in
    let out = takes_out c.args.address c.self.inside.pages.entries c.in-Some.found was.keyed (sym c.in-Some.ensures.value) in
    shrunk_book c.self.inside.pages.entries c.shift_remove.new.self.entries c.self.inside.for_open c.self.inside.for_closed
    c.discount_page.new.classes
    c.discount_page-in-Some.new.classes c.args.address c.in-Some.found was out c.in-Some.ensures.entries c.discount_page.ensures
    c.discount_page-in-Some.ensures

pub returns-in-Some-clause-rest : goal.returns-in-Some-clause-rest
returns-in-Some-clause-rest c =
    rest_is c.self.inside.pages.entries c.shift_remove.new.self.entries c.args.self.now c.args.address c.self.invariant.keyed
    c.self.invariant.good c.self.view_is
    c.in-Some.ensures.entries

pub returns-in-Some-clause-taken : goal.returns-in-Some-clause-taken
returns-in-Some-clause-taken c =
    let out = takes_out c.args.address c.self.inside.pages.entries c.in-Some.found c.self.invariant.keyed (sym c.in-Some.ensures.value) in
    let among : Contains c.args.self.now c.in-Some.found =
    subst (λ (ps : List Page). Contains ps c.in-Some.found) (sym out.was ∙ c.self.view_is)
    (was_there out.before out.after c.in-Some.found) in
    (among, out.its)

pub returns-in-None-clause-rest : goal.returns-in-None-clause-rest
returns-in-None-clause-rest c =
    rest_is c.self.inside.pages.entries c.shift_remove.new.self.entries c.args.self.now c.args.address c.self.invariant.keyed
    c.self.invariant.good c.self.view_is
    c.in-None.ensures.entries

pub returns-in-None-clause-not_there : goal.returns-in-None-clause-not_there
returns-in-None-clause-not_there c =
    there_is c.args.address c.self.inside.pages.entries c.args.self.now false c.self.invariant.keyed c.self.view_is
    (ap is_some c.in-None.ensures.value)
