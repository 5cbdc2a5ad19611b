use Rattle.pocsag_plan.proofs.Prelude.{◌<◌, ◌≤◌, true, false, length, sym, arith, page_limit}
use Rattle.pocsag_plan.proofs.Edits.{there_is}
use Rattle.pocsag_plan.proofs.Refusals.{duplicate_fault, full_fault, no_fault}
use Rattle.pocsag_plan.proofs.book.Book.fault_of.Goals as goal

pub returns-then-contains_key : goal.returns-then-contains_key
returns-then-contains_key c =
    duplicate_fault c.args.self.now c.args.page.now (sym c.in-None.ensures)
    (there_is c.args.page.now.address c.self.inside.pages.entries c.args.self.now true c.self.invariant.keyed c.self.view_is
    c.if-contains_key.ensures)

pub returns-then-len-ge-PAGE_LIMIT : goal.returns-then-len-ge-PAGE_LIMIT
returns-then-len-ge-PAGE_LIMIT c =
    let full : page_limit ≤ length c.args.self.now = omega (arith, c.len.ensures) in
    full_fault c.args.self.now c.args.page.now (sym c.in-None.ensures)
    (there_is c.args.page.now.address c.self.inside.pages.entries c.args.self.now false c.self.invariant.keyed c.self.view_is
    c.if-contains_key.ensures) full

pub returns : goal.returns
returns c =
    let room : length c.args.self.now < page_limit = omega (arith, c.len.ensures) in
    no_fault c.args.self.now c.args.page.now (sym c.in-None.ensures)
    (there_is c.args.page.now.address c.self.inside.pages.entries c.args.self.now false c.self.invariant.keyed c.self.view_is
    c.if-contains_key.ensures) room
