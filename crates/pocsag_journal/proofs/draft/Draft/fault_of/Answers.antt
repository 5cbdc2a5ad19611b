use Rattle.pocsag_journal.proofs.Prelude.{◌<◌, ◌≤◌, true, false, length, sym, arith, page_limit, there_is, duplicate_fault, full_fault, no_fault}
use Rattle.pocsag_journal.proofs.Drafts.{broken_fault, length_as}
use Rattle.pocsag_journal.proofs.draft.Draft.fault_of.Goals as goal

pub returns-in-Some : goal.returns-in-Some
returns-in-Some c = broken_fault c.args.self.now c.args.page.now c.in-Some.broken (sym c.in-Some.ensures)

pub returns-then-contains : goal.returns-then-contains
returns-then-contains c =
    duplicate_fault c.args.self.now c.args.page.now (sym c.in-None.ensures)
    (there_is c.args.page.now.address c.self.inside.pages.entries c.args.self.now true c.self.invariant.keyed c.self.view_is
    c.if-contains.ensures)

pub returns-then-len-ge-PAGE_LIMIT : goal.returns-then-len-ge-PAGE_LIMIT
returns-then-len-ge-PAGE_LIMIT c =
    let full : page_limit ≤ length c.args.self.now =
    omega (arith, c.len.ensures.len, c.if-len-ge-PAGE_LIMIT.true, length_as c.self.inside.pages.entries c.args.self.now c.self.view_is) in
    full_fault c.args.self.now c.args.page.now (sym c.in-None.ensures)
    (there_is c.args.page.now.address c.self.inside.pages.entries c.args.self.now false c.self.invariant.keyed c.self.view_is
    c.if-contains.ensures) full

pub returns : goal.returns
returns c =
    let room : length c.args.self.now < page_limit =
    omega (arith, c.len.ensures.len, c.if-len-ge-PAGE_LIMIT.false, length_as c.self.inside.pages.entries c.args.self.now c.self.view_is) in
    no_fault c.args.self.now c.args.page.now (sym c.in-None.ensures)
    (there_is c.args.page.now.address c.self.inside.pages.entries c.args.self.now false c.self.invariant.keyed c.self.view_is
    c.if-contains.ensures) room
