use Rattle.pocsag_pages.proofs.Prelude.{◌∙◌, List, ap, Page, has_address}
use Rattle.pocsag_pages.proofs.MarkedRounds.{found_there, none_there}
use Rattle.pocsag_pages.proofs.round_builder.RoundBuilder.has.Goals as goal

pub loop-page-preserved : goal.loop-page-preserved
loop-page-preserved c =
    none_there c.deref-page-items.result.now c.loop-page.page-index c.page-item.result c.args.address c.loop-page-test.true c.page-item.is
    c.if-page-address.false c.loop-page.invariant

pub returns-then-page-address : goal.returns-then-page-address
returns-then-page-address c =
    found_there c.deref-page-items.result.now c.loop-page.page-index c.page-item.result c.args.address c.loop-page-test.true c.page-item.is
    c.if-page-address.true
    ∙ ap (λ (ps : List Page). has_address ps c.args.address) (c.deref-page-items.ensures.value ∙ c.self.view_is)
