use Rattle.pocsag_pages.proofs.Prelude.{◌∙◌, ◌++◌, ◌∷◌, [], take, refl, sym, ap, arith, Page, take_all, take_more, has_address}
use Rattle.pocsag_pages.proofs.MarkedRounds.{marks_push, none_marked}
use Rattle.pocsag_pages.proofs.address_marks.AddressMarks.marking_all.Goals as goal

pub loop-page-init : goal.loop-page-init
loop-page-init c = λ a.
    none_marked c.resize.new.self.items
    (λ k below.
    c.in_ok-resize.ensures.by_index.1 k 0 refl (omega (arith, c.new-words.ensures.len))
    (omega (arith, below, c.in_ok-resize.ensures.len, c.resize.new.self.ok.0)))
    a

pub loop-page-preserved : goal.loop-page-preserved
loop-page-preserved c = λ a.
    let pages = c.args.pages.now in
    let i = c.loop-page.page-index in
    let page = c.page-item.result in
    marks_push _ page c.loop-page.marks c.set_mark.new.self c.loop-page.invariant c.set_mark.ensures a
    ∙ ap (λ ps. has_address ps a) (sym (take_more pages i page c.loop-page-test.true ∙ ap (λ (q : Page). take i pages ++ q ∷ []) (sym c.page-item.is)))

pub returns : goal.returns
returns c = λ a. c.loop-page.invariant a ∙ ap (λ ps. has_address ps a) (take_all c.loop-page.page-index c.args.pages.now c.loop-page-test.false)
