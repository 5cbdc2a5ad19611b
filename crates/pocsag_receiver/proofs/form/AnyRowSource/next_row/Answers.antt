use Rattle.pocsag_receiver.proofs.Prelude.{All, subst, All-tail, IsListable}
use Rattle.pocsag_receiver.proofs.form.AnyRowSource.next_row.Goals as goal

pub returns-in-Some-clause-can : goal.returns-in-Some-clause-can
returns-in-Some-clause-can g c =
    All-tail IsListable c.in-Some.page (g.P.PageSource.left c.next_page.new.self)
    (subst (All IsListable) (rw c.in-Some.is at c.in_ok-page.ensures.next) c.requires.can)
