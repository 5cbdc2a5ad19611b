use Rattle.pocsag_decode.proofs.Prelude.{[], All, Option, sym, subst, All-head, IsListable, OpenPage, closed}
use Rattle.pocsag_decode.proofs.lister.Lister.close.Goals as goal

pub put_spent-requires-clause-listable : goal.put_spent-requires-clause-listable
put_spent-requires-clause-listable c =
    rw c.from_vec.ensures
    (All-head IsListable _ []
    (subst (λ (o : Option OpenPage). All IsListable (closed o)) (sym c.in-Some.ensures.value) c.requires.can.listable))
