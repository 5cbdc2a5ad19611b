use Rattle.pocsag_show.proofs.Prelude.{drop, sym, ap, ◌∙◌, starts_from}
use Rattle.pocsag_show.proofs.kind_reader.KindReader.next_start.Goals as goal

pub returns-clause-left : goal.returns-clause-left
returns-clause-left c =
    let none = c.in_default.ensures.read in
    ap (starts_from c.next.new.self.index) none.1
    ∙ ap (drop 1) (sym (ap (starts_from c.loop-kind.self.index) none.0) ∙ c.loop-kind.invariant)
