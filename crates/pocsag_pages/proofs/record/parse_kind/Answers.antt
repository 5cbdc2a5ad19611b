use Rattle.pocsag_pages.proofs.Prelude.{arith, refl, codes, text_from_reads, kind_of_field}
use Rattle.pocsag_pages.proofs.record.parse_kind.Goals as goal

pub returns-in-numeric-clause-value : goal.returns-in-numeric-clause-value
unfolding kind_of_field
returns-in-numeric-clause-value c =
    let text = text_from_reads c.args.field.now (codes "numeric") (omega arith)
    (omega arith, (omega arith, (omega arith, (omega arith, (omega arith, (omega arith, (omega arith, tt))))))) in
    rw text refl
