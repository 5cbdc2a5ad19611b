use Rattle.pocsag_text.proofs.Prelude.{ap, ◌∙◌, arith, high_first}
use Rattle.pocsag_text.proofs.SevenItems.{group_of_four}
use Rattle.pocsag_text.proofs.pack.bits_of_four.Goals as goal

pub returns-clause-bits : goal.returns-clause-bits
returns-clause-bits c =
    group_of_four c.args.text.now c.from-first.result c.from-second.result c.from-third.result c.from-fourth.result c.requires.four
    (omega arith) (omega arith) (omega arith)
    (ap (high_first 7) c.from-first.ensures ∙ c.mirrored.ensures.packed)
    (ap (high_first 7) c.from-second.ensures ∙ c.mirrored-2.ensures.packed)
    (ap (high_first 7) c.from-third.ensures ∙ c.mirrored-3.ensures.packed)
    (ap (high_first 7) c.from-fourth.ensures ∙ c.mirrored-4.ensures.packed)
