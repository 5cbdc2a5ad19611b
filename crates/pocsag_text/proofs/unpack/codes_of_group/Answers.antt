use Rattle.pocsag_text.proofs.SevenItems.{four_of_group, four_small}
use Rattle.pocsag_text.proofs.unpack.codes_of_group.Goals as goal

pub returns-clause-bits : goal.returns-clause-bits
returns-clause-bits c =
    four_of_group c.args.bits c.mirrored.result c.mirrored-2.result c.mirrored-3.result c.mirrored-4.result
    c.mirrored.ensures.unpacked c.mirrored-2.ensures.unpacked c.mirrored-3.ensures.unpacked c.mirrored-4.ensures.unpacked

pub returns-clause-small : goal.returns-clause-small
returns-clause-small c =
    four_small c.mirrored.result c.mirrored-2.result c.mirrored-3.result c.mirrored-4.result
    c.mirrored.ensures.fits c.mirrored-2.ensures.fits c.mirrored-3.ensures.fits c.mirrored-4.ensures.fits
