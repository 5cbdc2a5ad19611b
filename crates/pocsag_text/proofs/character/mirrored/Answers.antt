use Rattle.pocsag_text.proofs.Prelude.{arith}
use Rattle.pocsag_text.proofs.Mirrors.{high_first-mirrored, low_first-mirrored, mirrored-lt, reversed}
use Rattle.pocsag_text.proofs.character.mirrored.Goals as goal

pub returns-clause-fits : goal.returns-clause-fits
returns-clause-fits c =
    rw (reversed c.args.code (omega arith)) (mirrored-lt c.args.width c.args.code c.requires.narrow c.requires.fits)

pub returns-clause-packed : goal.returns-clause-packed
returns-clause-packed c =
    rw (reversed c.args.code (omega arith)) (high_first-mirrored c.args.width c.args.code c.requires.narrow c.requires.fits)

pub returns-clause-unpacked : goal.returns-clause-unpacked
returns-clause-unpacked c =
    rw (reversed c.args.code (omega arith)) (low_first-mirrored c.args.width c.args.code c.requires.narrow c.requires.fits)
