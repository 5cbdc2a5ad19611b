use Rattle.pocsag_text.proofs.Unpacks.{codes-unpacked_bits}
use Rattle.pocsag_text.proofs.unpacker.Unpacker.into_codes.Goals as goal

pub returns-clause-codes : goal.returns-clause-codes
returns-clause-codes g c =
    let u = c.self.inside in
    rw (← c.self.view_is) (codes-unpacked_bits g.row.W u.codes.items u.count u.held c.self.invariant)
