use Rattle.pocsag_text.proofs.Prelude.{◌≡◌, ◌%◌, length, packed_bits}
use Rattle.pocsag_text.proofs.Packs.{twenties-packed_bits}
use Rattle.pocsag_text.proofs.packer.Packer.into_items.Goals as goal

pub returns-clause-items : goal.returns-clause-items
returns-clause-items c =
    let p = c.self.inside in
    let whole : length (packed_bits p.items.items p.count p.held) % 20 ≡ 0 = rw c.self.view_is c.requires in
    rw (← c.self.view_is) (twenties-packed_bits p.items.items p.count p.held c.self.invariant whole)
