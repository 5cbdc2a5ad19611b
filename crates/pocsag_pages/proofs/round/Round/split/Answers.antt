use Rattle.pocsag_pages.proofs.Prelude.{◌≤◌, length, ap, arith}
use Rattle.pocsag_pages.proofs.FirstPages.{first_round}
use Rattle.pocsag_pages.proofs.round.Round.split.Goals as goal

pub invariant_of-result : goal.invariant_of-result
invariant_of-result c =
    let among : c.args.count ≤ length c.self.inside.pages.items = omega (arith, ap length c.self.view_is, c.requires.among) in
    rw c.in_ok-rest.ensures.items (first_round c.args.count c.self.inside.pages.items c.self.invariant c.requires.some among)
