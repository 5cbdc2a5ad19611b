use Rattle.pocsag_slots.proofs.Members.{adds_member}
use Rattle.pocsag_slots.proofs.set.with_member.Goals as goal

pub returns : goal.returns
returns c = adds_member c.args.set c.args.member c.requires
