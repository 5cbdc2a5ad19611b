use Rattle.pocsag_text.proofs.Prelude.{sym, append-nil, low_first}
use Rattle.pocsag_text.proofs.Packs.{times_more}
use Rattle.pocsag_text.proofs.packer.Packer.push_times.Goals as goal

pub loop-time-init : goal.loop-time-init
loop-time-init c = sym (append-nil c.args.self.now)

pub loop-time-preserved : goal.loop-time-preserved
loop-time-preserved c =
    times_more (low_first c.args.width) c.args.self.now c.loop-time.self c.push.new.self c.loop-time._time c.args.code
    c.loop-time.invariant c.in_ok-push.ensures
