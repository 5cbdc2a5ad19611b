use Rattle.pocsag_tour.proofs.Prelude.{refl, subst, sym, slice_index, IsLed, at_start}
use Rattle.pocsag_tour.proofs.ExitSets.{lone}
use Rattle.pocsag_tour.proofs.reach.led_from_0.Goals as goal

pub loop-set-init : goal.loop-set-init
loop-set-init c = record {
  start = c.with_member-set.ensures.held;
  led = λ q held. subst (IsLed (slice_index c.args.links.now))
      (sym (lone c.with_member-set.result 0 q (c.with_member-set.ensures.alone refl) held)) at_start;
}

pub loop-set-preserved : goal.loop-set-preserved
loop-set-preserved c = record {
  start = c.followed-grown.ensures.follows.kept 0 c.loop-set.invariant.start;
  led = c.followed-grown.ensures.follows.led c.loop-set.invariant.led;
}

pub returns : goal.returns
returns c = record {
  start = c.loop-set.invariant.start;
  closed = λ p q h held to.
      rw c.if-grown-set.true at (c.followed-grown.ensures.follows.linked p q h held to);
  led = c.loop-set.invariant.led;
}
