use Rattle.pocsag_text.proofs.Prelude.{◌-◌, ◌^◌, ◌<◌, ◌≤◌, lit≤, arith, pow-le-pow_right}
use Rattle.pocsag_text.proofs.Packs.{held_with, lowest}
use Rattle.pocsag_text.proofs.Unpacks.{IsTaking-start, IsTaking-more, next-lt}
use Rattle.pocsag_text.proofs.unpacker.Unpacker.with.Goals as goal

pub loop-count-init : goal.loop-count-init
loop-count-init g c =
    let u = c.self.inside in
    let held = held_with u.count u.held 20 c.args.item (omega arith) c.self.invariant.fits c.requires in
    rw (← c.self.view_is, held) (IsTaking-start g.row.W u.codes.items u.count u.held c.args.item c.self.invariant c.requires)

pub overflow_cast-held : goal.overflow_cast-held
overflow_cast-held g c =
    let l = c.loop-count in
    let lt = next-lt g.row.W l.codes.items l.count l.held _ l.invariant c.loop-count-test.true in
    let le : 2 ^ g.row.W ≤ 2 ^ 8 = pow-le-pow_right (lit≤ tt) l.invariant.narrow in
    omega arith

pub mirrored-requires : goal.mirrored-requires
mirrored-requires g c =
    let l = c.loop-count in
    record {
      wide = omega arith;
      narrow = l.invariant.narrow;
      fits = next-lt g.row.W l.codes.items l.count l.held _ l.invariant c.loop-count-test.true;
    }

pub loop-count-preserved : goal.loop-count-preserved
loop-count-preserved g c =
    let l = c.loop-count in
    let few : l.count - g.row.W < 20 = omega arith in
    rw (c.in_ok-push.ensures.items, lowest l.held (l.count - g.row.W) few)
    (IsTaking-more g.row.W l.codes.items l.count l.held c.mirrored.result _ l.invariant c.loop-count-test.true c.mirrored.ensures.fits
    c.mirrored.ensures.unpacked)
