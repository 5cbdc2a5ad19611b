use Rattle.pocsag_tour.proofs.Prelude.{◌≡◌, true, false, arith, slice_index, holds}
use Rattle.std.proofs.lemmas.Nat.{le_or_l}
use Rattle.pocsag_tour.proofs.LinkLemmas.{follows_all, grown_link, grown_pass, grown_start}
use Rattle.pocsag_tour.proofs.links.followed.Goals as goal
use Rattle.pocsag_tour.proofs.links.followed.Goals.{then-holds, else-holds}

pub loop-boundary-init : goal.loop-boundary-init
loop-boundary-init c = record { grown = grown_start (slice_index c.args.links.now) c.args.set; more = omega arith }

pub loop-boundary-preserved : goal.loop-boundary-preserved
loop-boundary-preserved c =
    let links = slice_index c.args.links.now in
    elim c.if-holds.branch [
      | then-holds w ↦
          let held : holds c.loop-boundary.grown c.loop-boundary.boundary ≡ true = cc in
          record {
            grown = rw w.grown-is (grown_link links c.args.set c.loop-boundary.grown c.loop-boundary.boundary c.loop-boundary-test.true held
                c.loop-boundary.invariant.grown);
            more = omega (
              arith,
              w.grown-is,
              c.loop-boundary.invariant.more,
              le_or_l c.loop-boundary.grown (links c.loop-boundary.boundary),
            );
          }
      | else-holds w ↦
          let out : holds c.loop-boundary.grown c.loop-boundary.boundary ≡ false = cc in
          record {
            grown = rw w.grown-is (grown_pass links c.args.set c.loop-boundary.grown c.loop-boundary.boundary out
                c.loop-boundary.invariant.grown);
            more = omega (arith, w.grown-is, c.loop-boundary.invariant.more);
          }
    ]

pub returns-clause-follows : goal.returns-clause-follows
returns-clause-follows c =
    follows_all (slice_index c.args.links.now) c.args.set c.loop-boundary.grown c.loop-boundary.boundary
    (omega arith) c.loop-boundary.invariant.grown
