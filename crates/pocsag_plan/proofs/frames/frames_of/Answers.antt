use Rattle.pocsag_plan.proofs.FrameRooms.{all_rooms, rooms_more}
use Rattle.pocsag_plan.proofs.frames.frames_of.Goals as goal

pub loop-frame-preserved : goal.loop-frame-preserved
loop-frame-preserved c =
    rooms_more c.args.round.now c.pages.result.now c.args.steps.now c.loop-frame.frame c.loop-frame.rooms c.frame_room.result c.pages.ensures.pages
    c.loop-frame-test.true c.loop-frame.invariant.long c.frame_room.ensures c.loop-frame.invariant.rows

pub returns : goal.returns
returns c =
    all_rooms c.args.round.now c.args.steps.now c.loop-frame.frame c.loop-frame.rooms c.loop-frame-test.false c.loop-frame.invariant.long
    c.loop-frame.invariant.rows
