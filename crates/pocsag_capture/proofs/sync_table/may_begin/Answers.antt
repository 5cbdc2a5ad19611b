use Rattle.pocsag_capture.proofs.Prelude.{◌/◌, ◌%◌, bit_and, refl, ap₂}
use Rattle.pocsag_capture.proofs.SyncTables.{not_empty, set_of, window_set}
use Rattle.pocsag_capture.proofs.sync_table.may_begin.Goals as goal

pub returns : goal.returns
returns c = λ bit polarity below near.
    let w = c.args.window in
    not_empty (set_of (w / 16777216 % 256) (w / 65536 % 256) (w / 256 % 256)) _
    (ap₂ bit_and (ap₂ bit_and c.begin_set-second.ensures c.begin_set-third.ensures) c.begin_set-fourth.ensures)
    (window_set polarity bit w _ _ _ below near refl refl refl)
