use Rattle.pocsag_command_cases.proofs.Prelude.{◌≡◌, List, sym, subst, rules, Elapses, LeavesFrom, LeftSince, moment_after, Text}
use Rattle.pocsag_command_cases.proofs.Disks.{elapses_replaced}
use Rattle.pocsag_command_cases.proofs.crash_disk.put.Goals as goal

pub returns-clause-time : goal.returns-clause-time
returns-clause-time c = λ synced few.
    let old : Text = record { begun = c.in_ok-to_vec.field-0; lines = c.in_ok-to_vec-2.field-0 } in
    let now : Text = record { begun = c.in_ok-begun.begun; lines = c.new.result } in
    let begun : old.begun.items ≡ c.args.text.now.begun.items = search rules in
    let lines : old.lines.items ≡ c.args.text.now.lines.items = search rules in
    subst (λ (l : List Text). Elapses (moment_after c.args.past.now.items synced) (moment_after l 0)
    (LeftSince c.args.past.now.items c.args.text.now) (LeftSince l now) (LeavesFrom now 0))
    (sym c.in_ok-push.ensures.items) (elapses_replaced c.args.past.now.items c.args.text.now old now synced begun lines few)
