use Rattle.pocsag_command_cases.proofs.Prelude.{◌≡◌, ℕ, ◌-◌, length, arith, sym, ap, subst, Elapses, DiskLeftSince, LeavesFrom, LeftSince, disk_moment, disk_synced, lines_length, moment_after}
use Rattle.pocsag_command_cases.proofs.crash_disk.CrashDiskDisk.replace.Goals as goal

pub returns-clause-time : goal.returns-clause-time
returns-clause-time c = λ is_known.
    let none : lines_length c.put.new.text - 0 ≡ 0 = omega (arith, ap length c.in-Ok.ensures.lines) in
    subst (λ (s : ℕ). Elapses (disk_moment c.args.self.now) (moment_after c.put.new.past.items s) (DiskLeftSince c.args.self.now)
    (LeftSince c.put.new.past.items c.put.new.text) (LeavesFrom c.put.new.text s))
    (sym none) (c.in-Ok.ensures.time (disk_synced c.args.self.now) (omega arith))
