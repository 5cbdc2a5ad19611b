use Rattle.pocsag_command_cases.proofs.Prelude.{arith}
use Rattle.pocsag_command_cases.proofs.Disks.{elapses_synced}
use Rattle.pocsag_command_cases.proofs.crash_disk.CrashDiskDisk.sync.Goals as goal

pub returns-then-not-self-clause-time : goal.returns-then-not-self-clause-time
returns-then-not-self-clause-time c = λ is_known. elapses_synced c.args.self.now.past.items c.args.self.now.text _ _ (omega arith)
