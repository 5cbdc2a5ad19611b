use Rattle.pocsag_command_cases.proofs.Prelude.{arith, ap, ◌∙◌, length}
use Rattle.pocsag_command_cases.proofs.Disks.{all_front}
use Rattle.pocsag_command_cases.proofs.crash_disk.CrashDiskDisk.read.Goals as goal

pub returns-in-Ok-clause-too_large : goal.returns-in-Ok-clause-too_large
returns-in-Ok-clause-too_large c = λ is_known told.
    omega (arith, c.if-len-most.true, c.len.ensures, c.in-Ok.bytes.ok.0, ap length (c.in-Ok.ensures ∙ all_front c.args.self.now.text c.len-all.result (c.len-all.ensures ∙ c.args.self.now.text.lines.ok.0)))

pub returns-in-Ok-2-clause-whole : goal.returns-in-Ok-2-clause-whole
returns-in-Ok-2-clause-whole c = λ is_known. c.in-Ok.ensures ∙ all_front c.args.self.now.text c.len-all.result (c.len-all.ensures ∙ c.args.self.now.text.lines.ok.0)
