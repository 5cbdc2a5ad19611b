use Rattle.pocsag_command_cases.proofs.Prelude.{◌≡◌, List, ℕ, Some, rules, ap, ◌∙◌, standing}
use Rattle.pocsag_command_cases.proofs.CrashFolders.{Makes, makes}
use Rattle.pocsag_command_cases.proofs.crash_folder.CrashFolder.add.Goals as goal

pub returns-clause-stands : goal.returns-clause-stands
returns-clause-stands c =
    let path = c.args.path.now in
    let same : c.in_ok-file.file.items ≡ c.args.bytes.now = search rules in
    let made : Makes path path (Some c.in_ok-file.file.items) (standing c.args.self.now.changes.items) (standing c.change.new.self.changes.items) =
    makes c.args.self.now.changes.items c.change.new.self.changes.items path path (Some c.in_ok-file.file.items) c.in_ok-change.ensures.changed in
    made.there ∙ ap (λ (bytes : List ℕ). Some bytes) same

pub returns-clause-others : goal.returns-clause-others
returns-clause-others c = λ other differ.
    let made = makes _ _ _ _ _ c.in_ok-change.ensures.changed in
    made.others other differ differ
