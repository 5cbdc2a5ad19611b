use Rattle.pocsag_command_cases.proofs.Prelude.{List, ap, refl, ◌∙◌, arith, string_bytes, IsSame, on_disk, standing, Change}
use Rattle.pocsag_command_cases.proofs.CrashFolders.{one_file, only_left, steps_same}
use Rattle.pocsag_command_cases.proofs.crash_folder.CrashFolderFolder.sync_names.Goals as goal

pub returns-in_err-before-clause-same : goal.returns-in_err-before-clause-same
returns-in_err-before-clause-same c = λ is_known path. ap (λ (l : List Change). on_disk (standing l path)) c.in_err-before.ensures.changes

pub returns-in_err-before-clause-any_moment : goal.returns-in_err-before-clause-any_moment
returns-in_err-before-clause-any_moment c = λ is_known.
    steps_same c.args.self.now c.begin.new.self IsSame (λ left path. refl) c.in_err-before.ensures.changes
    (omega (arith, c.in_err-before.ensures.settled))

pub returns-clause-settled : goal.returns-clause-settled
returns-clause-settled c = λ is_known bytes stood left leaves.
    let path = string_bytes c.args.path.now in
    only_left c.begin.new.self.changes.items _ (omega (arith, c.max-self.ensures, c.len.ensures, c.begin.new.self.changes.ok.0)) left leaves path
    ∙ (ap (λ (l : List Change). standing l path) c.in_ok-before.ensures.changes
    ∙ one_file (standing c.args.self.now.changes.items path) bytes stood)

pub returns-clause-same : goal.returns-clause-same
returns-clause-same c = λ is_known path. ap (λ (l : List Change). on_disk (standing l path)) c.in_ok-before.ensures.changes

pub returns-clause-any_moment : goal.returns-clause-any_moment
returns-clause-any_moment c = λ is_known.
    steps_same c.args.self.now _ IsSame (λ left path. refl) c.in_ok-before.ensures.changes
    (omega (arith, c.in_ok-before.ensures.settled, c.max-self.ensures))
