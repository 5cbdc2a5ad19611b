use Rattle.pocsag_command_cases.proofs.Prelude.{List, None, inr, ap, arith, string_bytes, MayGo, on_disk, standing, Change}
use Rattle.pocsag_command_cases.proofs.CrashFolders.{makes, may_go_nowhere, steps_changed, steps_same}
use Rattle.pocsag_command_cases.proofs.crash_folder.CrashFolderFolder.remove.Goals as goal

pub returns-in-Ok-clause-gone : goal.returns-in-Ok-clause-gone
returns-in-Ok-clause-gone c = λ is_known.
    let made = makes _ _ _ _ _ c.in-Ok.ensures.changed in
    ap on_disk made.there

pub returns-in-Ok-clause-others : goal.returns-in-Ok-clause-others
returns-in-Ok-clause-others c = λ is_known other differ.
    let made = makes _ _ _ _ _ c.in-Ok.ensures.changed in
    ap on_disk (made.others other differ differ)

pub returns-in-Ok-clause-any_moment : goal.returns-in-Ok-clause-any_moment
returns-in-Ok-clause-any_moment c = λ is_known.
    let path = string_bytes c.args.path.now in
    steps_changed c.args.self.now c.act.new.self path path None (MayGo path) (may_go_nowhere path) c.in-Ok.ensures.changed c.in-Ok.ensures.settled
    (λ left made. record { others = λ other differ. made.others other differ differ; there = inr made.there })

pub returns-in-Err-clause-others : goal.returns-in-Err-clause-others
returns-in-Err-clause-others c = λ is_known other differ. ap (λ (l : List Change). on_disk (standing l other)) c.in-Err.ensures.same

pub returns-in-Err-clause-any_moment : goal.returns-in-Err-clause-any_moment
returns-in-Err-clause-any_moment c = λ is_known.
    steps_same c.args.self.now c.act.new.self (MayGo (string_bytes c.args.path.now)) (may_go_nowhere (string_bytes c.args.path.now))
    c.in-Err.ensures.same (omega (arith, c.in-Err.ensures.settled))
