use Rattle.pocsag_command_cases.proofs.Prelude.{List, ap, refl, arith, string_bytes, IsSameBut, on_disk, standing, Change}
use Rattle.pocsag_command_cases.proofs.CrashFolders.{makes, steps_changed, steps_same}
use Rattle.pocsag_command_cases.proofs.crash_folder.CrashFolderFolder.link.Goals as goal

pub returns-in_err-stood-clause-others : goal.returns-in_err-stood-clause-others
returns-in_err-stood-clause-others c = λ is_known other differ.
    ap (λ (l : List Change). on_disk (standing l other)) c.in_err-stood.ensures.same

pub returns-in_err-stood-clause-any_moment : goal.returns-in_err-stood-clause-any_moment
returns-in_err-stood-clause-any_moment c = λ is_known.
    steps_same c.args.self.now c.act.new.self (IsSameBut (string_bytes c.args.to.now)) (λ left other differ. refl) c.in_err-stood.ensures.same
    (omega (arith, c.in_err-stood.ensures.settled))

pub returns-clause-linked : goal.returns-clause-linked
returns-clause-linked c = λ is_known.
    let made = makes _ _ _ _ _ c.in_ok-stood.ensures.changed in
    ap on_disk made.there

pub returns-clause-none : goal.returns-clause-none
returns-clause-none c = λ is_known none. ap on_disk (c.in_ok-stood.ensures.none none)

pub returns-clause-others : goal.returns-clause-others
returns-clause-others c = λ is_known other differ.
    let made = makes _ _ _ _ _ c.in_ok-stood.ensures.changed in
    ap on_disk (made.others other differ differ)

pub returns-clause-any_moment : goal.returns-clause-any_moment
returns-clause-any_moment c = λ is_known.
    steps_changed c.args.self.now c.act.new.self (string_bytes c.args.to.now) (string_bytes c.args.to.now)
    (standing c.args.self.now.changes.items (string_bytes c.args.from.now)) (IsSameBut (string_bytes c.args.to.now))
    (λ left other differ. refl) c.in_ok-stood.ensures.changed c.in_ok-stood.ensures.settled
    (λ left made other differ. made.others other differ differ)
