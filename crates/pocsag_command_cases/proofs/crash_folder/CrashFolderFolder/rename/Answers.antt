use Rattle.pocsag_command_cases.proofs.Prelude.{List, inr, ap, ◌∙◌, arith, string_bytes, MayMove, on_disk, folder_held, standing, Change}
use Rattle.pocsag_command_cases.proofs.CrashFolders.{leaves_same, makes, may_stay, one_file, steps_changed, steps_same}
use Rattle.pocsag_command_cases.proofs.crash_folder.CrashFolderFolder.rename.Goals as goal

pub returns-then-eq-clause-any_moment : goal.returns-then-eq-clause-any_moment
returns-then-eq-clause-any_moment c = λ is_known.
    let from = string_bytes c.args.from.now in
    let to = string_bytes c.args.to.now in
    steps_same c.args.self.now c.fails.new.self (MayMove from to (folder_held c.args.self.now from))
    (may_stay from to (folder_held c.args.self.now from)) c.fails.ensures.changes (omega (arith, c.fails.ensures.settled))

pub returns-in-Err-clause-others : goal.returns-in-Err-clause-others
returns-in-Err-clause-others c = λ is_known other one two. ap (λ (l : List Change). on_disk (standing l other)) c.in-Err.ensures.same

pub returns-in-Err-clause-same : goal.returns-in-Err-clause-same
returns-in-Err-clause-same c = λ is_known path. ap (λ (l : List Change). on_disk (standing l path)) c.in-Err.ensures.same

pub returns-in-Err-clause-refused : goal.returns-in-Err-clause-refused
returns-in-Err-clause-refused c = λ is_known.
    leaves_same c.args.self.now c.act.new.self c.in-Err.ensures.same c.in-Err.ensures.settled

pub returns-in-Err-clause-any_moment : goal.returns-in-Err-clause-any_moment
returns-in-Err-clause-any_moment c = λ is_known.
    let from = string_bytes c.args.from.now in
    let to = string_bytes c.args.to.now in
    steps_same c.args.self.now c.act.new.self (MayMove from to (folder_held c.args.self.now from))
    (may_stay from to (folder_held c.args.self.now from)) c.in-Err.ensures.same (omega (arith, c.in-Err.ensures.settled))

pub returns-in-Ok-clause-moved : goal.returns-in-Ok-clause-moved
returns-in-Ok-clause-moved c = λ is_known.
    let made = makes _ _ _ _ _ c.in-Ok.ensures.changed in
    ap on_disk made.there

pub returns-in-Ok-clause-gone : goal.returns-in-Ok-clause-gone
returns-in-Ok-clause-gone c = λ is_known differ.
    let made = makes _ _ _ _ _ c.in-Ok.ensures.changed in
    ap on_disk (made.taken differ)

pub returns-in-Ok-clause-others : goal.returns-in-Ok-clause-others
returns-in-Ok-clause-others c = λ is_known other one two.
    let made = makes _ _ _ _ _ c.in-Ok.ensures.changed in
    ap on_disk (made.others other one two)

pub returns-in-Ok-clause-any_moment : goal.returns-in-Ok-clause-any_moment
returns-in-Ok-clause-any_moment c = λ is_known.
    let from = string_bytes c.args.from.now in
    let to = string_bytes c.args.to.now in
    let stood = standing c.args.self.now.changes.items from in
    steps_changed c.args.self.now c.act.new.self from to stood (MayMove from to (on_disk stood)) (may_stay from to (on_disk stood))
    c.in-Ok.ensures.changed c.in-Ok.ensures.settled
    (λ left made. record { others = made.others; there = inr (λ bytes is. made.there ∙ one_file stood bytes is) })
