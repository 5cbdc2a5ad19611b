use Rattle.pocsag_shell.proofs.Placements.{kept_step, split}
use Rattle.pocsag_shell.proofs.placement.+remove_kept.Goals as goal

pub returns-clause-any_moment : goal.returns-clause-any_moment
returns-clause-any_moment g t c = λ is_known.
    kept_step g.F.Folder is_known (split c.args.files.now c.file-item.result c.in-len1-up.len_at_least c.file-item.is)
    (c.remove.ensures.any_moment is_known) (c.remove_kept.ensures.any_moment is_known)
