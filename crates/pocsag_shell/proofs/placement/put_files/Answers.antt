use Rattle.pocsag_shell.proofs.Prelude.{inl}
use Rattle.std.proofs.lemmas.Bool.{not-false}
use Rattle.pocsag_shell.proofs.Placements.{all_gone, back_cleared, beside_cleared, cleared_step, put_cleared}
use Rattle.pocsag_shell.proofs.placement.put_files.Goals as goal

pub returns-in-Ok-clause-put : goal.returns-in-Ok-clause-put
returns-in-Ok-clause-put g c = λ is_known bytes own ready.
    put_cleared c.args.files.now own g.F.Folder is_known bytes (c.remove_kept.ensures.any_moment is_known) (c.remove_kept.ensures.others is_known)
    (c.in-Ok.ensures.put is_known bytes own ready)

pub returns-in-Ok-clause-order : goal.returns-in-Ok-clause-order
returns-in-Ok-clause-order g c = λ is_known bytes own ready.
    cleared_step c.args.files.now own g.F.Folder is_known bytes (c.remove_kept.ensures.any_moment is_known)
    (c.put_rest.ensures.any_moment is_known bytes own ready)

pub returns-in-Ok-clause-gone : goal.returns-in-Ok-clause-gone
returns-in-Ok-clause-gone g c = λ is_known bytes own ready.
    all_gone _ _ bytes c.args.files.now (put_cleared c.args.files.now own g.F.Folder is_known bytes (c.remove_kept.ensures.any_moment is_known)
    (c.remove_kept.ensures.others is_known) (c.in-Ok.ensures.put is_known bytes own ready))
    (c.in-Ok.ensures.succeeded is_known) (c.remove_kept.ensures.gone is_known own)

pub returns-clause-order : goal.returns-clause-order
returns-clause-order g c = λ is_known bytes own ready.
    cleared_step c.args.files.now own g.F.Folder is_known bytes (c.remove_kept-2.ensures.any_moment is_known)
    (c.put_rest.ensures.any_moment is_known bytes own ready)

pub returns-clause-back : goal.returns-clause-back
returns-clause-back g c = λ is_known bytes own ready. inl
    (back_cleared c.args.files.now own g.F.Folder is_known bytes (c.remove_kept-2.ensures.any_moment is_known) (c.remove_kept-2.ensures.others is_known)
    (c.in-Err.ensures.back is_known bytes own ready (not-false c.in-Err.unput.is_back c.if-not-unput.false)))

pub returns-clause-beside : goal.returns-clause-beside
returns-clause-beside g c = λ is_known own.
    beside_cleared c.args.files.now own (c.remove_kept-2.ensures.others is_known) (c.in-Err.ensures.beside is_known own)
