use Rattle.pocsag_shell.proofs.Prelude.{inl, inr, ⊎_elim, ◌∙◌, place_of}
use Rattle.pocsag_shell.proofs.Folders.{call_more}
use Rattle.pocsag_shell.proofs.placement.bring_back.Goals as goal

pub returns-in-Ok-clause-any_moment : goal.returns-in-Ok-clause-any_moment
returns-in-Ok-clause-any_moment g c = λ is_known none.
    call_more g.F.Folder is_known (c.rename_back.ensures.any_moment is_known none) (c.sync_names.ensures.any_moment is_known)
    (λ was left may move. move)
    (λ was between left may mid move same. record {
      others = λ other one two. same other ∙ move.others other one two;
      there = ⊎_elim (λ e. inl (same (place_of c.args.file.now) ∙ e)) (λ f. inr (λ bytes is. same (place_of c.args.file.now) ∙ f bytes is)) move.there;
    })
