use Rattle.pocsag_shell.proofs.Prelude.{◌≡◌, inl, inr, ⊎_elim, List, Option, ℕ, Bool, IsFalse, None, ◌∙◌, sym, Ghosts, StagedFile, IsDistinct, IsSame, IsSameBut, IsStaged, MayMove, MayPut, kept_at, place_of, staged_at}
use Rattle.pocsag_shell.proofs.Folders.{Steps, call_more, still_on_disk}
use Rattle.pocsag_shell.proofs.placement.put_first.Goals as goal

pub returns-in-Err-clause-back : goal.returns-in-Err-clause-back
returns-in-Err-clause-back g c = λ is_known bytes own ready is_back.
    still_on_disk g.F.Folder is_known (c.link.ensures.any_moment is_known) ready.place
    (c.link.ensures.others is_known (place_of c.args.file.now) own.place_kept) (λ was left same. same (place_of c.args.file.now) own.place_kept)

-- what a crash leaves from the link on
module _ {F : Type 0} (folder : Ghosts F) (is_known : folder.is_known) (file : StagedFile) (bytes : List ℕ → Option (List ℕ)) (own : IsDistinct file)
    {old linked moved : F} (ready : IsStaged (folder.held old) (folder.may_leave old) bytes file)
    (linked_held : IsSameBut (kept_at file) (folder.held old) (folder.held linked)) (link : Steps folder old linked (IsSameBut (kept_at file)))
    (rename : Steps folder linked moved (MayMove (staged_at file) (place_of file) (folder.held linked (staged_at file)))) where
  until_moved : Steps folder old moved (MayPut file bytes)
  until_moved = call_more folder is_known link rename
      (λ was left may same. record {
        others = λ path off. same path off.kept;
        there = inl (same (place_of file) own.place_kept ∙ ready.place.left was may);
      })
      (λ was between left may mid same move. record {
        others = λ path off. move.others path off.staged off.place ∙ same path off.kept;
        there = ⊎_elim (λ e. inl (e ∙ (same (place_of file) own.place_kept ∙ ready.place.left was may)))
            (λ f. inr (f (bytes (staged_at file)) (linked_held (staged_at file) own.staged_kept ∙ ready.staged))) move.there;
      })

  until_synced : {synced : F} → Steps folder moved synced IsSame → Steps folder old synced (MayPut file bytes)
  until_synced sync = call_more folder is_known until_moved sync (λ was left may put. put) (λ was between left may mid put same. record {
    others = λ path off. same path ∙ put.others path off;
    there = ⊎_elim (λ e. inl (same (place_of file) ∙ e)) (λ e. inr (same (place_of file) ∙ e)) put.there;
  })

  until_back : {synced last : F} {stood : Bool} → Steps folder moved synced IsSame → folder.held synced (kept_at file) ≡ folder.held old (place_of file) →
      (IsFalse stood → folder.held old (place_of file) ≡ None) →
      ((IsFalse stood → folder.held synced (kept_at file) ≡ None) →
      Steps folder synced last (MayMove (kept_at file) (place_of file) (folder.held synced (kept_at file)))) → Steps folder old last (MayPut file bytes)
  until_back sync older none back = call_more folder is_known (until_synced sync) (back (λ stood. older ∙ none stood)) (λ was left may put. put)
      (λ was between left may mid put move. record {
        others = λ path off. move.others path off.kept off.place ∙ put.others path off;
        there = ⊎_elim (λ e. ⊎_elim (λ p. inl (e ∙ p)) (λ p. inr (e ∙ p)) put.there)
            (λ f. inl (f (bytes (place_of file)) (older ∙ ready.place.stands))) move.there;
      })

pub returns-in-Err-rename-clause-any_moment : goal.returns-in-Err-rename-clause-any_moment
returns-in-Err-rename-clause-any_moment g c = λ is_known bytes own ready.
    until_moved g.F.Folder is_known c.args.file.now bytes own ready (c.link.ensures.others is_known) (c.link.ensures.any_moment is_known)
    (c.rename.ensures.any_moment is_known)

pub returns-in_default-sync_names-clause-any_moment : goal.returns-in_default-sync_names-clause-any_moment
returns-in_default-sync_names-clause-any_moment g c = λ is_known bytes own ready.
    until_synced g.F.Folder is_known c.args.file.now bytes own ready (c.link.ensures.others is_known) (c.link.ensures.any_moment is_known)
    (c.rename.ensures.any_moment is_known) (c.sync_names.ensures.any_moment is_known)

pub returns-clause-any_moment : goal.returns-clause-any_moment
returns-clause-any_moment g c = λ is_known bytes own ready.
    let kept = kept_at c.args.file.now in
    until_back g.F.Folder is_known c.args.file.now bytes own ready (c.link.ensures.others is_known) (c.link.ensures.any_moment is_known)
    (c.rename.ensures.any_moment is_known) (c.sync_names.ensures.any_moment is_known)
    (c.sync_names.ensures.same is_known kept
    ∙ (c.rename.ensures.others is_known kept (λ e. own.staged_kept (sym e)) (λ e. own.place_kept (sym e))
    ∙ c.in-Ok.ensures.linked is_known)) (c.in-Ok.ensures.none is_known) (c.bring_back.ensures.any_moment is_known)
