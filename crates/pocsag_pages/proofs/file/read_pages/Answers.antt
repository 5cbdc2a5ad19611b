use Rattle.pocsag_pages.proofs.Prelude.{inl, inr, ap, ◌∙◌, err_from_is_err_and}
use Rattle.std.proofs.Common.{Err}
use Rattle.pocsag_pages.proofs.Judgements.{fault_of_whole, never_read, unread}
use Rattle.pocsag_pages.proofs.file.read_pages.Goals as goal

pub returns-in_err-bytes-clause-err : goal.returns-in_err-bytes-clause-err
returns-in_err-bytes-clause-err g c = λ t.
    let told = err_from_is_err_and c.from_residual.result c.from_residual.ensures.1 in
    rw (told.1) (unread c.args.may_wait _ c.in_err-bytes.field-0.0 told.0 (λ w. c.read_whole.ensures.too_large t (c.in_err-bytes.was ∙ ap Err w)) told.2)

pub returns-in_default-clause-failed : goal.returns-in_default-clause-failed
returns-in_default-clause-failed g c = λ h. absurd (elim (rw h at c.held_pages.ensures.err) [ inl memory ↦ cc | inr v ↦ never_read c.args.may_wait _ v ])

pub returns-in-Err-clause-failed : goal.returns-in-Err-clause-failed
returns-in-Err-clause-failed g c = λ h. absurd (elim (rw (c.in-Err.is ∙ h) at c.held_pages-2.ensures.err) [ inl memory ↦ cc | inr v ↦ never_read c.args.may_wait _ v ])

pub returns-in_default-clause-cut : goal.returns-in_default-clause-cut
returns-in_default-clause-cut g c = λ t. fault_of_whole _ _ (never_read c.args.may_wait _) (c.in_ok-bytes.ensures.uncut t) c.held_pages.result c.held_pages.ensures.err

pub returns-in-Err-clause-cut : goal.returns-in-Err-clause-cut
returns-in-Err-clause-cut g c = λ t. fault_of_whole {X = Unit {0}} _ _ (never_read c.args.may_wait _) (c.in-Some.ensures.whole t) (Err c.in-Err.fault) c.in-Err.ensures.err
