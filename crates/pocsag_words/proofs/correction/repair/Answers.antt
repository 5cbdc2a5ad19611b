use Rattle.pocsag_words.proofs.Prelude.{◌≡◌, ℕ, slice_index, ap, ◌∙◌, subst, sym, IsOnlyNear, ERRORS}
use Rattle.pocsag_words.proofs.ErrorLemmas.{IsOnlyNear-mended, HasNoneNear-from_far}
use Rattle.pocsag_words.proofs.correction.repair.Goals as goal

pub new-requires : goal.new-requires
new-requires c =
    let at : c.entry-error.result ≡ slice_index ERRORS c.syndrome.result = c.entry-error.ensures in
    (IsOnlyNear-mended _ _ c.ranges.number.fits (at ∙ ap (slice_index ERRORS) c.syndrome.ensures.value) c.if-error.false).codeword

pub returns-then-error : goal.returns-then-error
returns-then-error c =
    let at : c.entry-error.result ≡ slice_index ERRORS c.syndrome.result = c.entry-error.ensures in
    HasNoneNear-from_far c.args.number c.ranges.number.fits
    (ap (slice_index ERRORS) (sym c.syndrome.ensures.value) ∙ sym at ∙ c.if-error.true)

pub returns-else-error : goal.returns-else-error
returns-else-error c =
    let at : c.entry-error.result ≡ slice_index ERRORS c.syndrome.result = c.entry-error.ensures in
    let near =
    IsOnlyNear-mended c.args.number c.entry-error.result c.ranges.number.fits
    (at ∙ ap (slice_index ERRORS) c.syndrome.ensures.value) c.if-error.false in
    subst (λ (v : ℕ). IsOnlyNear c.args.number v) (sym c.new.ensures) near
