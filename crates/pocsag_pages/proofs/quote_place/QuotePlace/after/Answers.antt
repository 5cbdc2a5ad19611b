use Rattle.pocsag_pages.proofs.Prelude.{◌≡◌, ◌⊎◌, ◌+◌, inl, inr, sym, ◌∙◌, ap, subst, refl, arith, ◌++◌, ◌∷◌, QuoteState, IsLostIn, MayGoOn}
use Rattle.pocsag_pages.specs.declared.quote_state.QuoteState.TheVariants as at
use Rattle.pocsag_pages.proofs.QuoteFaults.{lost_is_not}
use Rattle.pocsag_pages.proofs.QuoteStates.{lost_behind}
use Rattle.pocsag_pages.proofs.QuoteWalks.{ended, few_more, goes, gone_on, lost, opened_before}
use Rattle.pocsag_pages.proofs.quote_place.QuotePlace.after.Goals as goal

dead : (r s : QuoteState) → r ≡ s → (r ≡ at.Broken) ⊎ (r ≡ at.Ended) → MayGoOn s → ⊥
dead r s is (inl e) on = subst MayGoOn (sym is ∙ e) on
dead r s is (inr e) on = subst MayGoOn (sym is ∙ e) on

pub returns-then-ends_line-clause-place : goal.returns-then-ends_line-clause-place
returns-then-ends_line-clause-place c = λ seen h.
    ended c.args.self c.args.byte _ _ seen h c.if-ends_line.true
    (lost_behind c.args.self.state c.args.byte (dead _ _ c.after.ensures c.in-Broken.is))
    (ap (λ n. c.args.self.number + n) c.from-then-ends_line.ensures) (ap (λ n. c.args.self.line + n) c.from.ensures)

pub returns-then-byte-eq34 : goal.returns-then-byte-eq34
returns-then-byte-eq34 c =
    let no_end = c.if-ends_line.false in
    let never = dead _ _ c.after.ensures c.in-Broken.is in
    record {
      place = tt;
      records = tt;
      lines = tt;
      fault = λ seen rest h.
          subst (IsLostIn (seen ++ c.args.byte ∷ rest) c.args.self.number c.args.self.line) c.if-byte-eq34.true
          (lost c.args.self c.args.byte seen rest h no_end never);
      lost = λ seen rest h. lost_is_not c.args.self c.args.byte seen rest h no_end never;
    }

pub returns-else-byte-eq34 : goal.returns-else-byte-eq34
returns-else-byte-eq34 c =
    let no_end = c.if-ends_line.false in
    let never = dead _ _ c.after.ensures c.in-Broken.is in
    record {
      place = tt;
      records = tt;
      lines = tt;
      fault = λ seen rest h. (c.args.byte, c.if-byte-eq34.false, lost c.args.self c.args.byte seen rest h no_end never);
      lost = λ seen rest h. lost_is_not c.args.self c.args.byte seen rest h no_end never;
    }

pub returns-in-Start : goal.returns-in-Start
returns-in-Start c = record {
  place = λ seen h.
      gone_on c.args.self _ c.args.byte _ _ seen h c.after.ensures (goes _ c.in_default.not-Broken c.in_default.not-Ended)
      (ap (λ n. c.args.self.line + n) c.from.ensures) (rw c.in-Start.is refl);
  records = omega arith;
  lines = few_more _ _ _ c.from.ensures;
  fault = tt;
  lost = tt;
}

pub returns-in_default-state : goal.returns-in_default-state
returns-in_default-state c = record {
  place = λ seen h.
      gone_on c.args.self _ c.args.byte _ _ seen h c.after.ensures (goes _ c.in_default.not-Broken c.in_default.not-Ended)
      (ap (λ n. c.args.self.line + n) c.from.ensures) (opened_before _ _ _ c.in_default-state.not-Start);
  records = omega arith;
  lines = few_more _ _ _ c.from.ensures;
  fault = tt;
  lost = tt;
}
