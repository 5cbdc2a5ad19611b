use Rattle.pocsag_pages.proofs.Prelude.{false, ◌∙◌, inl, inr, refl, arith}
use Rattle.pocsag_pages.proofs.Judgements.{judged, grown_end, grown_fault, grown_on, said_ok, said_err}
use Rattle.pocsag_pages.proofs.file.judge_rows.Goals as goal

pub loop-row-init : goal.loop-row-init
loop-row-init c = rw c.new-builder.ensures (record {
  even = refl;
  few = omega arith;
  rest = judged false _;
})

pub returns-then-not-found-clause-ok : goal.returns-then-not-found-clause-ok
returns-then-not-found-clause-ok c =
    let over =
    c.loop-row.invariant.rest ∙ rw (c.in_ok-found.ensures.none c.if-not-found.true)
    (grown_end false c.loop-row.builder c.loop-row.earlier) in
    rw c.into_round.ensures (said_ok _ _ over)

pub returns-then-not-found-clause-err : goal.returns-then-not-found-clause-err
returns-then-not-found-clause-err c =
    let over =
    c.loop-row.invariant.rest ∙ rw (c.in_ok-found.ensures.none c.if-not-found.true)
    (grown_end false c.loop-row.builder c.loop-row.earlier) in
    rw c.into_round.ensures (said_err _ _ over)

pub returns-in-Err-clause-err : goal.returns-in-Err-clause-err
returns-in-Err-clause-err c =
    elim c.in-Err.ensures.err [
      | inl e ↦ inl (c.numbered.ensures ∙ rw e refl)
      | inr f ↦
          inr
          (c.loop-row.invariant.rest
          ∙ rw (c.in_ok-found.ensures.found c.if-not-found.false, c.numbered.ensures)
          (grown_fault false c.loop-row.builder c.loop-row.earlier _ _ c.in-Err.fault f))
    ]

pub loop-row-preserved : goal.loop-row-preserved
loop-row-preserved c =
    let judged_fine = c.in-Ok.ensures in
    record {
      even = omega (arith, judged_fine.one);
      few = judged_fine.few;
      rest =
          c.loop-row.invariant.rest
          ∙ rw (c.in_ok-found.ensures.found c.if-not-found.false, judged_fine.longer)
          (grown_on false c.loop-row.builder c.loop-row.earlier _ _ judged_fine.fine);
    }
