use Rattle.pocsag_c.proofs.Prelude.{◌≡◌, ◌∙◌, ◌++◌, ap, ℕ, List, subst, sym}
use Rattle.pocsag_findings.specs.Beginnings.{GivesVerdict}
use Rattle.pocsag_c.proofs.explain.pocsag_explain.Goals as goal

pub returns-clause-no_room : goal.returns-clause-no_room
returns-clause-no_room c = λ small.
    let verdict = c.in-Ok.verdict in
    let format = c.in-Some.format in
    let bytes = c.as_slice.result.now in
    let told = c.in-Ok-write_explanation.ensures.told in
    let same : bytes ≡ told.text =
    c.as_slice.ensures.value ∙ c.into_bytes.ensures ∙ told.taken tt ∙ ap (λ (l : List ℕ). l ++ told.text) c.new-told.ensures.kept in
    record {
      text = bytes;
      is = (
        verdict.is_shown,
        record {
          end = verdict.certificate.end;
          same_end = c.in-Ok.ensures.end;
          holds = (
            format,
            c.in-Some.ensures.form,
            subst (λ (n : ℕ). GivesVerdict format verdict.is_shown verdict.certificate.end n bytes) (sym c.in-Ok.ensures.batches)
                (subst (GivesVerdict format verdict.is_shown verdict.certificate.end verdict.certificate.batches) (sym same) told.told),
          );
        },
      );
      too_small = c.hand_out.ensures.too_small (cc);
    }
