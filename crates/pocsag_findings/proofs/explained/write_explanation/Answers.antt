use Rattle.pocsag_findings.proofs.Prelude.{◌≡◌, ◌++◌, List, ℕ, ap, ◌∙◌, string_bytes, on_ok_weaker, GivesVerdict}
use Rattle.pocsag_findings.proofs.Adding.{less_of_verdict, none_of_verdict, part_of_verdict, verdict_taken}
use Rattle.pocsag_findings.proofs.explained.write_explanation.Given.{Over}
use Rattle.pocsag_findings.proofs.explained.write_explanation.Goals as goal

pub returns-in_err-kinds-clause-stopped : goal.returns-in_err-kinds-clause-stopped
returns-in_err-kinds-clause-stopped g c = λ _. none_of_verdict g.O.Sink _ _ _ _ _

pub returns-in_err-explanation-clause-stopped : goal.returns-in_err-explanation-clause-stopped
returns-in_err-explanation-clause-stopped g c = λ _. none_of_verdict g.O.Sink _ _ _ _ _

pub returns-in_err-first-clause-stopped : goal.returns-in_err-first-clause-stopped
returns-in_err-first-clause-stopped g c = λ _. none_of_verdict g.O.Sink _ _ _ _ _

module _ (g : Over) (c : goal.After-drop-kinds-2 g) where
  gives : GivesVerdict c.args.format c.args.judged.is_shown c.args.judged.certificate.now.end c.args.judged.certificate.now.batches
      (string_bytes c.in_ok-first.first)
  gives =
      rw (c.in_ok-explanation.ensures.end, c.in_ok-explanation.ensures.batches, c.in_ok-explanation.ensures.verdict) at
      c.in_ok-first.ensures

  middle : g.O.Sink.is_known → g.O.Sink.taken c.write_all.new.sink ≡ g.O.Sink.taken c.args.out.now ++ string_bytes c.in_ok-first.first
  middle k =
      (c.in_ok-write_all.ensures.delivers k).0
      ∙ ap (λ (l : List ℕ). g.O.Sink.taken c.args.out.now ++ l) (c.as_bytes.ensures.value ∙ c.as_str.ensures.value)

pub returns-clause-told : goal.returns-clause-told
returns-clause-told g c =
    on_ok_weaker c.write_rest.result
    (λ _. verdict_taken g.O.Sink _ _ _ _ _ _ _ _ (gives g c) (middle g c) c.write_rest.ensures.piece c.write_rest.ensures.taken)
    c.write_rest.ensures.succeeded

pub returns-clause-part : goal.returns-clause-part
returns-clause-part g c = λ e.
    part_of_verdict g.O.Sink _ _ _ _ _ _ _ _ (gives g c) (middle g c) c.write_rest.ensures.piece c.write_rest.ensures.taken

pub returns-clause-stopped : goal.returns-clause-stopped
returns-clause-stopped g c = λ e.
    less_of_verdict g.O.Sink _ _ _ _ _ _ _ _ (gives g c) (middle g c) c.write_rest.ensures.piece c.write_rest.ensures.taken
