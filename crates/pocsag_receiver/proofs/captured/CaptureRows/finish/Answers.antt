use Rattle.pocsag_receiver.proofs.Prelude.{◌≡◌, ◌∙◌, Option, Some, None, [], refl, subst, sym, AreRowsLeft, Begun}
use Rattle.pocsag_receiver.proofs.CaptureRows.{behind_apart, left_of}
use Rattle.pocsag_receiver.proofs.captured.CaptureRows.finish.Goals as goal

pub loop-begun-preserved : goal.loop-begun-preserved
loop-begun-preserved c =
    let loop = c.loop-begun in
    let is : loop.self.current ≡ Some c.in-Some.begun = sym c.take.ensures.value ∙ c.in-Some.is in record {
      can = c.end.ensures.can;
      left = λ rows heard l.
          let more = c.end.ensures.left rows heard l in
          loop.invariant.left more.0 heard (left_of is (behind_apart loop.self more.1));
    }

pub returns : goal.returns
returns c =
    let loop = c.loop-begun in
    let is : loop.self.current ≡ None = sym c.take.ensures.value ∙ c.in_default.is in
    record {
      ends = loop.invariant.left [] loop.self.heard.items
          (subst (λ (current : Option Begun). AreRowsLeft loop.self current [] loop.self.heard.items) (sym is) (refl, refl));
    }
