use Rattle.pocsag_capture.proofs.Prelude.{refl, inl, inr, arith, All-nil, IsListable, capture_bits}
use Rattle.pocsag_capture.proofs.PagesLeft.{captured_from_start}
use Rattle.pocsag_capture.proofs.captured_pages.CapturedPages.new.Goals as goal

pub returns : goal.returns
returns c = record {
  can = record {
    few = c.requires.few;
    end = c.requires.end;
    within = omega arith;
    in_step =
        elim c.steady_batches.ensures [
          | inl shorter ↦ omega (arith, shorter.1)
          | inr all ↦ omega (arith, all.1)
        ];
    open_page = refl;
    listable = All-nil IsListable;
    few_bits = omega arith;
    few_lost = omega arith;
    few_cut = omega arith;
    few_before = λ holds. omega arith;
  };
  captured = λ number ps cuts heard f.
      captured_from_start (capture_bits c.args.capture.now) c.args.reception number c.steady_batches.result 0 _ f.mended f.codewords ps cuts heard
      c.steady_batches.ensures refl refl f.received f.pages;
}
