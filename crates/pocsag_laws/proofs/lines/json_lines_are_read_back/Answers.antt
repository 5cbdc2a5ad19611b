use Rattle.pocsag_laws.proofs.Prelude.{arith}
use Rattle.json.proofs.Printed.Decimals.{IsNumber-decimal}
use Rattle.json.proofs.Printed.Trees.{document-print}
use Rattle.pocsag_receiver.specs.CapturedForms.{captured_object}
use Rattle.pocsag_receiver.specs.Forms.{page_object}
use Rattle.pocsag_laws.proofs.lines.json_lines_are_read_back.Goals as goal

pub returns-clause-pages : goal.returns-clause-pages
returns-clause-pages c = λ texts p small few.
    document-print (page_object texts p)
    (IsNumber-decimal p.address (omega (arith, small)), (IsNumber-decimal p.function (omega (arith, few)), (tt, (tt, tt))))
    (omega arith)

pub returns-clause-captured : goal.returns-clause-captured
returns-clause-captured c = λ texts m p small few numbered placed.
    document-print (captured_object texts m p) (
      IsNumber-decimal p.address (omega (arith, small)),
      (
        IsNumber-decimal p.function (omega (arith, few)),
        (
          tt,
          (
            tt,
            (
              tt,
              (IsNumber-decimal m.transmission numbered, (tt, (IsNumber-decimal m.bit placed, tt))),
            ),
          ),
        ),
      ),
    )
    (omega arith)
