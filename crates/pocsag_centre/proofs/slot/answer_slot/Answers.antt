use Rattle.pocsag_centre.proofs.Prelude.{◌∙◌, inr, refl}
use Rattle.pocsag_centre.proofs.slot.answer_slot.Goals as goal

pub returns-in-Err : goal.returns-in-Err
returns-in-Err g c =
    let read = c.in_ok-read.read in
    record {
      answers = (
        λ _. tt,
        (
          c.in_ok-read.ensures.whole,
          inr (refl, c.in-Err.ensures.bad.0 refl, λ known. (read.front, read.aside.items, c.in_ok-read.ensures.front known)),
        ),
      );
    }

pub returns-in-Ok-print_slot : goal.returns-in-Ok-print_slot
returns-in-Ok-print_slot g c =
    let read = c.in_ok-read.read in
    record {
      answers = (
        λ _. (
          c.in_ok-read.ensures.whole,
          (
            refl,
            λ known. record {
              front = read.front;
              aside = read.aside.items;
              read = c.in_ok-read.ensures.front known;
              report = c.in-Ok.report;
              report_of = c.in-Ok.ensures.report;
              printed = c.into_bytes.ensures ∙ rw c.new-text.ensures.kept at c.in-Ok-print_slot.ensures.printed tt;
            },
          ),
        ),
        tt,
      );
    }
