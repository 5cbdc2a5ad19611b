use Rattle.pocsag_shell.proofs.Prelude.{refl, sym, done, lost, refused}
use Rattle.pocsag_shell.proofs.answer.print_answer.Goals as goal

pub returns-in-Err : goal.returns-in-Err
returns-in-Err g c = record { ran = refused c.in-Err.fault c.end.ensures.fault c.in-Err.is refl }

pub returns-in-Ok-put_whole : goal.returns-in-Ok-put_whole
returns-in-Ok-put_whole g c =
    let ended = c.end-in-Ok-put_whole.ensures.done in record {
      ran = done ended.1 (λ _. (
        c.in-Ok.answer.text.items,
        (c.in-Ok.answer, c.in-Ok.is, sym ended.0, refl),
        λ u. rw c.as_slice.ensures.value at (c.in-Ok-put_whole.ensures.delivers u).0,
      ));
    }

pub returns : goal.returns
returns g c = record {
  ran = lost c.from.result c.end-in-Err-put_whole.ensures.fault (rw c.in-Err-put_whole.ensures.lost at c.from.ensures) c.in-Err-put_whole.ensures.failures.1 (λ _. (
    c.in-Ok.answer.status,
    c.in-Ok.answer.text.items,
    (c.in-Ok.answer, c.in-Ok.is, refl, refl),
    λ u. rw c.as_slice.ensures.value at (c.in-Err-put_whole.ensures.delivers u).1,
  ));
}
