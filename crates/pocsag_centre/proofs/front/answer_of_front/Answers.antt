use Rattle.pocsag_centre.proofs.Prelude.{refl, err_from_is_err_and, others_failed, unwritten}
use Rattle.pocsag_centre.proofs.FrontRuns.{front_done, unsent_told}
use Rattle.pocsag_centre.proofs.front.answer_of_front.Goals as goal

pub returns-in_err-read : goal.returns-in_err-read
returns-in_err-read g c =
    let p = err_from_is_err_and c.from_residual.result c.from_residual.ensures.1 in
    record { answers = rw (p.1, p.2) (λ _. tt, (c.in_err-read.ensures.cut, unwritten c.in_err-read.ensures.explained (refl, refl, refl, refl, refl))) }

pub returns-in_err-texts : goal.returns-in_err-texts
returns-in_err-texts g c =
    let p = err_from_is_err_and c.from_residual-in_err-texts.result c.from_residual-in_err-texts.ensures.1 in
    record {
      answers = rw (p.1, p.2, c.in_err-texts.ensures.memory) (λ _. tt, (c.in_ok-read.ensures.whole, unwritten c.in_ok-read.ensures.limited (refl, refl, refl, refl, refl)));
    }

pub returns-in_err-put_others : goal.returns-in_err-put_others
returns-in_err-put_others g c =
    let p = err_from_is_err_and c.from_residual-in_err-put_others.result c.from_residual-in_err-put_others.ensures.1 in
    let texts = c.in_ok-texts.ensures in
    let failed = c.in_err-put_others.ensures in
    record {
      answers = rw (p.1, p.2, failed.lost) (
        λ _. tt,
        (
          c.in_ok-read.ensures.whole,
          others_failed refl (refl, refl)
              (c.in_ok-read.read.front, c.in_ok-read.read.aside.items, rw (texts.rest, texts.aside) at failed.explained, refl, λ k. c.in_ok-read.ensures.front k),
        ),
      );
    }

pub returns : goal.returns
returns g c =
    let texts = c.in_ok-texts.ensures in
    let taken = c.in_ok-put_others.ensures in
    let done = c.in-Err.ensures in
    record {
      answers = (
        λ _. tt,
        (
          c.in_ok-read.ensures.whole,
          unsent_told g.P.Source g.S.Sink c.args.asked c.args.files.now _ c.in_ok-read.read.front c.in_ok-read.read.aside.items (λ k. c.in_ok-read.ensures.front k)
              refl (λ u. rw texts.rest at taken.rest u) (λ u. rw texts.aside at taken.aside u) (λ u. taken.why u)
              c.in-Err.field-0 done.unsent done.writers (λ u. done.part u) (λ u. done.certificate_part u u),
        ),
      );
    }

pub returns-in-Ok : goal.returns-in-Ok
returns-in-Ok g c =
    let texts = c.in_ok-texts.ensures in
    let taken = c.in_ok-put_others.ensures in
    record {
      answers = (
        λ _. (
          c.in_ok-read.ensures.whole,
          (
            refl,
            front_done g.P.Source g.S.Sink c.args.asked c.args.files.now _ c.in_ok-read.read.front c.in_ok-read.read.aside.items (λ k. c.in_ok-read.ensures.front k)
                refl (λ u. rw texts.rest at taken.rest u) (λ u. rw texts.aside at taken.aside u) (λ u. taken.why u)
                c.in_ok-texts.texts.lines.items texts.lines (λ u. c.in-Ok.ensures.whole u u),
          ),
        ),
        tt,
      );
    }
