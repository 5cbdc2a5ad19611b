use Rattle.pocsag_pager.proofs.Prelude.{◌≡◌, ◌%◌, ◌<◌, ◌++◌, ◌∷◌, [], length, subst, sym, arith, None, IsHeardAs}
use Rattle.pocsag_pager.proofs.Places.{ending_none}
use Rattle.pocsag_pager.proofs.Hearings.{IsOpen, place_more, open_still, skip_ended, skip_open, turn_ended, turn_open}
use Rattle.pocsag_pager.proofs.pager.Pager.hear.Goals as goal

pub returns-then-place-eq0-clause-stands : goal.returns-then-place-eq0-clause-stands
returns-then-place-eq0-clause-stands c = λ words s.
    let self = c.args.self.now in
    record {
      place = place_more self.place words c.args.word s.place;
      open_page =
          skip_open self.address self.place c.args.word words s.place c.if-place-eq0.true self.state c.in-Listening.kept
          (sym c.in-Listening.ensures.value) s.open_page;
    }

pub returns-then-place-eq0-clause-ended : goal.returns-then-place-eq0-clause-ended
returns-then-place-eq0-clause-ended c = λ words ps s have.
    let self = c.args.self.now in
    skip_ended self.address self.place c.args.word words s.place c.if-place-eq0.true ps have

pub returns-clause-stands : goal.returns-clause-stands
returns-clause-stands c = λ words s.
    let self = c.args.self.now in
    let inside : 0 < self.place = omega arith in
    record {
      place = place_more self.place words c.args.word s.place;
      open_page =
          turn_open self.address self.place c.args.word words self.state c.in-Listening.kept c.heard_as-heard.result s.place inside
          (sym c.in-Listening.ensures.value) c.heard_as-heard.ensures s.open_page _ c.in_ok-kept.ensures.kept;
    }

pub returns-clause-ended : goal.returns-clause-ended
returns-clause-ended c = λ words ps s have.
    let self = c.args.self.now in
    let inside : 0 < self.place = omega arith in
    turn_ended self.address self.place c.args.word words self.state c.in-Listening.kept c.heard_as-heard.result s.place inside
    (sym c.in-Listening.ensures.value) c.heard_as-heard.ensures s.open_page ps _ c.in_ok-kept.ensures.ended have

pub returns-then-not-opens-clause-stands : goal.returns-then-not-opens-clause-stands
returns-then-not-opens-clause-stands c = λ words s.
    let self = c.args.self.now in
    record {
      place = place_more self.place words c.args.word s.place;
      open_page =
          subst (IsOpen (words ++ c.args.word ∷ []) self.address) (sym c.if-is_between_pages.ensures)
          (turn_open self.address self.place c.args.word words self.state None c.heard_as-heard.result s.place c.if-place-gt0.true
          c.if-is_between_pages.ensures c.heard_as-heard.ensures s.open_page None (sym c.if-not-opens.ensures));
    }

pub returns-then-not-opens-clause-ended : goal.returns-then-not-opens-clause-ended
returns-then-not-opens-clause-ended c = λ words ps s have.
    let self = c.args.self.now in
    turn_ended self.address self.place c.args.word words self.state None c.heard_as-heard.result s.place c.if-place-gt0.true
    c.if-is_between_pages.ensures c.heard_as-heard.ensures s.open_page ps None (sym (ending_none c.heard_as-heard.result)) have

pub returns-in_err-kept-clause-memory : goal.returns-in_err-kept-clause-memory
returns-in_err-kept-clause-memory c = λ words s e.
    let self = c.args.self.now in
    let message = c.in_err-kept.ensures.message in
    let place : self.place ≡ length words % 17 = s.place in
    record {
      codeword = omega arith;
      bits = message.0;
      message = subst (IsHeardAs c.args.word) message.1 c.heard_as-heard.ensures;
      open_page =
          open_still words self.address self.state c.in-Listening.kept (sym c.in-Listening.ensures.value)
          c.in_err-kept.ensures.open_page s.open_page;
    }
