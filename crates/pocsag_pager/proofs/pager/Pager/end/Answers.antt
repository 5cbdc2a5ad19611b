use Rattle.pocsag_pager.proofs.Prelude.{sym}
use Rattle.pocsag_pager.proofs.Hearings.{all_shown}
use Rattle.pocsag_pager.proofs.pager.Pager.end.Goals as goal

pub returns-in-Listening-clause-shown : goal.returns-in-Listening-clause-shown
returns-in-Listening-clause-shown c = λ words ps s have.
    all_shown c.args.self.now.address words c.args.self.now.state c.in-Listening.kept ps (sym c.in-Listening.ensures.value) s.open_page have
