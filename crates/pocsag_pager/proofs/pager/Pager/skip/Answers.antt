use Rattle.pocsag_pager.proofs.Prelude.{◌≡◌, ◌%◌, ℕ, length, arith, subst, sym, IsElsewhere, length-append}
use Rattle.pocsag_pager.proofs.Hearings.{pass_all}
use Rattle.pocsag_pager.proofs.pager.Pager.skip.Goals as goal

pub returns-clause-heard : goal.returns-clause-heard
returns-clause-heard c = λ words more ps h small long.
    let self = c.args.self.now in
    let place : self.place ≡ length words % 17 = h.stands.place in
    let known =
    pass_all c.numbers_are_repaired.ensures self.address self.place self.state words more ps small (omega arith) c.requires.open_page
    (subst (λ (n : ℕ). IsElsewhere self.address self.place n) (sym long) c.requires.places)
    (record { open_page = h.stands.open_page; ended = h.ended }) in
    record { stands = record { place = omega (arith, length-append words more); open_page = known.open_page }; ended = known.ended }
