use Rattle.pocsag_receiver.proofs.Prelude.{Bool, true, ◌+◌, get_or, ap, arith, refl, Reception, PageOrigin}
use Rattle.pocsag_capture.specs.declared.polarity.Polarity.TheVariants.{Upright}
use Rattle.pocsag_receiver.proofs.CaptureRows.{begun_from, behind_apart}
use Rattle.pocsag_receiver.proofs.captured.CaptureRows.begin.Goals as goal

pub returns-clause-left : goal.returns-clause-left
returns-clause-left c = λ rows heard l.
    let source = c.args.self.now in
    let none : Reception = record { bit = 0; polarity = Upright; batches = 0; words = 0; words_in_front = 0 } in
    let r = get_or source.found.now source.place none in
    let mark : Bool → PageOrigin = λ b. record { is_cut = true; transmission = source.place + 1; is_inverted = b; bit = r.bit } in
    begun_from source (record { mark = mark c.is_inverted.result; pages = c.new.result }) none r (omega (arith, c.requires.can.within, c.if-self.false)) refl c.new.ensures.captured (ap mark c.is_inverted.ensures)
    rows heard (behind_apart source l)
