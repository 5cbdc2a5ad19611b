use Rattle.pocsag_pages.proofs.Prelude.{◌≡◌, ◌<◌, ◌/◌, ◌∙◌, get_or, length, arith, get_or_default}
use Rattle.pocsag_pages.proofs.MarkedRounds.{one_marked}
use Rattle.pocsag_pages.proofs.address_marks.AddressMarks.set_mark.Goals as goal

pub returns : goal.returns
returns c = λ a.
    let words = c.self.inside.words.items in
    let long : length words ≡ 32768 = c.self.invariant in
    let low : c.args.address < 2097152 = c.requires in
    let within : c.args.address / 64 < length words = omega arith in
    let word : c.index_mut.result.now ≡ get_or words (c.args.address / 64) 0 =
    c.index_mut.ensures.value ∙ get_or_default words (c.args.address / 64) c.index_mut.result.now 0 within in
    rw (word, ← c.self.view_is) (one_marked words c.args.address a within)
