use Rattle.pocsag_pages.proofs.Prelude.{◌≤◌, ◌/◌, ◌∙◌, List, ℕ, get_or, length, ap, arith}
use Rattle.pocsag_pages.proofs.MarkedRounds.{word_found, word_past}
use Rattle.pocsag_pages.proofs.address_marks.AddressMarks.has_mark.Goals as goal

pub returns-in-Some : goal.returns-in-Some
returns-in-Some c =
    let i = c.args.address / 64 in
    let word = c.in-Some.ensures.lookup.3.1 0 ∙ ap (λ (words : List ℕ). get_or words i 0) c.deref.ensures.value in
    rw (← c.self.view_is) (word_found c.self.inside.words.items c.args.address c.in-Some.word.now word)

pub returns-in-None : goal.returns-in-None
returns-in-None c =
    let words = c.self.inside.words.items in
    let past : length words ≤ c.args.address / 64 = omega (arith, c.in-None.ensures.lookup.3, ap length c.deref.ensures.value) in
    rw (← c.self.view_is) (word_past words c.args.address past)
