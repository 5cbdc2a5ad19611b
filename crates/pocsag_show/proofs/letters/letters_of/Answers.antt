use Rattle.pocsag_show.proofs.Prelude.{◌≡◌, ℕ, ◌-◌, List, [], ◌∷◌, ◌++◌, refl, ap, ap₂, sym, ◌∙◌, append_assoc, arith, append-nil, Kind, kinds_ahead, letters_with, number_below}
use Rattle.pocsag_show.proofs.LettersBefore.{letter_more}
use Rattle.pocsag_show.proofs.letters.letters_of.Goals.{in-Idle, in-Address, in-Message}
use Rattle.pocsag_show.proofs.letters.letters_of.Goals as goal

pub loop-kind-init : goal.loop-kind-init
loop-kind-init c =
    let number_of = number_below c.args.numbers.now in
    ap (λ (l : List ℕ). l ++ letters_with number_of c.new-kinds.result.index 0 (kinds_ahead c.new-kinds.result)) c.in_ok-letters.ensures.items
    ∙ ap₂ (λ (i : ℕ) (ks : List Kind). letters_with number_of i 0 ks) c.new-kinds.ensures.first c.new-kinds.ensures.kinds

pub loop-kind-preserved : goal.loop-kind-preserved
loop-kind-preserved c =
    let number_of = number_below c.args.numbers.now in
    let loop = c.loop-kind in
    let kinds = c.next.new.self in
    let read = c.in-Some.ensures in
    let last = c.match-kind.last in
    let letter = c.match-kind.letter in
    let rest = letters_with number_of kinds.index last (kinds_ahead kinds) in
    ap (λ (l : List ℕ). l ++ rest) c.in_ok-push.ensures.items
    ∙ (append_assoc loop.letters.items (letter ∷ []) rest
    ∙ (ap (λ (l : List ℕ). loop.letters.items ++ l)
    (letter_more number_of loop.kinds.index kinds.index loop.last last letter c.in-Some.kind (kinds_ahead kinds) (kinds_ahead loop.kinds) read.read
    read.index
    (elim c.match-kind.branch [
      | in-Idle w ↦ rw (w.in-Idle.is, w.letter-is, w.last-is) refl
      | in-Address w ↦
          let i : kinds.index - 1 ≡ loop.kinds.index = omega (arith, read.index) in
          rw (w.in-Address.is, w.letter-is, w.last-is, w.letter_of-letter.ensures, w.below-last.ensures, w.address_at.ensures.value, i) refl
      | in-Message w ↦ rw (w.in-Message.is, w.letter-is, w.last-is, w.letter_of-letter-in-Message.ensures) refl
    ]))
    ∙ loop.invariant))

pub returns : goal.returns
returns c =
    let loop = c.loop-kind in
    sym (append-nil loop.letters.items)
    ∙ (ap (λ (l : List Kind). loop.letters.items ++ letters_with (number_below c.args.numbers.now) loop.kinds.index loop.last l)
    (sym c.in_default.ensures.read.0) ∙ loop.invariant)
