use Rattle.pocsag_decode.proofs.Prelude.{◌≡◌, ℕ, ◌≤◌, List, [], ◌∷◌, ◌++◌, length, get_or, take, refl, sym, ap, ◌∙◌, arith, from_be_bytes, w32, length-take-le, nil_from_length, err_from_is_err_and, words_of, partial_bytes}
use Rattle.pocsag_decode.proofs.Words.{first_four, first_one, front_and_tail, word_more, refused_more, taken, not_taken, taking_last}
use Rattle.pocsag_decode.proofs.body.Body.take.Goals as goal

pub loop-rest-preserved-in-None-1 : goal.loop-rest-preserved-in-None-1
loop-rest-preserved-in-None-1 c =
    let rest = c.loop-rest.rest.now in
    let front = take 4 rest in
    let long : 4 ≤ length rest = c.in-None-len4-up.len_at_least in
    let told = c.in_ok-take_word.ensures in
    let new = c.take_word.new.self in
    let none : partial_bytes c.loop-rest.self.partial ≡ [] = ap partial_bytes c.in-None-len4-up.is-0 in
    let new_none : partial_bytes new.partial ≡ [] = ap partial_bytes told.partial ∙ none in
    let four : length front ≡ 4 = length-take-le 4 rest long in
    let whole = ap (λ (l : List ℕ). length (l ++ front)) none ∙ four in
    let word =
    c.from_be_bytes.ensures
    ∙ (ap (from_be_bytes w32) (first_four rest long) ∙ ap (λ (l : List ℕ). from_be_bytes w32 (l ++ front)) (sym none)) in
    let place = told.count.0 in
    let now_long = ap length none in
    let new_long = ap length new_none in
    taken _ _ _ _ front _ c.loop-rest.invariant (front_and_tail 4 rest front refl) new (omega arith)
    (λ Y s. word_more _ Y front _ s whole word new (told.read (words_of Y) s.read) new_none)

pub returns-in_err-take_word-clause-bad : goal.returns-in_err-take_word-clause-bad
returns-in_err-take_word-clause-bad c =
    let rest = c.loop-rest.rest.now in
    let front = take 4 rest in
    let long : 4 ≤ length rest = c.in-None-len4-up.len_at_least in
    let none : partial_bytes c.loop-rest.self.partial ≡ [] = ap partial_bytes c.in-None-len4-up.is-0 in
    let whole = ap (λ (l : List ℕ). length (l ++ front)) none ∙ length-take-le 4 rest long in
    let word =
    c.from_be_bytes.ensures
    ∙ (ap (from_be_bytes w32) (first_four rest long) ∙ ap (λ (l : List ℕ). from_be_bytes w32 (l ++ front)) (sym none)) in
    let p = err_from_is_err_and c.from_residual.result c.from_residual.ensures.1 in
    rw (p.1, p.2) (not_taken _ _ _ _ front _ c.loop-rest.invariant (front_and_tail 4 rest front refl) _ (λ Y s.
    refused_more _ Y front _ s whole word _ (c.in_err-take_word.ensures.bad (words_of Y) s.read)))

pub loop-rest-preserved : goal.loop-rest-preserved
loop-rest-preserved c =
    let rest = c.loop-rest.rest.now in
    let told = c.in_ok-take_byte.ensures in
    taken _ _ _ _ _ _ c.loop-rest.invariant (front_and_tail 1 rest (get_or rest 0 0 ∷ []) (first_one rest c.in-len1-up.len_at_least)) c.take_byte.new.self
    told.count.0 told.stands

pub returns-in_err-take_byte-clause-bad : goal.returns-in_err-take_byte-clause-bad
returns-in_err-take_byte-clause-bad c =
    let rest = c.loop-rest.rest.now in
    let from = c.from_residual-in_err-take_byte in
    let p = err_from_is_err_and from.result from.ensures.1 in
    rw (p.1, p.2)
    (not_taken _ _ _ _ _ _ c.loop-rest.invariant (front_and_tail 1 rest (get_or rest 0 0 ∷ []) (first_one rest c.in-len1-up.len_at_least)) _
    c.in_err-take_byte.ensures.bad)

pub returns-clause-stands : goal.returns-clause-stands
returns-clause-stands c = taking_last _ _ _ _ (nil_from_length _ (omega arith)) c.loop-rest.invariant
