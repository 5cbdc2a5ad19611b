use Rattle.pocsag_decode.proofs.Prelude.{ℕ, List, [], ◌∷◌, ◌++◌, length, refl, sym, ap, ◌∙◌, from_be_bytes, w32, on_ok_weaker, IfErr-weaker, words_of, PartialWord, partial_bytes}
use Rattle.pocsag_decode.proofs.Words.{byte_more, word_more, refused_more}
use Rattle.pocsag_decode.proofs.body.Body.take_byte.Goals as goal

pub returns-in-None-clause-stands : goal.returns-in-None-clause-stands
returns-in-None-clause-stands c = λ Y s. byte_more _ _ _ Y _ c.in-None.is refl refl s

pub returns-in-One-clause-stands : goal.returns-in-One-clause-stands
returns-in-One-clause-stands c = λ Y s. byte_more _ _ _ Y _ c.in-One.is refl refl s

pub returns-in-Two-clause-stands : goal.returns-in-Two-clause-stands
returns-in-Two-clause-stands c = λ Y s. byte_more _ _ _ Y _ c.in-Two.is refl refl s

pub returns-in-Three-clause-stands : goal.returns-in-Three-clause-stands
returns-in-Three-clause-stands c = λ Y s.
    let bytes : PartialWord → List ℕ = λ k. partial_bytes k ++ c.args.byte ∷ [] in
    let long = ap (λ (k : PartialWord). length (bytes k)) c.in-Three.is in
    let word = c.from_be_bytes.ensures ∙ ap (λ (k : PartialWord). from_be_bytes w32 (bytes k)) (sym c.in-Three.is) in
    on_ok_weaker _ (λ r. word_more _ Y (c.args.byte ∷ []) _ s long word _ r (ap partial_bytes c.take_word.ensures.partial))
    (c.take_word.ensures.read (words_of Y) s.read)

pub returns-in-Three-clause-bad : goal.returns-in-Three-clause-bad
returns-in-Three-clause-bad c = λ Y s.
    let bytes : PartialWord → List ℕ = λ k. partial_bytes k ++ c.args.byte ∷ [] in
    let long = ap (λ (k : PartialWord). length (bytes k)) c.in-Three.is in
    let word = c.from_be_bytes.ensures ∙ ap (λ (k : PartialWord). from_be_bytes w32 (bytes k)) (sym c.in-Three.is) in
    IfErr-weaker _ _ _ (λ f. refused_more _ Y (c.args.byte ∷ []) _ s long word f)
    (c.take_word.ensures.bad (words_of Y) s.read)
