-- What a writer took of a text that is written in pieces.
use Rattle.pocsag_tree.proofs.Prelude.{◌≡◌, ℕ, ◌≤◌, List, ◌++◌, length, take, sym, ap, ◌∙◌, Result, Ok, Err, append_assoc, arith, length-append, length-take, take-append-le}
use Rattle.std.specs.Result.{IsErrAnd}
use Rattle.pocsag_words.specs.Devices.{Delivers, TookPrefix}

-- a prefix of the first piece is a prefix of the text
pub took_first : (before after text piece rest : List ℕ) → text ≡ piece ++ rest → TookPrefix before after piece
    → TookPrefix before after text
took_first before after text piece rest is took =
    let short : length after ≤ length (before ++ piece) = omega (arith, length-take (length after) (before ++ piece), ap length took.1) in
    let front : take (length after) ((before ++ piece) ++ rest) ≡ take (length after) (before ++ piece) =
    take-append-le (length after) (before ++ piece) rest short in (
      took.0,
      ap (λ t. take (length after) (before ++ t)) is ∙ ap (take (length after)) (sym (append_assoc before piece rest)) ∙ front
          ∙ took.1,
    )

-- a prefix of what is left is a prefix of the text
pub took_left : (before middle after text rest : List ℕ) → length before ≤ length middle → middle ++ rest ≡ before ++ text
    → TookPrefix middle after rest → TookPrefix before after text
took_left before middle after text rest long same took =
    (omega (arith, took.0, long), ap (take (length after)) (sym same) ∙ took.1)

-- what is left after a piece that was taken whole
piece_left : (before middle text piece rest : List ℕ) → text ≡ piece ++ rest → middle ≡ before ++ piece → middle ++ rest ≡ before ++ text
piece_left before middle text piece rest is whole =
    ap (λ t. t ++ rest) whole ∙ append_assoc before piece rest ∙ ap (λ t. before ++ t) (sym is)

-- a prefix of what is left, after a piece that was taken whole, is a prefix of the text
pub took_then : (before middle after text piece rest : List ℕ) → text ≡ piece ++ rest → middle ≡ before ++ piece
    → TookPrefix middle after rest → TookPrefix before after text
took_then before middle after text piece rest is whole took =
    took_left before middle after text rest (omega (arith, length-append before piece, ap length whole))
    (piece_left before middle text piece rest is whole) took

-- the same at the end of a function, whose answer is that of the last piece
pub delivers_then : {X E : Type 0} (r : Result X E) (before middle after text piece rest : List ℕ) → text ≡ piece ++ rest
    → middle ≡ before ++ piece → Delivers r middle after rest → Delivers r before after text
delivers_then (Ok x) before middle after text piece rest is whole d = (d.0 ∙ piece_left before middle text piece rest is whole, tt)
delivers_then (Err e) before middle after text piece rest is whole d = (tt, took_then before middle after text piece rest is whole d.1)

-- a function that stops at a fault leaves a prefix
pub stopped : {T E : Type 0} (Q : E → Type 0) (r : Result T E) (before after due : List ℕ) → IsErrAnd r Q → TookPrefix before after due
    → Delivers r before after due
stopped Q (Ok x) before after due is took = elim is [ ]
stopped Q (Err e) before after due is took = (tt, took)
