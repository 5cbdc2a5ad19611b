-- What a writer took of a text that was reported.
use Rattle.pocsag_shell.proofs.Prelude.{◌≡◌, ℕ, ◌≤◌, List, ◌++◌, length, take, sym, ap, ◌∙◌, Result, Ok, Err, length-take, arith, take-append-le, IsErr, Delivers, TookPrefix}
use Rattle.std.proofs.Common.{append_assoc}

-- what was taken and kept goes on with the next text
pub kept_on : (due taken kept text rest taken' kept' : List ℕ) → taken ++ (kept ++ (text ++ rest)) ≡ due
    → taken' ++ kept' ≡ taken ++ (kept ++ text) → taken' ++ (kept' ++ rest) ≡ due
kept_on due taken kept text rest taken' kept' whole next =
    sym (append_assoc taken' kept' rest) ∙ ap (λ (l : List ℕ). l ++ rest) next ∙ append_assoc taken (kept ++ text) rest
    ∙ ap (λ (l : List ℕ). taken ++ l) (append_assoc kept text rest) ∙ whole

-- and after a fault a prefix was taken
pub kept_took : (before due taken kept text rest after : List ℕ) → length before ≤ length taken
    → taken ++ (kept ++ (text ++ rest)) ≡ before ++ due → TookPrefix taken after (kept ++ text) → TookPrefix before after due
kept_took before due taken kept text rest after grown whole took =
    let short : length after ≤ length (taken ++ (kept ++ text)) =
    omega (arith, length-take (length after) (taken ++ (kept ++ text)), ap length took.1) in
    let same : before ++ due ≡ (taken ++ (kept ++ text)) ++ rest =
    sym whole ∙ ap (λ (l : List ℕ). taken ++ l) (sym (append_assoc kept text rest)) ∙ sym (append_assoc taken (kept ++ text) rest) in (
      omega (arith, took.0, grown),
      ap (take (length after)) same ∙ take-append-le (length after) (taken ++ (kept ++ text)) rest short ∙ took.1,
    )

pub part_lost : {X E : Type 0} (r : Result X E) (before after due : List ℕ) → IsErr r → TookPrefix before after due → Delivers r before after due
part_lost (Ok _) before after due lost took = cc
part_lost (Err _) before after due lost took = (tt, took)

-- what is kept at the end is written behind what was taken
pub rest_put : {X E : Type 0} (r : Result X E) (before due taken kept after : List ℕ) → length before ≤ length taken
    → taken ++ kept ≡ before ++ due → Delivers r taken after kept → Delivers r before after due
rest_put (Ok _) before due taken kept after grown whole put = (put.0 ∙ whole, tt)
rest_put (Err _) before due taken kept after grown whole put =
    (tt, (omega (arith, put.1.0, grown), ap (take (length after)) (sym whole) ∙ put.1.1))
