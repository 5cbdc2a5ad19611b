-- One read of a source over what was read.
use Rattle.pocsag_shell.proofs.Prelude.{◌≡◌, ℕ, ◌+◌, List, ◌++◌, length, sym, ◌∙◌, ap, take-append_seam, drop-drop, take-append-drop}
use Rattle.std.proofs.Math.ListN.{drop, take}

-- What stood at the place is what was copied, and what stands behind it.
pub one_read : (place count : ℕ) (bytes copied rest : List ℕ) → copied ≡ take count (drop place bytes) → length copied ≡ count →
    drop place bytes ≡ take count (copied ++ rest) ++ drop (place + count) bytes
one_read place count bytes copied rest same long =
    let front : take count (copied ++ rest) ≡ take count (drop place bytes) =
    ap (λ k. take k (copied ++ rest)) (sym long) ∙ take-append_seam copied rest ∙ same in
    sym (ap (λ (l : List ℕ). l ++ drop (place + count) bytes) front
    ∙ ap (λ (l : List ℕ). take count (drop place bytes) ++ l) (sym (drop-drop count place bytes))
    ∙ take-append-drop count (drop place bytes))
