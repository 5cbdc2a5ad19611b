-- What an open round reports where memory was wanting for an edit (this project's own).
use Rattle.std.specs.Prelude.{◌≡◌, ℕ, List, ◌∷◌, ◌++◌, codes}
use Rattle.csv.specs.Machine.{line_feed}

-- One of the lines that are reported is `refused: out of memory`.
pub record NamesNoMemory (told : List ℕ) : Type 0 where
  pub front : List ℕ
  pub rest : List ℕ
  pub parts : told ≡ front ++ (codes "refused: out of memory" ++ (line_feed ∷ rest))
