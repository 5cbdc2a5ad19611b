-- What a list of codewords keeps that is a transmission's batches.
use Rattle.std.specs.Prelude.{◌≡◌, ℕ, ◌%◌, ◌^◌, ◌<◌, List, length}

-- Whole batches of sixteen codewords each, at least one; and fewer codewords than 2 ^ 36, so that the
-- count of the batches is a number of 32 bits.
pub record AreBatches (ws : List ℕ) : Type 0 where
  pub some : 0 < length ws
  pub whole : length ws % 16 ≡ 0
  pub few : length ws < 2 ^ 36
