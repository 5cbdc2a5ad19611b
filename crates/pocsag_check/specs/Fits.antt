-- *Fits*: what a node's limits mean, a set of lists of codewords.
use Rattle.std.specs.Prelude.{ℕ, ◌+◌, ◌%◌, ◌<◌, ◌≤◌, ◌==◌, cond, List, [], ◌∷◌, slice_index}
use Rattle.pocsag_words.specs.declared.codeword.Kind.{Kind}
use Rattle.pocsag_words.specs.declared.codeword.Kind.TheVariants.{Idle, Address, Message}
use Rattle.pocsag_words.specs.declared.ending.End.{End}
use Rattle.pocsag_pages.specs.declared.page.Page.{Page}
use Rattle.pocsag_pages.specs.Reading.{IsLegalFor}
use Rattle.pocsag_slots.specs.declared.limit.Limits.{Limits}
use Rattle.pocsag_slots.specs.Arcs.{early_in}

-- How many codewords in the slot belong to pages; the first codeword is at index i.
abbrev pub busy : ℕ → List Kind → ℕ → ℕ
busy i [] slot = 0
busy i (Idle ∷ ws) slot = busy (i + 1) ws slot
busy i (Address high function ∷ ws) slot = cond (i % 16 == slot) 1 0 + busy (i + 1) ws slot
busy i (Message bits ∷ ws) slot = cond (i % 16 == slot) 1 0 + busy (i + 1) ws slot

-- *Fits*: the transmission is legal, of so many batches, and within the limits.
pub record Fits (T : List Kind) (end : End) (R : List Page) (batches : ℕ) (l : Limits) : Type 0 where
  pub legal : IsLegalFor end T batches R
  pub least : (c : ℕ) → c < 136 → slice_index l.lo c ≤ early_in end T c
  pub most : (c : ℕ) → c < 136 → early_in end T c ≤ slice_index l.hi c
  pub capped : (slot : ℕ) → slot < 16 → busy 0 T slot ≤ slice_index l.cap slot
