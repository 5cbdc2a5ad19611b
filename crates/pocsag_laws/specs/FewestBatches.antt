-- The fewest batches of a list of pages for an end.
use Rattle.std.specs.Prelude.{ℕ, ◌≤◌, List}
use Rattle.pocsag_words.specs.declared.ending.End.{End}
use Rattle.pocsag_pages.specs.declared.page.Page.{Page}
use Rattle.pocsag_pages.specs.Reading.{IsLegalList}

-- *Sendable*: some codewords are legal for the pages and the end, in so many batches.
abbrev pub AreSendable : End → List Page → ℕ → Type 0
AreSendable end R batches = (T : List ℕ) × IsLegalList end T batches R

-- *Fewest batches*: the pages are sendable in so many batches with this end, and in no fewer.
pub record AreFewest (end : End) (R : List Page) (batches : ℕ) : Type 0 where
  pub sendable : AreSendable end R batches
  pub least : (n : ℕ) → AreSendable end R n → batches ≤ n
