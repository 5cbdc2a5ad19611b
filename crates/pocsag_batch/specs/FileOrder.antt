-- *File order*, this project's own: the plainest layout of a round.
use Rattle.std.specs.Prelude.{◌≡◌, ℕ, ◌+◌, ◌%◌, ◌≤◌, List, [], ◌∷◌, ◌++◌, replicate}
use Rattle.pocsag_words.specs.declared.codeword.Kind.{Kind}
use Rattle.pocsag_words.specs.declared.codeword.Kind.TheVariants.{Idle}
use Rattle.pocsag_pages.specs.declared.page.Page.{Page}
use Rattle.pocsag_pages.specs.Reading.{frame_at, page_words, page_length}

-- s is the least index, not before i, that is fit.
pub record IsLeastFrom (i : ℕ) (IsFit : ℕ → Type 0) (s : ℕ) : Type 0 where
  pub after : i ≤ s
  pub fit : IsFit s
  pub least : (j : ℕ) → i ≤ j → IsFit j → s ≤ j

-- The codeword at this index stands in the frame.
abbrev pub IsInFrame : ℕ → ℕ → Type 0
IsInFrame frame s = frame_at s ≡ frame

-- Whole batches stand before this index.
abbrev pub IsWhole : ℕ → Type 0
IsWhole s = s % 16 ≡ 0

-- The codewords, the first of them at index i, are the pages in their order: each page starts at the
-- least index, not before the end of the page before it, whose slot is in its frame; idles stand
-- elsewhere; and the batches are the fewest whole ones that hold this.
pub data InOrder : ℕ → List Page → List Kind → Type 0 where
  at_end :
      {i : ℕ} {ws : List Kind} →
      (gap : ℕ) →
      IsLeastFrom i IsWhole (i + gap) →
      ws ≡ replicate gap Idle →
      InOrder i [] ws
  past_page :
      {i : ℕ} {p : Page} {R : List Page} {ws : List Kind} →
      (gap : ℕ) (rest : List Kind) →
      IsLeastFrom i (IsInFrame (p.address % 8)) (i + gap) →
      ws ≡ replicate gap Idle ++ (page_words p ++ rest) →
      InOrder (i + gap + page_length p) R rest →
      InOrder i (p ∷ R) ws

-- *File order* of a round.
abbrev pub IsFileOrder : List Page → List Kind → Type 0
IsFileOrder R T = InOrder 0 R T
