-- *Survival*: what is so of an open round whose edits are kept, at whatever moment it ends (this project's own).
use Rattle.std.specs.Prelude.{◌≡◌, ◌⊎◌, ℕ, List, [], ◌∷◌, ◌++◌}
use Rattle.pocsag_pages.specs.declared.page.Page.{Page}
use Rattle.pocsag_plan.specs.declared.search.OnLimit.{OnLimit}
use Rattle.pocsag_open.specs.Lines.{IsFirstLine}
use Rattle.pocsag_open.specs.Plans.{PlacementResult}
use Rattle.pocsag_open.specs.Replies.{AreReplies, IsLineReply}

-- *First lines*: the bytes begin with these lines, one after another, and this stands behind them.
unfoldable pub AreFirstLines : (lines : List (List ℕ)) (bytes rest : List ℕ) → Type 0
AreFirstLines [] bytes rest = rest ≡ bytes
AreFirstLines (line ∷ lines) bytes rest = (more : List ℕ) × IsFirstLine bytes line more × AreFirstLines lines more rest

-- A reply to a line, whatever plan it places.
abbrev pub RepliesTo : (IsKnown OutputFails : Type 0) → OnLimit → (line : List ℕ) → (before after : List Page) → (printed : List ℕ) → Type 0
RepliesTo IsKnown OutputFails on_limit line before after printed =
    (placed : List PlacementResult) × IsLineReply IsKnown OutputFails on_limit line before after printed placed

-- A reply to a line, and what was put in its places more, where that is known, are the outputs of the plan that it reports.
abbrev pub RepliesAndPlaces : (IsKnown OutputFails : Type 0) → OnLimit → (line : List ℕ) → (placed_before placed_after : List PlacementResult) → (before after : List Page) → (printed : List ℕ) → Type 0
RepliesAndPlaces IsKnown OutputFails on_limit line placed_before placed_after before after printed =
    (placed : List PlacementResult) × IsLineReply IsKnown OutputFails on_limit line before after printed placed × (IsKnown → placed_after ≡ placed_before ++ placed)

-- The bytes are read as these pages, or as those that a reply leaves.
abbrev pub ReadsOrReplied : (List ℕ → List Page → Type 0) → (Replies : (before after : List Page) → List ℕ → Type 0) → List Page → List ℕ → Type 0
ReadsOrReplied reads_as Replies before left =
    reads_as left before ⊎ ((after : List Page) × ((reply : List ℕ) × Replies before after reply × reads_as left after))

-- Where an answer is cut short: nothing of it was reported, and whatever a crash leaves is read as the pages before, or as those
-- that a reply leaves; or a part of a reply was reported, and whatever a crash leaves is read as the pages that this reply leaves.
pub data IsCutShort (Replies : (before after : List Page) → List ℕ → Type 0)
    (before : List Page) (out_before out_after : List ℕ) (reads_as : List ℕ → List Page → Type 0) (may_leave : List ℕ → Type 0) : Type 0 where
  untold :
      out_after ≡ out_before → ((left : List ℕ) → may_leave left → ReadsOrReplied reads_as Replies before left) →
      IsCutShort Replies before out_before out_after reads_as may_leave
  begun :
      (after : List Page) (reply part more : List ℕ) → Replies before after reply → reply ≡ part ++ more →
      out_after ≡ out_before ++ part → ((left : List ℕ) → may_leave left → reads_as left after) →
      IsCutShort Replies before out_before out_after reads_as may_leave

-- What stands behind the lines that are answered: the answer to the first line of it is cut short; or none is under way, and
-- whatever a crash leaves is read as the pages now. Where it is read as the pages after that line, the outputs of the plan that
-- its reply reports were put in their places.
pub data IsCutBehind (IsKnown OutputFails : Type 0) (on_limit : OnLimit) (rest : List ℕ) (now : List Page) (out_before out_after : List ℕ)
    (placed_before placed_after : List PlacementResult) (reads_as : List ℕ → List Page → Type 0) (may_leave : List ℕ → Type 0) : Type 0 where
  between :
      out_after ≡ out_before → ((left : List ℕ) → may_leave left → reads_as left now) →
      IsCutBehind IsKnown OutputFails on_limit rest now out_before out_after placed_before placed_after reads_as may_leave
  within :
      (line behind : List ℕ) → IsFirstLine rest line behind →
      IsCutShort (RepliesAndPlaces IsKnown OutputFails on_limit line placed_before placed_after) now out_before out_after reads_as may_leave →
      IsCutBehind IsKnown OutputFails on_limit rest now out_before out_after placed_before placed_after reads_as may_leave

-- *Survives*: the first lines of an input were answered whole, from the pages before on, and at most one line more in part.
-- Whatever a crash leaves is read as the pages after the lines that were answered, or as those after one line more; and the
-- outputs of the plans that the replies to these lines report were put in their places.
pub record Survives (IsKnown OutputFails : Type 0) (on_limit : OnLimit) (input : List ℕ) (before : List Page) (out_before out_after : List ℕ)
    (placed_before placed_after : List PlacementResult) (reads_as : List ℕ → List Page → Type 0) (may_leave : List ℕ → Type 0) : Type 0 where
  pub lines : List (List ℕ)
  pub rest : List ℕ
  pub now : List Page
  pub printed : List ℕ
  pub placed : List PlacementResult
  pub firsts : AreFirstLines lines input rest
  pub replies : AreReplies IsKnown OutputFails on_limit lines before now printed placed
  pub cut : IsCutBehind IsKnown OutputFails on_limit rest now (out_before ++ printed) out_after (placed_before ++ placed) placed_after reads_as may_leave

-- The bytes are read as the pages after some of the first lines of an input, none of them left out.
pub record ReadsAfterLines (IsKnown OutputFails : Type 0) (on_limit : OnLimit) (input : List ℕ) (before : List Page) (reads_as : List ℕ → List Page → Type 0) (left : List ℕ) : Type 0 where
  pub lines : List (List ℕ)
  pub rest : List ℕ
  pub pages : List Page
  pub printed : List ℕ
  pub placed : List PlacementResult
  pub firsts : AreFirstLines lines input rest
  pub replies : AreReplies IsKnown OutputFails on_limit lines before pages printed placed
  pub read : reads_as left pages
