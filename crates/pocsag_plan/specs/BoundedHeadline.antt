-- *The headline with a bound*, this project's own: what was sent and certified for a page file and an end by
-- a planner that refuses no round. Read the fields aloud, one after the other.
use Rattle.std.specs.Prelude.{◌≡◌, ◌↔◌, ℕ, ◌+◌, ◌≤◌, List, Ok}
use Rattle.pocsag_words.specs.declared.ending.End.{End}
use Rattle.pocsag_pages.specs.declared.page.Page.{Page}
use Rattle.pocsag_pages.specs.PageFile.{verdict}
use Rattle.pocsag_tree.specs.BoundTrees.{BoundTree}
use Rattle.pocsag_plan.specs.Headline.{Headline, RoundHeadline}

pub record BoundedHeadline (file : List ℕ) (end : End) (batches bound : ℕ) (tree : BoundTree) (sent certificate : List ℕ) : Type 0 where
  -- The page file is that of a round;
  pub round : List Page
  pub read : verdict file ≡ Ok round
  -- the headline of that round holds, with the bound;
  pub of_round : RoundHeadline round end batches bound tree sent certificate
  -- and what was sent has as many batches as the bound, or one more.
  pub at_least : bound ≤ batches
  pub within_one : batches ≤ bound + 1

-- Where the bound is the number of batches, it is the headline.
abbrev pub IsHeadlineWhereTight : Type 0
IsHeadlineWhereTight =
    (file : List ℕ) (end : End) (batches : ℕ) (tree : BoundTree) (sent certificate : List ℕ) →
    BoundedHeadline file end batches batches tree sent certificate ↔ Headline file end batches tree sent certificate
