-- What the search promises: *The search's bound*, *Least or one more*, *Search limit*.
use Rattle.std.specs.Prelude.{◌≡◌, ℕ, ◌+◌, ◌<◌, ◌≤◌, true, false, List, ◌++◌, slice_index, replicate, ◌⊎◌}
use Rattle.pocsag_words.specs.declared.ending.End.{End}
use Rattle.pocsag_pages.specs.declared.page.Page.{Page}
use Rattle.pocsag_pages.specs.Pages.{IsRound}
use Rattle.pocsag_pages.specs.Reading.{AreApart, IsLegalList}
use Rattle.pocsag_slots.specs.declared.class.Classes.{Classes}
use Rattle.pocsag_slots.specs.Loads.{AreClassesOf, IsChoice, IsLeast, limits_of_all}
use Rattle.pocsag_slots.specs.Tours.{IsTour}
use Rattle.pocsag_tree.specs.BoundTrees.{BoundTree, closed_nodes}
use Rattle.pocsag_tree.specs.Views.{bound_tree_of}
use Rattle.pocsag_check.specs.Acceptance.{IsAccepted}
use Rattle.pocsag_branch.specs.declared.answer.Found.{Found}
use Rattle.pocsag_branch.specs.declared.fault.SearchFault.{SearchFault}
use Rattle.pocsag_branch.specs.declared.fault.SearchFault.TheVariants.{SearchLimit, OutOfMemory}
use Rattle.pocsag_branch.specs.Marks.{opens}
use Rattle.pocsag_branch.specs.Shape.{IsSearchTree, IsShaped}

-- A limit of nodes that can be asked for (this project's own).
pub record IsNodeLimit (limit : ℕ) : Type 0 where
  pub some : 1 ≤ limit
  pub few : limit ≤ 1000000

-- The round has a page.
pub record HasPage (k : Classes) : Type 0 where
  pub class : ℕ
  pub known : class < 136
  pub some : 0 < slice_index k.count class

-- Each list of codewords that is legal for the end, for any round of these classes, has at least so many
-- batches.
abbrev pub IsBound : Classes → End → ℕ → Type 0
IsBound k end batches =
    (R : List Page) (U : List ℕ) (n : ℕ) → AreApart R → AreClassesOf k end R → IsLegalList end U n R → batches ≤ n

-- For each round of these classes some list of codewords of so many batches is legal for the end.
abbrev pub CanBeSent : Classes → End → ℕ → Type 0
CanBeSent k end batches =
    (R : List Page) → IsRound R → AreClassesOf k end R → (U : List ℕ) × IsLegalList end U batches R

-- What `search` found within so many nodes.
pub record IsFound (k : Classes) (end : End) (limit : ℕ) (found : Found) : Type 0 where
  -- The batches are the least that some choice of starts needs, or one more;
  pub least : ℕ
  pub is_least : IsLeast k least
  pub or_one_more : (found.batches ≡ least) ⊎ (found.batches ≡ least + 1)
  -- the steps are a tour of the choice for the end;
  pub choice : IsChoice k (slice_index found.choice.early)
  pub tour : IsTour k end (slice_index found.choice.early) found.batches found.steps.items
  -- the checker accepts the tree, which is at most 300 deep, so no transmission has fewer batches;
  pub accepted : IsAccepted false k end found.batches (bound_tree_of found.tree)
  pub bound : IsBound k end found.batches
  -- the tree has no `Open`, at most so many nodes, and the promised shape: where the batches are the least,
  -- it is one `Overload`.
  pub examined : opens (bound_tree_of found.tree) ≡ replicate (closed_nodes (bound_tree_of found.tree)) false
  pub few : closed_nodes (bound_tree_of found.tree) ≤ limit
  pub shaped : IsSearchTree k end least found.batches (bound_tree_of found.tree)

-- *Search limit*: what `SearchLimit` says.
pub record IsLimit (k : Classes) (end : End) (limit least found : ℕ) (tree : BoundTree) : Type 0 where
  -- `least` is the least that some choice of starts needs, which bounds each transmission;
  pub is_least : IsLeast k least
  pub bound : IsBound k end least
  -- with one batch more there is a transmission;
  pub one_more : found ≡ least + 1
  pub sent : CanBeSent k end found
  -- exactly so many nodes of the tree are not `Open`, and they come before the first that is, of which
  -- there is one at least;
  pub unseen : ℕ
  pub some : 0 < unseen
  pub marks : opens tree ≡ replicate limit false ++ replicate unseen true
  -- the checker accepts the tree with its `Open` nodes; it is at most 300 deep, and has the promised shape.
  pub accepted : IsAccepted true k end found tree
  pub shaped : IsShaped k end least (limits_of_all k least) tree

-- What each fault of `search` says.
abbrev pub IsSearchFault : Classes → End → ℕ → SearchFault → Type 0
IsSearchFault k end limit (SearchLimit stop) = IsLimit k end limit stop.least stop.found (bound_tree_of stop.tree)
IsSearchFault k end limit OutOfMemory = Unit {0}
