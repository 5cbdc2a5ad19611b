-- Why each call on a page file refuses: the fault that it returns is one of that file, of what is asked for, or of memory.
use Rattle.std.specs.Prelude.{ℕ, List, IsOk}
use Rattle.pocsag_words.specs.declared.ending.End.TheVariants.{Open}
use Rattle.pocsag_pages.specs.PageFile.{verdict}
use Rattle.pocsag_tree.specs.BoundTrees.{BoundTree}
use Rattle.pocsag_branch.specs.Found.{IsNodeLimit}
use Rattle.pocsag_plan.specs.Plans.{MayStop}
use Rattle.pocsag_plan.specs.Searches.{default_limit}
use Rattle.pocsag_plan.specs.Streams.{IsStoppedAt}
use Rattle.pocsag_plan.specs.Verdicts.{ExplainsRound}
use Rattle.pocsag_plan.specs.declared.search.OnLimit.TheVariants.{Fewest}
use Rattle.pocsag_plan.specs.declared.search.Search.{Search}
use Rattle.pocsag_shell.specs.declared.fault.FileFault.TheVariants as file_fault
use Rattle.pocsag_centre.specs.declared.fault.CentreFault.{CentreFault}
use Rattle.pocsag_centre.specs.declared.fault.CentreFault.TheVariants as fault

-- What is asked of a planner where there are no words.
abbrev pub default_search : Search
default_search = record { limit = default_limit; end = Open; on_limit = Fewest }

-- Why the bytes of a page file have no plan. The file is judged first.
abbrev pub ExplainsNoPlan : (file : List ℕ) → Search → CentreFault → Type 0
ExplainsNoPlan file search (fault.Round f) = ExplainsRound file f
ExplainsNoPlan file search fault.BadLimit = (¬ IsNodeLimit search.limit) × IsOk (verdict file)
ExplainsNoPlan file search (fault.SearchLimit least found) =
    MayStop search.on_limit × IsNodeLimit search.limit
    × ((tree : BoundTree) × IsStoppedAt file search.end search.limit least found tree)
ExplainsNoPlan file search (fault.File file_fault.OutOfMemory) = IsNodeLimit search.limit × IsOk (verdict file)
ExplainsNoPlan file search _ = ⊥

-- Why a plan of them is not written. The limit is judged before the file.
abbrev pub ExplainsUnwritten : (file : List ℕ) → Search → CentreFault → Type 0
ExplainsUnwritten file search fault.BadLimit = ¬ IsNodeLimit search.limit
ExplainsUnwritten file search f = IsNodeLimit search.limit × ExplainsNoPlan file search f
