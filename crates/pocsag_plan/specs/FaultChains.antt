-- A fault passed up: it keeps its name and what it carries.
use Rattle.pocsag_pages.specs.declared.fault.RoundFault.TheVariants as round
use Rattle.pocsag_branch.specs.declared.fault.SearchFault.{SearchFault}
use Rattle.pocsag_branch.specs.declared.fault.SearchFault.TheVariants as searching
use Rattle.pocsag_plan.specs.declared.fault.PlanFault.{PlanFault}
use Rattle.pocsag_plan.specs.declared.fault.PlanFault.TheVariants as planning
use Rattle.pocsag_plan.specs.declared.fault.StreamFault.{StreamFault}
use Rattle.pocsag_plan.specs.declared.fault.StreamFault.TheVariants as streaming
use Rattle.pocsag_plan.specs.declared.refusal.BookFault.{BookFault}
use Rattle.pocsag_plan.specs.declared.refusal.BookFault.TheVariants as book

abbrev pub fault_of_search : SearchFault → PlanFault
fault_of_search (searching.SearchLimit stop) = planning.SearchLimit stop
fault_of_search searching.OutOfMemory = planning.OutOfMemory

-- The same fault of a stream: of no pages it is that of a round.
abbrev pub stream_fault_of : BookFault → StreamFault
stream_fault_of book.NoPages = streaming.Round round.NoPages
stream_fault_of (book.Plan f) = streaming.Plan f
