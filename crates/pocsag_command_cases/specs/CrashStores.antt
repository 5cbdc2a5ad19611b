-- What a store of outputs in memory did (this project's own).
use Rattle.std.specs.Prelude.{ℕ, List, map, Option, option_map, Result, Ok, Err, string_bytes}
use Rattle.pocsag_shell.specs.declared.fault.FileFault.{FileFault}
use Rattle.pocsag_open.specs.Plans.{PlaceNames, PlacementResult, failed_plan, placed_plan}
use Rattle.pocsag_command_cases.specs.declared.crash_store.PlaceBook.{PlaceBook}
use Rattle.pocsag_command_cases.specs.declared.crash_store.PlaceEntry.{PlaceEntry}
use Rattle.pocsag_command_cases.specs.declared.crash_store.PlanOutputs.{PlanOutputs}

-- What became of the places of a plan with these names.
abbrev pub result_for : (tx cert : List ℕ) → Result PlanOutputs FileFault → PlacementResult
result_for tx cert (Ok sent) = placed_plan tx cert (sent.tx.items, sent.cert.items)
result_for tx cert (Err fault) = failed_plan tx cert fault

abbrev pub entry_result : PlaceEntry → PlacementResult
entry_result entry = result_for (string_bytes entry.tx) (string_bytes entry.cert) entry.done

-- The same of all plans of a store.
abbrev pub placed_by : PlaceBook → List PlacementResult
placed_by book = map entry_result book.entries.items

-- The names of the two places for which files are made.
abbrev pub names_made : PlaceBook → Option PlaceNames
names_made book = option_map (λ names. (string_bytes names.0, string_bytes names.1)) book.made
