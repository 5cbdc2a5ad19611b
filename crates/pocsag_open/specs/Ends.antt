-- Why an open round ends before its input does (this project's own).
use Rattle.std.specs.Prelude.{◌⊎◌, ℕ, ◌+◌, ◌-◌, ◌^◌, ◌<◌, ◌≤◌, List, length}
use Rattle.pocsag_words.specs.Devices.{HasFailed}
use Rattle.pocsag_shell.specs.declared.fault.FileFault.{FileFault}
use Rattle.pocsag_shell.specs.declared.fault.FileFault.TheVariants as file
use Rattle.pocsag_journal.specs.Growth.{kept_line_limit}

-- There are as many bytes as a count goes, or more.
abbrev pub AreCountless : List ℕ → Type 0
AreCountless bytes = 2 ^ 64 - 1 ≤ length bytes

-- What keeps the edits failed, between these two counts of failures, or has no room for the longest line behind what it took.
abbrev pub HasGivenUp : (most : ℕ) (taken : List ℕ) (failures_before failures_after : ℕ) → Type 0
HasGivenUp most taken before after = HasFailed before after ⊎ (most < length taken + kept_line_limit)

-- *Cause of an end*: a device is reported as its cause only where the input failed, a write only where the output or what keeps the
-- edits did. Memory may be wanting.
abbrev pub ExplainsEnd : (input_failed output_failed keeper_failed : Type 0) → FileFault → Type 0
ExplainsEnd input_failed output_failed keeper_failed file.Device = input_failed
ExplainsEnd input_failed output_failed keeper_failed file.Write = output_failed ⊎ keeper_failed
ExplainsEnd input_failed output_failed keeper_failed file.OutOfMemory = Unit {0}
ExplainsEnd input_failed output_failed keeper_failed _ = ⊥
