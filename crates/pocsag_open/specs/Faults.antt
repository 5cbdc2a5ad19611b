-- Why an open round ends before its input does: the exit statuses, and what is so of the page file that it begins with.
use Rattle.std.specs.Prelude.{◌≡◌, ℕ, List, Err}
use Rattle.pocsag_words.specs.Devices.{HasFailed}
use Rattle.pocsag_pages.specs.PageFile.{verdict}
use Rattle.pocsag_pages.specs.declared.fault.RoundFault.TheVariants as round
use Rattle.pocsag_shell.specs.Faults.{file_status}
use Rattle.pocsag_journal.specs.declared.fault.JournalFault.{JournalFault}
use Rattle.pocsag_journal.specs.declared.fault.JournalFault.TheVariants as journal
use Rattle.pocsag_open.specs.declared.fault.OpenFault.{OpenFault}
use Rattle.pocsag_open.specs.declared.fault.OpenFault.TheVariants as fault
use Rattle.pocsag_shell.specs.declared.fault.FileFault.{FileFault}
use Rattle.pocsag_shell.specs.declared.fault.FileFault.TheVariants as file

-- The exit status of a fault: 3 for a device or memory, 1 for what was refused.
abbrev pub open_status : OpenFault → ℕ
open_status (fault.File f) = file_status f
open_status fault.NotHeld = 3
open_status (fault.Round round.ReadFault) = 3
open_status (fault.Round round.OutOfMemory) = 3
open_status (fault.Journal journal.ReadFault) = 3
open_status (fault.Journal journal.WriteFault) = 3
open_status (fault.Journal journal.OutOfMemory) = 3
open_status _ = 1

-- Which fault that of a journal is: one of a device or memory is reported as that of any file.
abbrev pub fault_of_journal : JournalFault → OpenFault
fault_of_journal journal.ReadFault = fault.File file.Device
fault_of_journal journal.WriteFault = fault.File file.Write
fault_of_journal journal.OutOfMemory = fault.File file.OutOfMemory
fault_of_journal f = fault.Journal f

-- Why a round does not begin with the pages of a page file, or ends: the file has this fault, or a read of it failed, between
-- these two counts of failures; or memory was wanting; or the round ends for this reason.
abbrev pub ExplainsOpening : (file : List ℕ) → (failures_before failures_after : ℕ) → (Ends : FileFault → Type 0) → OpenFault → Type 0
ExplainsOpening file before after Ends (fault.Round round.OutOfMemory) = Unit {0}
ExplainsOpening file before after Ends (fault.Round round.ReadFault) = HasFailed before after
ExplainsOpening file before after Ends (fault.Round f) = verdict file ≡ Err f
ExplainsOpening file before after Ends (fault.File f) = Ends f
ExplainsOpening file before after Ends _ = ⊥
