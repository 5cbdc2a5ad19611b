-- Faults of files: their exit statuses, and the fault of a file that cannot be read whole.
use Rattle.std.specs.Prelude.{◌≡◌, ◌⊎◌, ℕ}
use Rattle.pocsag_pages.specs.declared.fault.WholeFault.{WholeFault}
use Rattle.pocsag_pages.specs.declared.fault.WholeFault.TheVariants as whole
use Rattle.pocsag_shell.specs.declared.fault.FileFault.{FileFault}
use Rattle.pocsag_shell.specs.declared.fault.FileFault.TheVariants as fault

-- The exit status of a fault of a file: 3 for a device or memory, 1 for what was refused.
abbrev pub file_status : FileFault → ℕ
file_status fault.EqualPaths = 1
file_status fault.TooLarge = 1
file_status _ = 3

-- The exit status of a fault: refused, or a device or memory.
abbrev pub IsFailure : ℕ → Type 0
IsFailure status = (status ≡ 1) ⊎ (status ≡ 3)

abbrev pub fault_of_whole : WholeFault → FileFault
fault_of_whole whole.ReadFault = fault.Device
fault_of_whole whole.TooLarge = fault.TooLarge
fault_of_whole whole.OutOfMemory = fault.OutOfMemory
