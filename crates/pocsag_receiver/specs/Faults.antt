-- The faults of the commands for transmissions: their exit statuses, and which of them each fault of a call is.
use Rattle.std.specs.Prelude.{ℕ}
use Rattle.pocsag_capture.specs.declared.fault.CaptureFault.TheVariants as capturing
use Rattle.pocsag_decode.specs.declared.fault.DecodeFault.TheVariants as decoding
use Rattle.pocsag_decode.specs.declared.fault.ListFault.{ListFault}
use Rattle.pocsag_decode.specs.declared.fault.ListFault.TheVariants as listing
use Rattle.pocsag_pager.specs.declared.fault.PagerFault.TheVariants as hearing
use Rattle.pocsag_shell.specs.Faults.{file_status}
use Rattle.pocsag_shell.specs.declared.fault.FileFault.TheVariants as file
use Rattle.pocsag_show.specs.declared.fault.ShowFault.{ShowFault}
use Rattle.pocsag_show.specs.declared.fault.ShowFault.TheVariants as showing
use Rattle.pocsag_receiver.specs.declared.fault.ReceiverFault.{ReceiverFault}
use Rattle.pocsag_receiver.specs.declared.fault.ReceiverFault.TheVariants as fault

-- The exit status of a fault: 3 for a device or memory, 1 for what was refused.
abbrev pub receiver_status : ReceiverFault → ℕ
receiver_status (fault.File f) = file_status f
receiver_status (fault.Transmission decoding.OutOfMemory) = 3
receiver_status (fault.Pager hearing.OutOfMemory) = 3
receiver_status (fault.Capture capturing.OutOfMemory) = 3
receiver_status _ = 1

abbrev pub fault_of_list : ListFault → ReceiverFault
fault_of_list listing.WriteFault = fault.File file.Write
fault_of_list listing.OutOfMemory = fault.File file.OutOfMemory

abbrev pub fault_of_show : ShowFault → ReceiverFault
fault_of_show (showing.Transmission f) = fault.Transmission f
fault_of_show showing.WriteFault = fault.File file.Write
fault_of_show showing.OutOfMemory = fault.File file.OutOfMemory
