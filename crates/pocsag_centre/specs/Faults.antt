-- The faults of the centre's commands: their exit statuses, and which of them the fault of a call is.
use Rattle.std.specs.Prelude.{ℕ}
use Rattle.pocsag_pages.specs.declared.fault.RoundFault.TheVariants as round
use Rattle.pocsag_tree.specs.declared.refusals.CertificateFault.TheVariants as certificate
use Rattle.pocsag_decode.specs.declared.fault.DecodeFault.TheVariants as decoding
use Rattle.pocsag_findings.specs.declared.fault.ExplanationFault.{ExplanationFault}
use Rattle.pocsag_findings.specs.declared.fault.ExplanationFault.TheVariants as explanation
use Rattle.pocsag_plan.specs.declared.fault.NoFront.{NoFront}
use Rattle.pocsag_plan.specs.declared.fault.NoFront.TheVariants as front
use Rattle.pocsag_plan.specs.declared.fault.PlanFault.{PlanFault}
use Rattle.pocsag_plan.specs.declared.fault.PlanFault.TheVariants as planning
use Rattle.pocsag_plan.specs.declared.fault.StreamFault.{StreamFault}
use Rattle.pocsag_plan.specs.declared.fault.StreamFault.TheVariants as streaming
use Rattle.pocsag_shell.specs.Faults.{file_status}
use Rattle.pocsag_shell.specs.declared.fault.FileFault.TheVariants as file_fault
use Rattle.pocsag_centre.specs.declared.fault.CentreFault.{CentreFault}
use Rattle.pocsag_centre.specs.declared.fault.CentreFault.TheVariants as fault

-- The exit status of a fault: 3 for a device or memory, 1 for what was refused.
abbrev pub centre_status : CentreFault → ℕ
centre_status (fault.File f) = file_status f
centre_status (fault.Round round.ReadFault) = 3
centre_status (fault.Round round.OutOfMemory) = 3
centre_status (fault.Transmission decoding.OutOfMemory) = 3
centre_status (fault.Certificate certificate.ReadFault) = 3
centre_status (fault.Certificate certificate.OutOfMemory) = 3
centre_status _ = 1

abbrev pub fault_of_plan : PlanFault → CentreFault
fault_of_plan planning.BadLimit = fault.BadLimit
fault_of_plan (planning.SearchLimit stop) = fault.SearchLimit stop.least stop.found
fault_of_plan planning.OutOfMemory = fault.File file_fault.OutOfMemory

abbrev pub fault_of_front : NoFront → CentreFault
fault_of_front (front.Plan f) = fault_of_plan f
fault_of_front (front.FirstPage needed) = fault.FirstPage needed

abbrev pub fault_of_stream : StreamFault → CentreFault
fault_of_stream (streaming.Plan f) = fault_of_plan f
fault_of_stream (streaming.Round f) = fault.Round f
fault_of_stream (streaming.Transmission f) = fault.File file_fault.Write
fault_of_stream (streaming.Certificate f) = fault.File file_fault.Write

abbrev pub fault_of_explanation : ExplanationFault → CentreFault
fault_of_explanation explanation.WriteFault = fault.File file_fault.Write
fault_of_explanation explanation.OutOfMemory = fault.File file_fault.OutOfMemory
