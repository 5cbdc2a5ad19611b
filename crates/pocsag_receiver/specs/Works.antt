-- The commands for transmissions: what each does over the bytes of one.
use Rattle.std.specs.Prelude.{◌≡◌, ℕ, List}
use Rattle.pocsag_capture.specs.declared.reception.ReceptionStats.{ReceptionStats}
use Rattle.pocsag_decode.specs.Repairs.{Counts}
use Rattle.pocsag_shell.specs.Readers.{Task}
use Rattle.pocsag_shell.specs.Runs.{Work}
use Rattle.pocsag_shell.specs.declared.fault.FileFault.TheVariants as file
use Rattle.pocsag_show.specs.declared.view.View.{View}
use Rattle.pocsag_receiver.specs.Captures.{ExplainsCaptured, ExplainsOne, IsCaptureListed, IsSoOfOne}
use Rattle.pocsag_receiver.specs.Faults.{receiver_status}
use Rattle.pocsag_receiver.specs.Listings.{ExplainsDecoding, ExplainsHearing, IsDecoded, IsHeard}
use Rattle.pocsag_receiver.specs.Repair.{IsSoOfRead}
use Rattle.pocsag_receiver.specs.Views.{ExplainsShowing, IsViewed}
use Rattle.pocsag_receiver.specs.declared.captured.CaptureOptions.{CaptureOptions}
use Rattle.pocsag_receiver.specs.declared.fault.ReceiverFault.{ReceiverFault}
use Rattle.pocsag_receiver.specs.declared.fault.ReceiverFault.TheVariants as fault
use Rattle.pocsag_receiver.specs.declared.form.ListForm.{ListForm}
use Rattle.pocsag_receiver.specs.declared.hear.Hearing.{Hearing}
use Rattle.pocsag_receiver.specs.declared.repair.Repairing.{Repairing}

-- Memory was refused.
abbrev pub IsStarved : ReceiverFault → Type 0
IsStarved f = f ≡ fault.File file.OutOfMemory

-- Writes this text, and stops in front of it or behind a part of it where memory is refused.
abbrev pub writing : (due : List ℕ) → Work ReceiverFault
writing due = record {
  is_known = Unit {0};
  prints = λ status text. (status ≡ 0) × (text ≡ due);
  explains = IsStarved;
  lost = λ f. f ≡ fault.File file.Write;
  stops = IsStarved;
  ends = receiver_status;
}

-- A command that prints one of these texts, or tells a fault that is explained: it writes while it works, and stops behind a
-- part of the text where memory is refused.
abbrev pub streamed : (Prints : (bytes text : List ℕ) → Type 0) → (Explains : (bytes : List ℕ) → ReceiverFault → Type 0) → Task ReceiverFault
streamed Prints Explains = record {
  prints = Prints;
  explains = Explains;
  stops = IsStarved;
  as_fault = fault.File;
  ends = receiver_status;
}

-- This command over the bytes that are read of a file: with repair, so much was corrected.
abbrev pub repairs : (before after : Repairing) → Task ReceiverFault → Task ReceiverFault
repairs before after task = record task {
  prints = λ held text. IsSoOfRead held before.is_asked (λ bytes. Counts after.corrected held bytes × task.prints bytes text);
  explains = λ held f. IsSoOfRead held before.is_asked (λ bytes. task.explains bytes f);
}

-- Lists the pages that the bytes read as, in a form,
abbrev pub lists : ListForm → Task ReceiverFault
lists form = streamed (IsDecoded form) ExplainsDecoding

-- and `decode`: with repair those that its words read as once each is repaired.
abbrev pub decodes : ListForm → (before after : Repairing) → Task ReceiverFault
decodes form before after = repairs before after (lists form)

-- `hear`: lists what the pager of an address shows.
abbrev pub hears : Hearing → Task ReceiverFault
hears hearing = streamed (IsHeard hearing) (ExplainsHearing hearing.address)

-- `decode --capture` and `hear --capture`: lists the pages of the transmissions of a capture.
abbrev pub lists_capture : CaptureOptions → (heard : List ReceptionStats) → Task ReceiverFault
lists_capture picking heard = streamed (IsCaptureListed picking heard) (ExplainsCaptured picking.only)

-- Shows a transmission,
abbrev pub views : View → Task ReceiverFault
views view = streamed (IsViewed view) (ExplainsShowing view)

-- `show`: with repair as it is once each of its words is repaired,
abbrev pub shows : View → (before after : Repairing) → Task ReceiverFault
shows view before after = repairs before after (views view)

-- and `show --capture`: one of those of a capture.
abbrev pub shows_capture : View → (nth : ℕ) → (heard : List ReceptionStats) → Task ReceiverFault
shows_capture view nth heard =
    streamed (λ capture text. IsSoOfOne capture nth heard (λ bytes. IsViewed view bytes text)) (ExplainsOne view nth)
