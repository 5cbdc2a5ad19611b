-- What contracts see of the standard error of a command.
use Rattle.std.specs.Prelude.{◌≡◌, ℕ, Option, None, Some}
use Rattle.pocsag_words.specs.declared.device.Sink.{Ghosts as Writer}
use Rattle.pocsag_shell.specs.Notes.{TookLine}
use Rattle.pocsag_shell.specs.declared.error_stream.ErrorStream.{ErrorStream}

-- The fault that the command ended with, whose line was written; none where it ended without a fault.
abbrev pub printed_by : {F S : Type 0} → ErrorStream F S → Option F
printed_by s = s.fault

-- The writer.
abbrev pub stream_of : {F S : Type 0} → ErrorStream F S → S
stream_of s = s.sink

-- A command ended without a fault, and wrote nothing to standard error.
abbrev pub EndedWell : {F S : Type 0} → (before after : ErrorStream F S) → Type 0
EndedWell before after = (printed_by after ≡ None) × (stream_of after ≡ stream_of before)

-- A command ended with this fault: it has the exit status of the fault, and wrote one line.
abbrev pub EndedWith : {F S : Type 0} → (status_of : F → ℕ) → Writer S → (before after : ErrorStream F S) → (status : ℕ) → F → Type 0
EndedWith status_of Err before after status f =
    (printed_by after ≡ Some f) × (status ≡ status_of f) × TookLine Err (stream_of before) (stream_of after)
