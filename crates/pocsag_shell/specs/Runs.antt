-- What every command does over its devices, whatever it does over bytes (this project's own).
use Rattle.std.specs.Prelude.{◌≡◌, ◌⊎◌, ℕ, ◌+◌, ◌<◌, List, ◌++◌, length, IfErr, IfOk, Result, Ok, Err}
use Rattle.pocsag_words.specs.Devices.{HasFailed, TookPrefix}
use Rattle.pocsag_words.specs.declared.device.Sink.{Ghosts as Writer}
use Rattle.pocsag_shell.specs.ErrorStreams.{EndedWell, EndedWith}
use Rattle.pocsag_shell.specs.declared.answer.CommandAnswer.{CommandAnswer}
use Rattle.pocsag_shell.specs.declared.error_stream.ErrorStream.{ErrorStream}

-- A command over bytes.
pub record Work (F : Type 0) : Type 1 where
  -- Whether contracts know the bytes of its inputs;
  pub is_known : Type 0
  -- which text it prints of them, with which exit status;
  pub prints : (status : ℕ) → (text : List ℕ) → Type 0
  -- why it prints none: what is so of the bytes, or that a reader failed;
  pub explains : F → Type 0
  -- the fault of a writer that failed;
  pub lost : F → Type 0
  -- why it may stop behind a part of the text, though no writer failed, if it writes while it works;
  pub stops : F → Type 0
  -- and the exit status of each fault.
  pub ends : F → ℕ

-- What was taken is less than what was due, and a prefix of it.
abbrev pub TookPart : (before after due : List ℕ) → Type 0
TookPart before after due = TookPrefix before after due × (length after < length before + length due)

-- It was run: it printed to one writer, and told a fault to the other.
pub data Ran {F O E : Type 0} (work : Work F) (Out : Writer O) (Err : Writer E) (status : ℕ) (out out_after : O) (err err_after : ErrorStream F E) : Type 0 where
  -- A text that is due was printed whole, and standard error is as it was.
  done : EndedWell err err_after
      → (work.is_known → (text : List ℕ) × work.prints status text × (Out.is_known → Out.taken out_after ≡ Out.taken out ++ text))
      → Ran work Out Err status out out_after err err_after
  -- A fault that is explained was told in one line, and standard output is as it was.
  refused : (f : F) → EndedWith work.ends Err err err_after status f → work.explains f → out_after ≡ out
      → Ran work Out Err status out out_after err err_after
  -- Standard output failed behind a prefix of a text that is due, and this was told in one line.
  lost : (f : F) → EndedWith work.ends Err err err_after status f → work.lost f
      → HasFailed (Out.failures out) (Out.failures out_after)
      → (work.is_known → (s : ℕ) × (text : List ℕ) × work.prints s text
      × (Out.is_known → TookPrefix (Out.taken out) (Out.taken out_after) text))
      → Ran work Out Err status out out_after err err_after
  -- The command had to stop behind a part of a text that is due, and this was told in one line.
  stopped : (f : F) → EndedWith work.ends Err err err_after status f → work.stops f
      → (work.is_known → (s : ℕ) × (text : List ℕ) × work.prints s text
      × (Out.is_known → TookPart (Out.taken out) (Out.taken out_after) text))
      → Ran work Out Err status out out_after err err_after

-- This is what the command answers: a text that is due, or a fault that is explained.
abbrev pub IsAnswerOf : {F : Type 0} → Work F → Result CommandAnswer F → Type 0
IsAnswerOf work answer = (work.is_known → IfOk answer (λ a. work.prints a.status a.text.items)) × IfErr answer work.explains

-- The command that gives this answer.
abbrev pub answering : {F : Type 0} → (IsLost : F → Type 0) → (status_of : F → ℕ) → Result CommandAnswer F → Work F
answering IsLost status_of answer = record {
  is_known = Unit {0};
  prints = λ status text. (a : CommandAnswer) × (answer ≡ Ok a) × (a.status ≡ status) × (a.text.items ≡ text);
  explains = λ f. answer ≡ Err f;
  lost = IsLost;
  stops = λ _. ⊥;
  ends = status_of;
}

-- A command that writes while it works wrote a text that is due, or a part of it before its fault.
abbrev pub IsStreamOf : {F O : Type 0} → Work F → Writer O → (out out_after : O) → Result ℕ F → Type 0
IsStreamOf work Out out out_after result =
    (work.is_known → IfOk result (λ status.
    (text : List ℕ) × work.prints status text × (Out.is_known → Out.taken out_after ≡ Out.taken out ++ text)))
    × IfErr result (λ f. (work.explains f × (out_after ≡ out))
    ⊎ (work.lost f × HasFailed (Out.failures out) (Out.failures out_after)
    × (work.is_known → (s : ℕ) × (text : List ℕ) × work.prints s text
    × (Out.is_known → TookPrefix (Out.taken out) (Out.taken out_after) text)))
    ⊎ (work.stops f
    × (work.is_known → (s : ℕ) × (text : List ℕ) × work.prints s text
    × (Out.is_known → TookPart (Out.taken out) (Out.taken out_after) text))))
