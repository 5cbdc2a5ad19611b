-- Commands over the bytes that a reader holds (this project's own).
use Rattle.std.specs.Prelude.{◌≡◌, ◌⊎◌, true, false, ℕ, ◌-◌, ◌^◌, ◌<◌, ◌≤◌, List, length}
use Rattle.pocsag_words.specs.Devices.{HasFailed}
use Rattle.pocsag_words.specs.Frame.{input_limit}
use Rattle.pocsag_words.specs.declared.device.Sink.{Ghosts as Writer}
use Rattle.pocsag_words.specs.declared.device.Source.{Ghosts as Reader}
use Rattle.pocsag_shell.specs.Runs.{Work}
use Rattle.pocsag_shell.specs.declared.fault.FileFault.{FileFault}
use Rattle.pocsag_shell.specs.declared.fault.FileFault.TheVariants as file

-- A device was called between the two counts of calls: the count rose, or it could not rise.
abbrev pub WasCalled : ℕ → ℕ → Type 0
WasCalled before after = before < 2 ^ 64 - 1 → before < after

-- A reader failed, and contracts that know its bytes know that they are cut.
pub record FailedCut {T : Type 0} (Tx : Reader T) (tx tx_after : T) : Type 0 where
  pub failed : HasFailed (Tx.failures tx) (Tx.failures tx_after)
  pub cut : Tx.is_known → Tx.is_cut tx ≡ true

-- The bytes that a reader holds are whole, so far as contracts know them.
abbrev pub IsUncut : {T : Type 0} → Reader T → (tx : T) → Type 0
IsUncut Tx tx = Tx.is_known → Tx.is_cut tx ≡ false

-- Why a reader was not read whole: it failed, it holds more than is read, or memory was refused as it was read, which is whole and
-- holds no more.
abbrev pub WasNotRead : {T : Type 0} → (Tx : Reader T) → (tx tx_after : T) → FileFault → Type 0
WasNotRead Tx tx tx_after file.Device = FailedCut Tx tx tx_after
WasNotRead Tx tx tx_after file.TooLarge = Tx.is_known → input_limit < length (Tx.held tx)
WasNotRead Tx tx tx_after file.OutOfMemory =
    WasCalled (Tx.calls tx) (Tx.calls tx_after) × IsUncut Tx tx × (Tx.is_known → length (Tx.held tx) ≤ input_limit)
WasNotRead Tx tx tx_after _ = ⊥

-- This is so of the bytes that a reader holds, which are whole and no more than are read.
pub record IsSoOfHeld {T : Type 0} (Tx : Reader T) (tx : T) (P : List ℕ → Type 0) : Type 0 where
  pub bytes : List ℕ
  pub held : Tx.is_known → bytes ≡ Tx.held tx
  pub whole : IsUncut Tx tx
  pub fits : Tx.is_known → length bytes ≤ input_limit
  pub holds : P bytes

-- What a command does over the bytes of one file.
pub record Task (F : Type 0) : Type 1 where
  -- Which text it prints of them, with exit status 0;
  pub prints : (bytes text : List ℕ) → Type 0
  -- why it prints none;
  pub explains : (bytes : List ℕ) → F → Type 0
  -- why it may stop behind a part of the text, though no writer failed, if it writes while it works;
  pub stops : F → Type 0
  -- and what the faults of files are among its own, with the exit status of each.
  pub as_fault : FileFault → F
  pub ends : F → ℕ

-- The same, as a command over bytes: contracts know its text where they know what the writer takes.
abbrev pub over_bytes : {F O : Type 0} → Task F → (Out : Writer O) → (bytes : List ℕ) → Work F
over_bytes task Out bytes = record {
  is_known = Out.is_known;
  prints = λ status text. (status ≡ 0) × task.prints bytes text;
  explains = task.explains bytes;
  lost = λ f. f ≡ task.as_fault file.Write;
  stops = task.stops;
  ends = task.ends;
}

-- And as one over the reader that holds them: its fault may also be why they were not read.
abbrev pub over_reader : {F T O : Type 0} → Task F → (Tx : Reader T) → (Out : Writer O) → (tx tx_after : T) → Work F
over_reader task Tx Out tx tx_after = record {
  is_known = Out.is_known;
  prints = λ status text. (status ≡ 0) × IsSoOfHeld Tx tx (λ bytes. task.prints bytes text);
  explains = λ f. ((e : FileFault) × (f ≡ task.as_fault e) × WasNotRead Tx tx tx_after e)
      ⊎ IsSoOfHeld Tx tx (λ bytes. task.explains bytes f);
  lost = λ f. f ≡ task.as_fault file.Write;
  stops = task.stops;
  ends = task.ends;
}
