-- How a run is searched.
use Rattle.std.specs.Prelude.{◌≡◌, ℕ, ◌+◌, ◌*◌, ◌<◌, ◌≤◌, List}
use Rattle.pocsag_capture.specs.Receptions.{IsBridged, IsInStep, IsSynchronised, batch_bits, run_end, last_sync}
use Rattle.pocsag_capture.specs.declared.polarity.Polarity.{Polarity}
use Rattle.pocsag_capture.specs.declared.reception.Run.{Run}

-- So many batches behind a synchronisation codeword the next one in step begins; 0 where none does.
pub record Steps (bits : List ℕ) (bit : ℕ) (polarity : Polarity) (steps : ℕ) : Type 0 where
  pub most : steps ≤ 2
  pub none : steps ≡ 0 → (¬ IsSynchronised bits (bit + batch_bits) polarity) × (¬ IsBridged bits bit polarity)
  pub one : steps ≡ 1 → IsSynchronised bits (bit + batch_bits) polarity
  pub two : steps ≡ 2 → IsBridged bits bit polarity

-- A synchronisation codeword begins this run.
pub record BeginsRun (bits : List ℕ) (bit : ℕ) (polarity : Polarity) (u : Run) : Type 0 where
  pub same_bit : u.bit ≡ bit
  pub same_polarity : u.polarity ≡ polarity
  pub some : 0 < u.batches
  pub each : (k : ℕ) → k < u.batches → IsInStep bits (u.bit + batch_bits * k) u.polarity
  pub last : IsSynchronised bits (last_sync u) u.polarity
  pub none : ¬ IsSynchronised bits (run_end u) u.polarity
  pub over : ¬ IsBridged bits (last_sync u) u.polarity
