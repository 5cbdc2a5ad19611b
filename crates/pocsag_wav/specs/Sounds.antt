-- What a writer takes of the sound of a transmission, and why there is none.
use Rattle.std.specs.Prelude.{◌≡◌, ℕ, ◌+◌, ◌*◌, ◌^◌, ◌≤◌, List, ◌++◌, length, ℤ}
use Rattle.pocsag_words.specs.Devices.{TookPrefix}
use Rattle.pocsag_pages.specs.declared.page.Page.{Page}
use Rattle.pocsag_decode.specs.Faults.{HasFault, ReadsAs}
use Rattle.pocsag_wav.specs.declared.fault.NoSound.{NoSound}
use Rattle.pocsag_wav.specs.declared.fault.NoSound.TheVariants as fault
use Rattle.pocsag_wav.specs.declared.keying.Keying.{Keying}
use Rattle.pocsag_wav.specs.Levels.{IsKeyed}
use Rattle.pocsag_wav.specs.Wav.{IsWav}

-- The bytes are a transmission that reads as pages.
abbrev pub ReadsAsPages : List ℕ → Type 0
ReadsAsPages bytes = (pages : List Page) × ReadsAs bytes pages

-- The bytes are a transmission, and its sound was written.
pub record Sounded (keying : Keying) (bytes out_before out_after : List ℕ) : Type 0 where
  pub reads : ReadsAsPages bytes
  pub file : List ℕ
  pub wav : IsWav keying bytes file
  pub written : out_after ≡ out_before ++ file

-- A prefix of it was taken.
pub record SoundedPart (keying : Keying) (bytes out_before out_after : List ℕ) : Type 0 where
  pub reads : ReadsAsPages bytes
  pub file : List ℕ
  pub wav : IsWav keying bytes file
  pub part : TookPrefix out_before out_after file

-- The sound of the transmission has more samples than a WAV file can hold.
pub record IsTooLong (keying : Keying) (bytes : List ℕ) : Type 0 where
  pub reads : ReadsAsPages bytes
  pub long : (samples : List ℤ) → IsKeyed keying bytes samples → 2 ^ 32 ≤ 36 + 2 * length samples

-- The bytes have this fault; or they are a transmission, and its sound is too long, or the writer refused.
abbrev pub ExplainsWav : Keying → (bytes : List ℕ) → NoSound → Type 0
ExplainsWav keying bytes (fault.Transmission f) = HasFault bytes f
ExplainsWav keying bytes fault.TooLong = IsTooLong keying bytes
ExplainsWav keying bytes fault.WriteFault = ReadsAsPages bytes
ExplainsWav keying bytes _ = ⊥
