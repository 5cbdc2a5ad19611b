-- What `pocsag_wav` promises.
use Rattle.std.specs.Prelude.{◌⊎◌, ℕ, ◌==◌, if◌then◌else◌, not, List, Option, None, Some}
use Rattle.pocsag_wav.specs.Keys.{ExplainsKeying, IsAsAsked}
use Rattle.pocsag_wav.specs.Sounds.{ExplainsWav, ReadsAsPages}
use Rattle.pocsag_wav.specs.Wav.{IsWav}
use Rattle.pocsag_wav.specs.declared.fault.NoSound.{NoSound}
use Rattle.pocsag_wav.specs.declared.keying.Keying.{Keying}

-- The preamble that a number asks for: 0 none but that of the transmission, any other one of so many bits.
abbrev pub preamble_asked : (bits : ℕ) → Option ℕ
preamble_asked bits = if bits == 0 then None else Some bits

-- The keying that the numbers ask for, with a batch's time of silence. Any other number than 0 turns the levels round.
abbrev pub IsKeyingOf : (rate samples bits inverted : ℕ) → Keying → Type 0
IsKeyingOf rate samples bits inverted keying = IsAsAsked keying rate samples (preamble_asked bits) None (not (inverted == 0))

-- The bytes are a transmission, and the file is its sound as the numbers ask for it.
pub record IsSoundOf (rate samples bits inverted : ℕ) (tx file : List ℕ) : Type 0 where
  pub keying : Keying
  pub asked : IsKeyingOf rate samples bits inverted keying
  pub reads : ReadsAsPages tx
  pub wav : IsWav keying tx file

-- Why there is no sound: the first number that may not be; or else the fault of the bytes, or of the length of their sound as the
-- numbers ask for it.
abbrev pub ExplainsNoSound : (rate samples bits inverted : ℕ) → (tx : List ℕ) → NoSound → Type 0
ExplainsNoSound rate samples bits inverted tx f =
    ExplainsKeying rate samples (preamble_asked bits) f
    ⊎ ((keying : Keying) × IsKeyingOf rate samples bits inverted keying × ExplainsWav keying tx f)
