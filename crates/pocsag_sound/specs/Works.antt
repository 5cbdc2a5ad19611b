-- `wav`: what it does over the bytes of a transmission.
use Rattle.std.specs.Prelude.{ℕ, List}
use Rattle.pocsag_shell.specs.Readers.{Task}
use Rattle.pocsag_sound.specs.Faults.{ExplainsSound, sound_status}
use Rattle.pocsag_sound.specs.declared.fault.SoundFault.{SoundFault}
use Rattle.pocsag_sound.specs.declared.fault.SoundFault.TheVariants as fault
use Rattle.pocsag_wav.specs.Sounds.{ReadsAsPages}
use Rattle.pocsag_wav.specs.Wav.{IsWav}
use Rattle.pocsag_wav.specs.declared.keying.Keying.{Keying}

-- The bytes are a transmission, and this is the WAV file of its sound.
pub record IsSounded (keying : Keying) (bytes file : List ℕ) : Type 0 where
  pub reads : ReadsAsPages bytes
  pub wav : IsWav keying bytes file

abbrev pub sounds : Keying → Task SoundFault
sounds keying = record {
  prints = IsSounded keying;
  explains = ExplainsSound keying;
  stops = λ f. ⊥;
  as_fault = fault.File;
  ends = sound_status;
}
