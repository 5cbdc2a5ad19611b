-- Why `wav` writes no sound, and the exit statuses of its faults.
use Rattle.std.specs.Prelude.{ℕ, List}
use Rattle.pocsag_decode.specs.Faults.{HasFault}
use Rattle.pocsag_shell.specs.Faults.{file_status}
use Rattle.pocsag_shell.specs.declared.fault.FileFault.TheVariants as file
use Rattle.pocsag_wav.specs.Sounds.{IsTooLong}
use Rattle.pocsag_wav.specs.declared.fault.NoSound.{NoSound}
use Rattle.pocsag_wav.specs.declared.fault.NoSound.TheVariants as sound
use Rattle.pocsag_wav.specs.declared.keying.Keying.{Keying}
use Rattle.pocsag_sound.specs.declared.fault.SoundFault.{SoundFault}
use Rattle.pocsag_sound.specs.declared.fault.SoundFault.TheVariants as fault

-- The exit status of a fault: 3 for a device or memory, 1 for what was refused.
abbrev pub sound_status : SoundFault → ℕ
sound_status (fault.File f) = file_status f
sound_status _ = 1

-- The fault of the command where there is no sound.
abbrev pub fault_of_wav : NoSound → SoundFault
fault_of_wav sound.BadRate = fault.BadRate
fault_of_wav sound.BadSamples = fault.BadSamples
fault_of_wav sound.BadPreamble = fault.BadPreamble
fault_of_wav (sound.Transmission f) = fault.Transmission f
fault_of_wav sound.TooLong = fault.TooLong
fault_of_wav sound.WriteFault = fault.File file.Write

-- The bytes have this fault; or they are a transmission, and its sound is too long.
abbrev pub ExplainsSound : Keying → (bytes : List ℕ) → SoundFault → Type 0
ExplainsSound keying bytes (fault.Transmission f) = HasFault bytes f
ExplainsSound keying bytes fault.TooLong = IsTooLong keying bytes
ExplainsSound keying bytes _ = ⊥
