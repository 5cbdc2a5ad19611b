-- The file of a sound: RIFF WAVE, PCM of 16 bits and one channel (the format is that of others, restated).
use Rattle.std.specs.Prelude.{◌≡◌, ℕ, ◌+◌, ◌*◌, ◌^◌, ◌<◌, List, ◌++◌, length, codes, ℤ}
use Rattle.std.specs.Int.{cast_unsigned, to_le_bytes, w16, w32}
use Rattle.std.specs.List.{flat_map}
use Rattle.pocsag_wav.specs.declared.keying.Keying.{Keying}
use Rattle.pocsag_wav.specs.Levels.{IsKeyed}

-- The 44 bytes before so many samples of so many a second: how long the file is behind its first eight bytes, the format (PCM,
-- one channel, the samples and the bytes of a second, two bytes and 16 bits for each sample), and how long the samples are.
-- Numbers have their low byte first.
abbrev pub wav_header : (a_second count : ℕ) → List ℕ
wav_header a_second count =
    codes "RIFF" ++ to_le_bytes w32 (36 + 2 * count) ++ codes "WAVE"
    ++ codes "fmt " ++ to_le_bytes w32 16 ++ to_le_bytes w16 1 ++ to_le_bytes w16 1
    ++ to_le_bytes w32 a_second ++ to_le_bytes w32 (2 * a_second) ++ to_le_bytes w16 2 ++ to_le_bytes w16 16
    ++ codes "data" ++ to_le_bytes w32 (2 * count)

-- The two bytes of a sample, the low one first.
abbrev pub sample_bytes : ℤ → List ℕ
sample_bytes level = to_le_bytes w16 (cast_unsigned w16 level)

-- The WAV file of so many samples a second that holds these samples and nothing else; its lengths fit their 32 bits.
pub record HoldsSamples (a_second : ℕ) (samples : List ℤ) (file : List ℕ) : Type 0 where
  pub fits : 36 + 2 * length samples < 2 ^ 32
  pub whole : file ≡ wav_header a_second (length samples) ++ flat_map sample_bytes samples

-- The file is the sound of a transmission.
pub record IsWav (keying : Keying) (bytes file : List ℕ) : Type 0 where
  pub samples : List ℤ
  pub keyed : IsKeyed keying bytes samples
  pub held : HoldsSamples keying.samples samples file
