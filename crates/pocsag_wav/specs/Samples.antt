-- The samples as they are counted and written.
use Rattle.std.specs.Prelude.{ℕ, ◌*◌, ◌/◌, ◌<◌, ◌↔◌, List, map, ℤ}
use Rattle.std.specs.List.{range_with_len}
use Rattle.pocsag_wav.specs.declared.keying.Keying.{Keying}
use Rattle.pocsag_wav.specs.Levels.{level_at}

-- So many samples are those that begin within so many bits.
abbrev pub IsCount : Keying → (bits count : ℕ) → Type 0
IsCount keying bits count = (i : ℕ) → (i < count) ↔ (i * keying.rate / keying.samples < bits)

-- The first samples of these bytes, so many.
unfoldable pub samples_of : Keying → (bytes : List ℕ) → (count : ℕ) → List ℤ
samples_of keying bytes count = map (λ i. level_at keying.is_inverted bytes (i * keying.rate / keying.samples)) (range_with_len 0 count)
