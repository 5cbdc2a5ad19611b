-- What contracts see of a memory source.
use Rattle.std.specs.Prelude.{ℕ, Bool, List, length, nat_le}
use Rattle.pocsag_words.specs.declared.memory_source.MemorySource.{MemorySource}

-- The bytes that are still held.
abbrev pub held_of : MemorySource → List ℕ
held_of s = s.rest.now

-- How many calls there were, and how many of them failed.
abbrev pub source_calls : MemorySource → ℕ
source_calls s = s.calls

abbrev pub source_failures : MemorySource → ℕ
source_failures s = s.failures

-- The most bytes that one call moves.
abbrev pub source_step : MemorySource → ℕ
source_step s = s.step

-- How many bytes it still moves before every call fails.
abbrev pub source_left : MemorySource → ℕ
source_left s = s.left

-- Whether a call fails before the end of the bytes that are held is returned.
abbrev pub source_is_cut : MemorySource → Bool
source_is_cut s = nat_le s.left (length s.rest.now)
