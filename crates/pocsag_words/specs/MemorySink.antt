-- What contracts see of a memory sink.
use Rattle.std.specs.Prelude.{ℕ, List, take}
use Rattle.pocsag_words.specs.declared.memory_sink.MemorySink.{MemorySink}

-- The bytes that were taken.
abbrev pub taken_of : {N : ℕ} → MemorySink N → List ℕ
taken_of s = take s.len s.bytes

-- How many calls there were, and how many of them failed.
abbrev pub sink_calls : {N : ℕ} → MemorySink N → ℕ
sink_calls s = s.calls

abbrev pub sink_failures : {N : ℕ} → MemorySink N → ℕ
sink_failures s = s.failures

-- The most bytes that one call moves.
abbrev pub sink_step : {N : ℕ} → MemorySink N → ℕ
sink_step s = s.step

-- How many bytes it still moves before every call fails.
abbrev pub sink_left : {N : ℕ} → MemorySink N → ℕ
sink_left s = s.left
