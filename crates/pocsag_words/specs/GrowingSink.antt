-- What contracts see of a sink that grows.
use Rattle.std.specs.Prelude.{ℕ, List}
use Rattle.pocsag_words.specs.declared.growing_sink.GrowingSink.{GrowingSink}

-- The bytes that were taken.
abbrev pub kept_by : GrowingSink → List ℕ
kept_by s = s.bytes.items

-- How many calls there were, and how many of them failed.
abbrev pub growing_calls : GrowingSink → ℕ
growing_calls s = s.calls

abbrev pub growing_failures : GrowingSink → ℕ
growing_failures s = s.failures
