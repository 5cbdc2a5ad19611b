-- What contracts see of a source over a slice.
use Rattle.std.specs.Prelude.{ℕ, List}
use Rattle.pocsag_words.specs.declared.slice_source.SliceSource.{SliceSource}

-- The bytes that are still held.
abbrev pub rest_of : SliceSource → List ℕ
rest_of s = s.rest.now

-- How many calls there were.
abbrev pub slice_calls : SliceSource → ℕ
slice_calls s = s.calls
