-- What contracts see of a source over what was read.
use Rattle.std.specs.Prelude.{ℕ, Bool, List, drop}
use Rattle.pocsag_shell.specs.declared.loaded.LoadedFile.{LoadedFile}

-- The bytes that are still held.
abbrev pub left_in : LoadedFile → List ℕ
left_in s = drop s.place s.bytes.items

-- Whether the system refused to read on behind the bytes.
abbrev pub loads_are_cut : LoadedFile → Bool
loads_are_cut s = s.is_cut

-- How many calls there were, and how many of them failed.
abbrev pub loads_called : LoadedFile → ℕ
loads_called s = s.calls

abbrev pub loads_failed : LoadedFile → ℕ
loads_failed s = s.failures
