-- *Arc*: which slots a run of codewords covers, and where it leads.
use Rattle.std.specs.Prelude.{ℕ, zero, suc, ◌+◌, ◌%◌, ◌==◌, cond}
use Rattle.pocsag_slots.specs.Classes.{slot_count}

-- How many of n codewords, the first of them at index i, stand in the slot.
unfoldable pub covered : ℕ → ℕ → ℕ → ℕ
covered i zero slot = 0
covered i (suc n) slot = cond (i % slot_count == slot) 1 0 + covered (i + 1) n slot
