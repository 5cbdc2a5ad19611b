-- The bytes of codewords by their slots, equal to *Bytes*: no index can grow too large.
use Rattle.std.specs.Prelude.{ℕ, ◌+◌, ◌%◌, ◌==◌, cond, List, [], ◌∷◌, ◌++◌}
use Rattle.std.specs.Int.{to_be_bytes, w32}
use Rattle.pocsag_pages.specs.Bytes.{sync_word}

-- The bytes of a codeword in this slot: the synchronisation codeword stands before slot 0.
abbrev pub slot_bytes : ℕ → ℕ → List ℕ
slot_bytes slot w = cond (slot == 0) (to_be_bytes w32 sync_word) [] ++ to_be_bytes w32 w

-- The bytes of the codewords, the first of them in this slot.
abbrev pub body_from : ℕ → List ℕ → List ℕ
body_from slot [] = []
body_from slot (w ∷ ws) = slot_bytes slot w ++ body_from ((slot + 1) % 16) ws
