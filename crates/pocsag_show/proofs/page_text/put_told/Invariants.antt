use Rattle.pocsag_show.proofs.Prelude.{◌≡◌, ◌++◌, take, flat_map}
use Rattle.pocsag_show.specs.Escapes.{escaped}
use Rattle.pocsag_show.proofs.page_text.put_told.Given as goal

abbrev pub invariant-loop-byte : goal.invariant-loop-byte
invariant-loop-byte l = l.text.items ≡ l.initial.text.items ++ flat_map escaped (take l.byte-index l.byte-items)
