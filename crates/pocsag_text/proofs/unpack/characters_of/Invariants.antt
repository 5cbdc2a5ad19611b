use Rattle.pocsag_text.proofs.Prelude.{◌≡◌, ◌++◌, map, take, drop, character_of}
use Rattle.pocsag_text.proofs.unpack.characters_of.Given as goal

abbrev pub invariant-loop-code : goal.invariant-loop-code
invariant-loop-code l =
    l.code-items ≡ map character_of (take l.code-index l.fn.codes.items) ++ drop l.code-index l.fn.codes.items
