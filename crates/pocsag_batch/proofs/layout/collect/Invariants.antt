use Rattle.pocsag_batch.proofs.Prelude.{◌≡◌, ◌++◌, map, All, IsCodeword, kind_of}
use Rattle.pocsag_batch.proofs.layout.collect.Given as goal

-- the codewords that are in the list, and those that are left, are all
abbrev pub invariant-loop-word : goal.invariant-loop-word
invariant-loop-word l = (map kind_of l.words ++ l.word-iterator ≡ l.fn.slots) × All IsCodeword l.words
