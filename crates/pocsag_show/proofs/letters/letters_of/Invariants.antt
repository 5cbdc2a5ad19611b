use Rattle.pocsag_show.proofs.Prelude.{◌≡◌, ◌++◌, length, map, kind_of, codewords_in, kinds_ahead, letters_with, number_below}
use Rattle.pocsag_show.proofs.letters.letters_of.Given as goal

abbrev pub invariant-loop-kind : goal.invariant-loop-kind
invariant-loop-kind l =
    l.letters.items ++ letters_with (number_below l.fn.numbers) l.kinds.index l.last (kinds_ahead l.kinds)
    ≡ letters_with (number_below l.fn.numbers) 0 0 (map kind_of (codewords_in l.fn.bytes))

abbrev pub decreases-loop-kind : goal.decreases-loop-kind
decreases-loop-kind l = length (kinds_ahead l.kinds)
