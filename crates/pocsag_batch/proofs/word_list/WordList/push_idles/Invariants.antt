use Rattle.pocsag_batch.proofs.Prelude.{◌≡◌, ◌++◌, map, replicate, kind_of, Idle}
use Rattle.pocsag_batch.proofs.word_list.WordList.push_idles.Given as goal

abbrev pub invariant-loop-done : goal.invariant-loop-done
invariant-loop-done l = map kind_of l.self ≡ map kind_of l.fn.self ++ replicate l.done Idle
