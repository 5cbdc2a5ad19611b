use Rattle.pocsag_text.proofs.Prelude.{◌≡◌, ◌++◌, replicate, flat_map, low_first}
use Rattle.pocsag_text.proofs.packer.Packer.push_times.Given as goal

abbrev pub invariant-loop-time : goal.invariant-loop-time
invariant-loop-time l =
    l.self ≡ l.fn.self ++ flat_map (low_first l.width) (replicate l._time l.code)
