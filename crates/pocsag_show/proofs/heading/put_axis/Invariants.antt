use Rattle.pocsag_show.proofs.Prelude.{◌≡◌, ◌+◌, ◌*◌, ◌++◌, flat_map, range_with_len, axis_number}
use Rattle.pocsag_show.proofs.heading.put_axis.Given as goal

abbrev pub invariant-loop-number : goal.invariant-loop-number
invariant-loop-number l =
    l.text.items ≡ l.fn.text.items ++ flat_map (λ i. axis_number (l.x + l.pitch * i) l.y i) (range_with_len 0 l.number-counter)
