use Rattle.pocsag_show.proofs.Prelude.{◌≡◌, ◌≤◌, take, place_in}
use Rattle.pocsag_show.proofs.legend.place_in.Given as goal

abbrev pub invariant-loop-other : goal.invariant-loop-other
invariant-loop-other l =
    (l.count ≡ place_in l.window.low l.window.high (take l.other-index l.pages) l.placed) × (l.count ≤ l.other-index)
