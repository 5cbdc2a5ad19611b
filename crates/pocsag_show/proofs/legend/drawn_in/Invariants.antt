use Rattle.pocsag_show.proofs.Prelude.{◌≡◌, ◌≤◌, take, drawn_in}
use Rattle.pocsag_show.proofs.legend.drawn_in.Given as goal

abbrev pub invariant-loop-placed : goal.invariant-loop-placed
invariant-loop-placed l = (l.count ≡ drawn_in l.window.low l.window.high (take l.placed-index l.pages)) × (l.count ≤ l.placed-index)
