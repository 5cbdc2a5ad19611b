use Rattle.pocsag_show.proofs.Prelude.{◌≡◌, ◌++◌, take, flat_map, entry_of}
use Rattle.pocsag_show.proofs.legend.put_legend.Given as goal

abbrev pub invariant-loop-page : goal.invariant-loop-page
invariant-loop-page l =
    l.text.items ≡ l.fn.text.items ++ flat_map (entry_of l.window.low l.window.high l.pages) (take l.page-index l.pages)
