use Rattle.pocsag_pager.proofs.Prelude.{◌≡◌, ◌*◌, take, words_of, HasHeard, pager_address}
use Rattle.pocsag_pager.proofs.shown.hear_batches.Given as goal

abbrev pub invariant-loop-i : goal.invariant-loop-i
invariant-loop-i l = record {
  heard : HasHeard l.pager (words_of (take (68 * l.i) l.bytes)) l.pages.items;
  address : pager_address l.pager ≡ pager_address l.fn.pager;
}
