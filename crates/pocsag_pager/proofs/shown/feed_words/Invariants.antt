use Rattle.pocsag_pager.proofs.Prelude.{◌≡◌, ℕ, List, ◌++◌, map, take, from_be_bytes, w32, HasHeard, pager_address}
use Rattle.pocsag_pager.proofs.shown.feed_words.Given as goal

abbrev pub invariant-loop-word : goal.invariant-loop-word
invariant-loop-word l = record {
  heard : (words : List ℕ) → HasHeard l.initial.pager words l.initial.pages.items
      → HasHeard l.pager (words ++ map (from_be_bytes w32) (take l.word-index l.words)) l.pages.items;
  address : pager_address l.pager ≡ pager_address l.initial.pager;
}
