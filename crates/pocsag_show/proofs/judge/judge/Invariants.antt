use Rattle.pocsag_show.proofs.Prelude.{◌≡◌, ◌+◌, ◌^◌, ◌<◌, ◌≤◌, length, map, kind_of, codewords_in, pages_from, idles_in, kinds_ahead}
use Rattle.pocsag_show.proofs.judge.judge.Given as goal

abbrev pub invariant-loop-kind : goal.invariant-loop-kind
invariant-loop-kind l =
    let ks = map kind_of (codewords_in l.fn.bytes) in
    let left = kinds_ahead l.kinds in
    record {
      few : l.kinds.index < 2 ^ 62;
      within : (l.idles ≤ l.kinds.index) × (l.pages ≤ l.kinds.index);
      codewords : l.kinds.index + length left ≡ length ks;
      idles : l.idles + idles_in left ≡ idles_in ks;
      pages : l.pages + length (pages_from l.kinds.index left) ≡ length (pages_from 0 ks);
    }

abbrev pub decreases-loop-kind : goal.decreases-loop-kind
decreases-loop-kind l = length (kinds_ahead l.kinds)
