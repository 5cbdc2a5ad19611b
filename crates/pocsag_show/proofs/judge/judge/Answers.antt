use Rattle.pocsag_show.proofs.Prelude.{◌≡◌, List, [], length, refl, ap, arith, Kind, pages_from, idles_in, kinds_ahead}
use Rattle.pocsag_show.proofs.JudgedBytes.{judged_is}
use Rattle.pocsag_show.proofs.judge.judge.Goals as goal

pub new-requires : goal.new-requires
new-requires c =
    let loop = c.loop-kind in
    let none : kinds_ahead loop.kinds ≡ [] = c.in_default.ensures.read.0 in
    omega (arith, loop.invariant.pages, ap (λ (ks : List Kind). length (pages_from loop.kinds.index ks)) none)

pub returns-clause-judged : goal.returns-clause-judged
returns-clause-judged c =
    let reads = c.in-Ok.ensures.ok in
    let loop = c.loop-kind in
    let end = c.in_default.ensures in
    let none : kinds_ahead loop.kinds ≡ [] = end.read.0 in
    judged_is c.args.bytes.now reads.0 reads.1 _ loop.idles
    (omega (arith, loop.invariant.codewords, ap length none, end.index)) (omega (arith, loop.invariant.idles, ap idles_in none)) _
    (omega (arith, end.index, loop.invariant.few)) refl c.in_ok-numbers.ensures refl refl refl
