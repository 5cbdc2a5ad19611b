use Rattle.pocsag_pager.proofs.Prelude.{words_of, words_long}
use Rattle.pocsag_pager.proofs.WholeWords.{words_small}
use Rattle.pocsag_pager.proofs.shown.feed_part.Goals as goal

pub returns-then-passes-clause-heard : goal.returns-then-passes-clause-heard
returns-then-passes-clause-heard c =
    let bytes = c.args.bytes.now in
    record {
      heard =
          λ words h. c.skip.ensures.heard words (words_of bytes) _ h (words_small bytes (λ i. (c.type_inv.bytes i).fits))
          (words_long bytes);
      memory = λ words h. tt;
      address = c.skip.ensures.address;
    }
