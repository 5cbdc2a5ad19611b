use Rattle.pocsag_decode.proofs.Prelude.{arith}
use Rattle.pocsag_decode.proofs.Pieces.{skips_begun, skips_alone}
use Rattle.pocsag_decode.proofs.state.Decoder.skip_preamble.Goals as goal

pub returns-then-size-gt0-clause-skipped : goal.returns-then-size-gt0-clause-skipped
returns-then-size-gt0-clause-skipped c = λ X e s. skips_begun X _ _ _ e s (λ z. omega arith)

pub returns-clause-skipped : goal.returns-clause-skipped
returns-clause-skipped c = λ X e s.
    skips_alone X _ _ _ _ _ e s (omega arith) c.preamble_len-count.ensures.value c.split_at.ensures.back
