use Rattle.pocsag_capture.proofs.Prelude.{◌/◌, arith, capture_bits}
use Rattle.pocsag_capture.proofs.SearchLemmas.{quiet_eight, quiet_end, quiet_more, synchronised_at}
use Rattle.pocsag_capture.proofs.Windows.{bits_long}
use Rattle.pocsag_capture.proofs.search.find.Goals as goal

pub loop-bit-preserved-then-is_quiet : goal.loop-bit-preserved-then-is_quiet
loop-bit-preserved-then-is_quiet c =
    record {
      later = omega arith;
      small = omega arith;
      quiet = quiet_more _ _ _ _ c.loop-bit.invariant.quiet
          (quiet_eight c.args.capture.now (c.loop-bit.bit / 8) c.loop-bit.bit c.window_on.result (omega arith) c.window_on.ensures.words
          c.if-is_quiet.ensures);
    }

pub returns-in-Some-clause-there : goal.returns-in-Some-clause-there
returns-in-Some-clause-there c =
    synchronised_at c.args.capture.now c.loop-bit.bit c.word_on.result c.in-Some.polarity c.word_on.ensures (omega arith) c.in-Some.ensures.near

pub returns-else-bit-end-clause-none : goal.returns-else-bit-end-clause-none
returns-else-bit-end-clause-none c =
    quiet_more _ _ _ _ c.loop-bit.invariant.quiet (quiet_end (capture_bits c.args.capture.now) c.loop-bit.bit c.args.last (omega (arith, bits_long c.args.capture.now)))
