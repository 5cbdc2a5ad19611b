use Rattle.pocsag_capture.proofs.Prelude.{capture_bits}
use Rattle.pocsag_capture.proofs.PagesLeft.{IsWalking}
use Rattle.pocsag_capture.proofs.captured_pages.CapturedPages.finish.Given as goal

abbrev pub invariant-loop-place : goal.invariant-loop-place
invariant-loop-place l = IsWalking (capture_bits l.self.capture.now) l.self.reception l.self.steady l.self.place l.self.corrector l.place l.corrector
