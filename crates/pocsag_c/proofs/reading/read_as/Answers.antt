use Rattle.pocsag_c.proofs.Prelude.{refl}
use Rattle.pocsag_c.proofs.reading.read_as.Goals as goal

pub returns-in-Ok-extract_all-clause-read : goal.returns-in-Ok-extract_all-clause-read
returns-in-Ok-extract_all-clause-read c =
    rw c.in-Captured.is (c.in-Ok-extract_all.extracted, c.in-Ok-extract_all.ensures.extracted, refl)
