use Rattle.pocsag_decode.proofs.Restoration.{restores, undamaged}
use Rattle.pocsag_decode.proofs.laws.recall_repair_restores.Goals as goal

pub returns-clause-damaged : goal.returns-clause-damaged
returns-clause-damaged c = λ X T Y Z sent damaged repair. restores X T sent Y Z damaged repair

pub returns-clause-whole : goal.returns-clause-whole
returns-clause-whole c = λ X T Y sent repair. restores X T sent X Y (undamaged X T sent) repair
