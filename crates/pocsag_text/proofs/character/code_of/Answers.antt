use Rattle.pocsag_text.proofs.Prelude.{arith}
use Rattle.pocsag_text.proofs.Codes.{code_missing, code_there, in_table}
use Rattle.pocsag_text.proofs.character.code_of.Goals as goal

pub returns-then-code-lt-NO_CODE : goal.returns-then-code-lt-NO_CODE
returns-then-code-lt-NO_CODE c = code_there c.args.byte _ (in_table c.args.byte (omega arith)) c.if-code-lt-NO_CODE.true

pub returns-else-code-lt-NO_CODE : goal.returns-else-code-lt-NO_CODE
returns-else-code-lt-NO_CODE c = code_missing c.args.byte _ (in_table c.args.byte (omega arith)) (omega arith)
