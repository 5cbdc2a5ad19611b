use Rattle.pocsag_journal.proofs.Prelude.{refl, fields_text, is_blank}
use Rattle.pocsag_journal.proofs.text.first_line.Goals as goal

pub returns : goal.returns
unfolding fields_text is_blank
returns c = refl
