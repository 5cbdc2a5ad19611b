use Rattle.pocsag_laws.proofs.Prelude.{some_file_order, one_file_order, legal_in_order}
use Rattle.pocsag_laws.proofs.order.pages_have_one_file_order.Goals as goal

pub returns-clause-some : goal.returns-clause-some
returns-clause-some c = λ R. let d = some_file_order R 0 in (d.words, d.order)

pub returns-clause-one : goal.returns-clause-one
returns-clause-one c = λ R T U first second. one_file_order first second

pub returns-clause-legal : goal.returns-clause-legal
returns-clause-legal c = legal_in_order
