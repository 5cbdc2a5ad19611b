use Rattle.pocsag_laws.proofs.PagesTakenOut.{page_taken_out}
use Rattle.pocsag_laws.proofs.TestedPages.{tested}
use Rattle.pocsag_laws.proofs.Fronts.{front_of_front}
use Rattle.pocsag_laws.proofs.laws.fewer_pages_need_no_more.Goals as goal

pub returns-clause-one : goal.returns-clause-one
returns-clause-one c = λ end before after p b apart sent. page_taken_out end sent.0 b before after p apart sent.1

pub returns-clause-some : goal.returns-clause-some
returns-clause-some c = λ end R stays b apart sent. tested end sent.0 b R stays apart sent.1

pub returns-clause-fewest_without_one : goal.returns-clause-fewest_without_one
returns-clause-fewest_without_one c = λ end before after p a b apart few many.
    few.least b (page_taken_out end many.sendable.0 b before after p apart many.sendable.1)

pub returns-clause-fewest_without_some : goal.returns-clause-fewest_without_some
returns-clause-fewest_without_some c = λ end R stays a b apart few many.
    few.least b (tested end many.sendable.0 b R stays apart many.sendable.1)

pub returns-clause-first : goal.returns-clause-first
returns-clause-first c = λ end R j k b apart h sent. front_of_front end sent.0 b R j k apart h sent.1

pub returns-clause-fewest_of_first : goal.returns-clause-fewest_of_first
returns-clause-fewest_of_first c = λ end R j k a b apart h few many.
    few.least b (front_of_front end many.sendable.0 b R j k apart h many.sendable.1)
