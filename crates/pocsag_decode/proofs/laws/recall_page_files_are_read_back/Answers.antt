use Rattle.pocsag_decode.proofs.Prelude.{false, true}
use Rattle.pocsag_decode.proofs.PageRows.{pages_back, read_back}
use Rattle.pocsag_decode.proofs.laws.recall_page_files_are_read_back.Goals as goal

pub returns-clause-round : goal.returns-clause-round
returns-clause-round c = read_back

pub returns-clause-pages : goal.returns-clause-pages
returns-clause-pages c = λ ps good few texts. pages_back false ps good.each (λ e. good) few texts

pub returns-clause-queues : goal.returns-clause-queues
returns-clause-queues c = λ ps fine few texts. pages_back true ps fine (λ e. absurd (cc)) few texts
