use Rattle.pocsag_decode.proofs.Prelude.{false, true}
use Rattle.pocsag_decode.proofs.SpellablePages.{page_spellable, pages_spellable}
use Rattle.pocsag_decode.proofs.laws.recall_pages_of_files_are_spellable.Goals as goal

pub returns-clause-fields : goal.returns-clause-fields
returns-clause-fields c = page_spellable

pub returns-clause-files : goal.returns-clause-files
returns-clause-files c = pages_spellable false

pub returns-clause-queues : goal.returns-clause-queues
returns-clause-queues c = pages_spellable true
