use Rattle.pocsag_journal.proofs.Prelude.{◌≡◌, drop}
use Rattle.pocsag_journal.proofs.draft.DraftEditable.take_first.Given as goal

abbrev pub invariant-loop : goal.invariant-loop
invariant-loop l = l.self ≡ drop l.counter l.initial.self
