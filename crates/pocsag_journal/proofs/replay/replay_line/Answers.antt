use Rattle.pocsag_journal.proofs.Prelude.{sym, ◌∙◌}
use Rattle.pocsag_journal.proofs.Replays.{behind_edit, edit_made, edit_refused, none_made, other_text}
use Rattle.pocsag_journal.proofs.replay.replay_line.Goals as goal

pub returns-in-None-clause-made : goal.returns-in-None-clause-made
returns-in-None-clause-made c = λ rest before.
    none_made c.args.line.now rest c.read_row.new.reader c.args.draft.now c.args.draft.now (rw c.in-None.is at c.in_ok-row.ensures.takes _ before)

pub returns-then-not-same-clause-made : goal.returns-then-not-same-clause-made
returns-then-not-same-clause-made c = λ rest before.
    other_text c.args.line.now rest _ c.read_row.new.reader c.args.draft.now c.args.draft.now
    (rw c.in-Some.is at c.in_ok-row.ensures.takes _ before)
    (rw (c.as_slice.ensures.value, c.in_ok-text.ensures) at (sym c.eq-same.ensures ∙ c.if-not-same.true))

pub returns-in-Ok-clause-made : goal.returns-in-Ok-clause-made
returns-in-Ok-clause-made c = λ rest before.
    edit_made c.args.line.now _ c.args.draft.now _
    (rw (c.as_slice.ensures.value, c.in_ok-text.ensures) at (sym c.eq-same.ensures ∙ c.if-not-same.false)) c.in-Ok.ensures.made

pub returns-in-Ok-clause-behind : goal.returns-in-Ok-clause-behind
returns-in-Ok-clause-behind c = λ rest before made.
    behind_edit c.args.line.now rest _ c.read_row.new.reader c.args.draft.now _ (rw c.in-Some.is at c.in_ok-row.ensures.takes _ before)
    (rw (c.as_slice.ensures.value, c.in_ok-text.ensures) at (sym c.eq-same.ensures ∙ c.if-not-same.false)) c.in-Ok.ensures.made

pub returns-clause-made : goal.returns-clause-made
returns-clause-made c = λ rest before.
    edit_refused c.args.line.now rest _ c.read_row.new.reader c.args.draft.now c.args.draft.now c.in-Err.refusal
    (rw c.in-Some.is at c.in_ok-row.ensures.takes _ before) c.in-Err.ensures.refused
    (sym c.wants_memory.ensures ∙ c.if-wants_memory.false)
