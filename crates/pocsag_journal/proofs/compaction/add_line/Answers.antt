use Rattle.pocsag_journal.proofs.Prelude.{rules, ◌≡◌, ℕ, ◌-◌, List, ◌++◌, ap, length, subst, sym, ◌∙◌, Some, slice_get, fields_of, IsWholeLine}
use Rattle.pocsag_journal.proofs.KeptPages.{added_row, adds_line, no_edit, no_last, not_refused}
use Rattle.pocsag_journal.proofs.compaction.add_line.Goals as goal

pub returns-clause-added : goal.returns-clause-added
returns-clause-added c = λ is_added.
    let last : slice_get c.edit_row.new.book (length c.edit_row.new.book - 1) ≡ Some c.args.page.now = search rules in (
      c.in_ok-line.line.items,
      adds_line c.in_ok-line.line.items (fields_of c.in_ok-row.row) c.args.book.now c.edit_row.new.book c.args.page.now (added_row _ _ c.in_ok-row.ensures)
          (subst IsWholeLine c.as_slice.ensures.value (c.is_one_line.ensures.0 c.if-not-is_one_line.false)) c.in_ok-line.ensures
          c.in-Ok.ensures.made last,
      c.in_ok-extend_from_slice.ensures.items ∙ ap (λ (t : List ℕ). c.args.text.now.items ++ t) c.as_slice-2.ensures.value,
    )

pub returns-in-Err-2-clause-none : goal.returns-in-Err-2-clause-none
returns-in-Err-2-clause-none c = λ is_none.
    no_edit (fields_of c.in_ok-row.row) c.args.book.now c.args.page.now c.in_ok-row.ensures
    (λ after edit. not_refused _ _ c.in-Err.refusal c.in-Err.ensures.refused (sym c.wants_memory.ensures ∙ c.if-wants_memory.false) after edit)

pub returns-in_default-clause-none : goal.returns-in_default-clause-none
returns-in_default-clause-none c = λ is_none.
    no_last (fields_of c.in_ok-row.row) c.args.book.now c.edit_row.new.book c.args.page.now c.in_ok-row.ensures c.in-Ok.ensures.made
    (λ last. let t = last in search (rules, t))

pub returns-then-ne-clause-none : goal.returns-then-ne-clause-none
returns-then-ne-clause-none c = λ is_none.
    no_last (fields_of c.in_ok-row.row) c.args.book.now c.edit_row.new.book c.args.page.now c.in_ok-row.ensures c.in-Ok.ensures.made
    (λ last. let t = last in search (rules, t))
