use Rattle.pocsag_journal.proofs.Prelude.{ℕ, List, ◌++◌, length, drop, ap, sym, ◌∙◌, true≢false, Some, None, codes, Decides-eqb, starts_is, strip_prefix_is, IsBegun}
use Rattle.pocsag_journal.proofs.Beginnings.{cut_of, not_begun}
use Rattle.pocsag_journal.proofs.Replays.{nothing_read}
use Rattle.pocsag_journal.proofs.replay.replay.Goals.{After-starts_with-2}
use Rattle.pocsag_journal.proofs.replay.replay.Goals as goal

pub returns-then-starts_with-clause-read : goal.returns-then-starts_with-clause-read
returns-then-starts_with-clause-read c =
    let bytes = c.args.bytes.now in
    let line = c.first_line-first.result.now in
    let starts = starts_is Decides-eqb line bytes c.starts_with.result c.starts_with.ensures.value in
    nothing_read bytes c.new.result c.new.ensures
    (cut_of bytes line (drop (length bytes) line) c.first_line-first.ensures (starts.0 c.if-starts_with.true)
    (strip_prefix_is Decides-eqb bytes line None c.in_default.ensures.cases))

none_begun : (c : After-starts_with-2) → ¬ IsBegun c.args.bytes.now
none_begun c =
    let bytes = c.args.bytes.now in
    let line = c.first_line-first.result.now in
    not_begun bytes line c.starts_with.result c.first_line-first.ensures (strip_prefix_is Decides-eqb bytes line None c.in_default.ensures.cases)
    (starts_is Decides-eqb line bytes c.starts_with.result c.starts_with.ensures.value).1 c.if-starts_with.false

pub returns-then-starts_with-2-clause-told : goal.returns-then-starts_with-2-clause-told
returns-then-starts_with-2-clause-told c =
    let named = starts_is Decides-eqb c.args.bytes.now (codes "pocsag journal,") c.starts_with-2.result c.starts_with-2.ensures.value in (
      none_begun (goal.at.returns-then-starts_with-2-clause-told c).After-starts_with-2,
      (drop 15 c.args.bytes.now, named.0 c.if-starts_with-2.true),
    )

pub returns-clause-told : goal.returns-clause-told
returns-clause-told c =
    let named = starts_is Decides-eqb c.args.bytes.now (codes "pocsag journal,") c.starts_with-2.result c.starts_with-2.ensures.value in (
      none_begun (goal.at.returns-clause-told c).After-starts_with-2,
      λ h. true≢false (sym (named.1 h.0 h.1) ∙ c.if-starts_with-2.false),
    )

pub replay_lines-requires-clause-first : goal.replay_lines-requires-clause-first
replay_lines-requires-clause-first c =
    strip_prefix_is Decides-eqb c.args.bytes.now c.first_line-first.result.now (Some c.in-Some.behind) c.in-Some.ensures.cases
    ∙ ap (λ (l : List ℕ). l ++ c.in-Some.behind.now) c.first_line-first.ensures
