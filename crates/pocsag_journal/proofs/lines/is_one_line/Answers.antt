use Rattle.pocsag_journal.proofs.Prelude.{◌≡◌, [], append-nil}
use Rattle.pocsag_journal.proofs.TextLines.{alone, is_none, no_whole_line, none_is, nothing_behind}
use Rattle.pocsag_journal.proofs.lines.is_one_line.Goals as goal

pub returns-in-Some : goal.returns-in-Some
returns-in-Some c = (
  λ empty. alone c.args.bytes.now c.in-Some.parts.0.now c.in-Some.parts.1.now c.in-Some.ensures.parts c.in-Some.ensures.line
      (is_none c.in-Some.parts.1.now c.is_empty.result c.is_empty.ensures empty),
  λ whole.
      let none : c.in-Some.parts.1.now ≡ [] =
      nothing_behind c.args.bytes.now c.in-Some.parts.0.now c.in-Some.parts.1.now c.in-Some.ensures.parts c.in-Some.ensures.line whole in
      none_is c.in-Some.parts.1.now c.is_empty.result c.is_empty.ensures none,
)

pub returns-in-None : goal.returns-in-None
returns-in-None c = (
  λ never. absurd (cc never),
  λ whole. absurd (no_whole_line c.args.bytes.now [] c.args.bytes.now whole c.in-None.ensures.none (append-nil c.args.bytes.now)),
)
