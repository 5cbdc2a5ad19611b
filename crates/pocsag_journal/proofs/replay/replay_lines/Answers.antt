use Rattle.pocsag_journal.proofs.Prelude.{Bool, List, arith, length, subst, sym, fields_of, Page, MakesLine, Replays, IsBefore}
use Rattle.pocsag_journal.proofs.Replays.{before_first, behind_first, made_bad, made_end, made_first, made_on, shorter}
use Rattle.pocsag_journal.proofs.replay.replay_lines.Goals as goal

pub loop-parts-init : goal.loop-parts-init
loop-parts-init c =
    let bytes = c.args.bytes.now in
    let rest = c.args.behind.now in
    let start = before_first bytes rest c.reader_of-reader.result c.requires.first c.reader_of-reader.ensures.before in
    let stands = behind_first fields_of bytes rest c.in_ok-_first._first c.read_row.new.reader c.requires.first
    (c.in_ok-_first.ensures.takes bytes start) c.in_ok-_first.ensures.stands in
    record { made = made_first bytes rest c.in_ok-draft.draft c.requires.first c.in_ok-draft.ensures; stands = stands.0; before = stands.1 }

pub returns-in-None-clause-read : goal.returns-in-None-clause-read
returns-in-None-clause-read c =
    subst (λ (pages : List Page). Replays c.args.bytes.now c.loop-parts.edits (length c.loop-parts.rest.now) pages) (sym c.in_ok-book-in-None.ensures)
    (made_end c.args.bytes.now c.loop-parts.rest.now c.loop-parts.edits c.loop-parts.draft c.loop-parts.invariant.made c.in-None.ensures.none)

pub overflow_add-result : goal.overflow_add-result
overflow_add-result c = let few = c.loop-parts.invariant.made.few in let most = c.requires.few in omega (arith, few, most)

pub returns-then-not-made-clause-told : goal.returns-then-not-made-clause-told
returns-then-not-made-clause-told c =
    made_bad c.args.bytes.now c.loop-parts.rest.now c.in-Some.parts.0.now c.in-Some.parts.1.now c.loop-parts.edits
    c.loop-parts.draft c.replay_line.new.draft c.loop-parts.invariant.made c.in-Some.ensures.parts c.in-Some.ensures.line
    (subst (λ (made : Bool). MakesLine made c.in-Some.parts.0.now c.loop-parts.draft c.replay_line.new.draft) c.if-not-made.true
    (c.in_ok-made.ensures.made c.in-Some.parts.1.now (subst (IsBefore c.loop-parts.reader) c.in-Some.ensures.parts c.loop-parts.invariant.before)))

pub overflow_add-edits : goal.overflow_add-edits
overflow_add-edits c = let few = c.loop-parts.invariant.made.few in let most = c.requires.few in omega (arith, few, most)

pub loop-parts-smaller : goal.loop-parts-smaller
loop-parts-smaller c =
    shorter c.loop-parts.rest.now c.in-Some.parts.0.now c.in-Some.parts.1.now c.in-Some.ensures.parts c.in-Some.ensures.line

pub loop-parts-preserved : goal.loop-parts-preserved
loop-parts-preserved c =
    let before = subst (IsBefore c.loop-parts.reader) c.in-Some.ensures.parts c.loop-parts.invariant.before in
    record {
      made = made_on c.args.bytes.now c.loop-parts.rest.now c.in-Some.parts.0.now c.in-Some.parts.1.now c.loop-parts.edits
          c.loop-parts.draft c.replay_line.new.draft c.loop-parts.invariant.made c.in-Some.ensures.parts c.in-Some.ensures.line
          (subst (λ (made : Bool). MakesLine made c.in-Some.parts.0.now c.loop-parts.draft c.replay_line.new.draft) c.if-not-made.false
          (c.in_ok-made.ensures.made c.in-Some.parts.1.now before));
      stands = c.in_ok-made.ensures.stands c.if-not-made.false;
      before = c.in_ok-made.ensures.behind c.in-Some.parts.1.now before c.if-not-made.false;
    }
