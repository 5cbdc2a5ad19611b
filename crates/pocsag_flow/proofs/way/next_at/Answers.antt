use Rattle.pocsag_flow.proofs.Prelude.{◌≡◌, ◌+◌, ◌/◌, ◌%◌, true, sym, ◌∙◌, arith, start_of}
use Rattle.pocsag_flow.proofs.Places.{at_bare, at_other, at_own, frame_full, none_behind, none_other, none_to_bare, rest_full}
use Rattle.pocsag_flow.proofs.way.next_at.Goals as goal
use Rattle.pocsag_flow.proofs.way.next_at.Goals.{else-start-slot-via-then-start-slot+else-rest-lt-RESTS, else-start-slot-via-else-start-slot}

pub returns-then-class-ge-FIRST_BARE-clause-none : goal.returns-then-class-ge-FIRST_BARE-clause-none
returns-then-class-ge-FIRST_BARE-clause-none c between above below =
    none_behind c.args.class between c.args.slot (omega arith) c.requires.slot c.requires.at above below

pub returns-then-rest-lt-RESTS-clause-at : goal.returns-then-rest-lt-RESTS-clause-at
returns-then-rest-lt-RESTS-clause-at c h =
    at_own c.args.class c.args.slot (omega arith) (sym c.start.ensures.value ∙ c.if-start-slot.true)
    (omega (arith, rest_full c.args.class (omega arith), c.rest.ensures.value))

pub returns-then-frame-eq8-clause-at : goal.returns-then-frame-eq8-clause-at
returns-then-frame-eq8-clause-at c h = at_bare c.args.slot c.requires.slot

pub returns-then-frame-eq8-clause-none : goal.returns-then-frame-eq8-clause-none
returns-then-frame-eq8-clause-none c between above below =
    let last : start_of c.args.class true ≡ c.args.slot → c.args.class % 16 ≡ 15 =
    λ own. elim c.else-start-slot.branch [
      | else-start-slot-via-then-start-slot+else-rest-lt-RESTS w ↦
          omega (arith, rest_full c.args.class (omega arith), w.rest.ensures.value)
      | else-start-slot-via-else-start-slot w ↦ omega (arith, own, c.start.ensures.value)
    ] in
    none_to_bare c.args.class between c.args.slot (omega arith) c.requires.slot c.requires.at last
    (omega (arith, frame_full c.args.class (omega arith), c.frame-frame.ensures.value)) above below

pub returns-else-frame-eq8-clause-later : goal.returns-else-frame-eq8-clause-later
returns-else-frame-eq8-clause-later c =
    omega (arith, frame_full c.args.class (omega arith), c.frame-frame.ensures.value)

pub returns-else-frame-eq8-clause-at : goal.returns-else-frame-eq8-clause-at
returns-else-frame-eq8-clause-at c h = at_other (c.frame-frame.result + 1) c.args.slot (omega arith) c.requires.slot

pub returns-else-frame-eq8-clause-none : goal.returns-else-frame-eq8-clause-none
returns-else-frame-eq8-clause-none c between above below =
    let last : start_of c.args.class true ≡ c.args.slot → c.args.class % 16 ≡ 15 =
    λ own. elim c.else-start-slot.branch [
      | else-start-slot-via-then-start-slot+else-rest-lt-RESTS w ↦
          omega (arith, rest_full c.args.class (omega arith), w.rest.ensures.value)
      | else-start-slot-via-else-start-slot w ↦ omega (arith, own, c.start.ensures.value)
    ] in
    let frame : c.frame-frame.result ≡ c.args.class / 16 =
    c.frame-frame.ensures.value ∙ frame_full c.args.class (omega arith) in
    none_other c.args.class between c.args.slot (omega arith) c.requires.slot c.requires.at last (omega arith) above
    (rw frame at below)
