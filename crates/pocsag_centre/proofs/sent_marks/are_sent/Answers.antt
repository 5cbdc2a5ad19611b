use Rattle.pocsag_centre.proofs.Prelude.{◌≡◌, ◌≢◌, [], ◌∷◌, List, Bool, false, Some, refl, sym, ap, subst, ◌∙◌, arith, length, err_from_is_err_and, Page, ReadsAs}
use Rattle.std.specs.List.{IsAnyAnswer}
use Rattle.std.proofs.Math.Bool.{beq}
use Rattle.std.proofs.lemmas.List.{length-replicate}
use Rattle.pocsag_decode.specs.PageReaders.{pages_left}
use Rattle.pocsag_centre.proofs.SentMarks.{AreCompared, all_compared, none_compared, one_more_compared, too_few, too_many}
use Rattle.pocsag_centre.proofs.sent_marks.are_sent.Goals.{In-Some}
use Rattle.pocsag_centre.proofs.sent_marks.are_sent.Goals as goal

-- the first page is the first of those that were sent
first_sent : (c : In-Some) → (sent : List Page) → ReadsAs c.args.bytes.now sent → sent ≡ c.in-Some.first ∷ pages_left c.next_page.new.self
first_sent c sent reads =
    let first : pages_left c.new-reader.result ≡ c.in-Some.first ∷ pages_left c.next_page.new.self = rw c.in-Some.is at c.in_ok-first.ensures.next in
    sym (c.new-reader.ensures.left sent reads) ∙ first

some_sent : (c : In-Some) → (sent : List Page) → ReadsAs c.args.bytes.now sent → sent ≢ []
some_sent c sent reads none = cc (first_sent c sent reads)

pub returns-in_err-first-clause-memory : goal.returns-in_err-first-clause-memory
returns-in_err-first-clause-memory c =
    let p = err_from_is_err_and c.from_residual.result c.from_residual.ensures.1 in
    rw p.1 (λ sent reads none. c.in_err-first.ensures.memory (c.new-reader.ensures.left sent reads ∙ none))

pub returns-in_default-clause-among : goal.returns-in_default-clause-among
returns-in_default-clause-among c = λ sent reads.
    let none : pages_left c.new-reader.result ≡ [] = rw c.in_default.is at c.in_ok-first.ensures.next in (
      λ yes. cc,
      λ among. absurd (omega (arith, c.requires.round.some, among.as_many, ap length (sym (c.new-reader.ensures.left sent reads) ∙ none))),
    )

pub returns-in_err-places-clause-memory : goal.returns-in_err-places-clause-memory
returns-in_err-places-clause-memory c =
    let p = err_from_is_err_and c.from_residual-in_err-places.result c.from_residual-in_err-places.ensures.1 in
    rw p.1 (some_sent (goal.at.returns-in_err-places-clause-memory c).In-Some)

pub returns-in_err-marks-clause-memory : goal.returns-in_err-marks-clause-memory
returns-in_err-marks-clause-memory c =
    let p = err_from_is_err_and c.from_residual-in_err-marks.result c.from_residual-in_err-marks.ensures.1 in
    rw p.1 (some_sent (goal.at.returns-in_err-marks-clause-memory c).In-Some)

pub returns-in_err-next-clause-memory : goal.returns-in_err-next-clause-memory
returns-in_err-next-clause-memory c =
    let p = err_from_is_err_and c.from_residual-in_err-next.result c.from_residual-in_err-next.ensures.1 in
    rw p.1 (some_sent (goal.at.returns-in_err-next-clause-memory c).In-Some)

pub pages-init : goal.pages-init
pages-init c =
    let round = c.args.round.now in
    let reader = c.next_page.new.self in
    let unset = c.in_ok-marks.ensures.items_if_clones_equal (λ y same. same) in
    record {
      as_many = ap length unset ∙ length-replicate (length round) false;
      compared = λ sent reads.
          subst (λ (marks : List Bool). AreCompared round sent (Some c.in-Some.first) reader 0 marks) (sym unset)
          (none_compared round sent c.in-Some.first reader (first_sent (goal.at.pages-init c).In-Some sent reads));
    }

pub pages-preserved : goal.pages-preserved
pages-preserved c = record {
  as_many = c.mark_sent.ensures.as_many;
  compared = λ sent reads.
      let round = c.args.round.now in
      let loop = c.pages in
      one_more_compared round sent c.in-Some-next.page c.in_ok-next.next loop.reader c.next_page-in-pages.new.self loop._compared
      loop.marks.items c.mark_sent.new.marks.items c.in_ok-next.ensures.next c.mark_sent.ensures.marked
      (rw c.in-Some-next.is at (loop.invariant.compared sent reads));
}

pub returns-in_default-next-clause-among : goal.returns-in_default-next-clause-among
returns-in_default-next-clause-among c = λ sent reads.
    let round = c.args.round.now in
    let loop = c.pages in (
      λ yes. cc,
      λ among.
          absurd
          (too_few round sent loop.reader loop._compared loop.marks.items (rw c.in_default-next.is at (loop.invariant.compared sent reads))
          c.pages-test.true among),
    )

pub returns-in-Some-next-2-clause-among : goal.returns-in-Some-next-2-clause-among
returns-in-Some-next-2-clause-among c = λ sent reads.
    let round = c.args.round.now in
    let loop = c.pages in (
      λ yes. cc,
      λ among.
          absurd
          (too_many round sent loop.reader loop._compared loop.marks.items c.in-Some-next-2.field-0
          (rw c.in-Some-next-2.is at (loop.invariant.compared sent reads))
          c.pages-test.false among),
    )

pub returns-clause-among : goal.returns-clause-among
returns-clause-among c = λ sent reads.
    let round = c.args.round.now in
    let loop = c.pages in
    all_compared round sent loop.reader loop._compared loop.marks.items
    (rw c.in-None.is at (loop.invariant.compared sent reads))
    (omega arith) beq refl refl c.contains.result
    (subst (λ (marks : List Bool). IsAnyAnswer (λ y t. beq y false ≡ t) marks c.contains.result) c.as_slice-in-None.ensures.value
    c.contains.ensures.cases)
