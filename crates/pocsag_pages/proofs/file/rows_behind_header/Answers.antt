use Rattle.pocsag_pages.proofs.Prelude.{◌≡◌, ◌∙◌, Bool, true, false, List, ℕ, arith, length, ◌≤◌, inr, refl, sym, ap, input_limit, Row, rows_of, held_pages, pages_of_all_rows, up_to_wide}
use Rattle.pocsag_pages.proofs.Judgements.{after_header, large_file, no_header, small_file}
use Rattle.pocsag_pages.proofs.WideRecords.{same_verdict}
use Rattle.pocsag_pages.proofs.file.rows_behind_header.Goals as goal

-- the pages are those of the records that are read
held_read : (may_wait : Bool) (bytes : List ℕ) (rows read : List Row) → length bytes ≤ input_limit → rows ≡ up_to_wide (rows_of bytes) →
    rows ≡ read → held_pages may_wait bytes ≡ pages_of_all_rows may_wait read
held_read may_wait bytes rows read few of is =
    small_file may_wait bytes few ∙ sym (same_verdict may_wait (rows_of bytes)) ∙ ap (pages_of_all_rows may_wait) (sym of ∙ is)

pub returns-then-bytes-gt-FILE_LIMIT-clause-err : goal.returns-then-bytes-gt-FILE_LIMIT-clause-err
returns-then-bytes-gt-FILE_LIMIT-clause-err c =
    let large = λ (w : Bool). large_file w c.args.bytes.now (omega arith) in
    inr (large false, large true)

pub returns-then-not-may_have-clause-err : goal.returns-then-not-may_have-clause-err
returns-then-not-may_have-clause-err c =
    let bytes = c.args.bytes.now in
    let none = c.in_ok-may_have.ensures c.if-not-may_have.true in
    let other = λ (w : Bool). small_file w bytes (omega arith) ∙ no_header w (rows_of bytes) none in
    inr (other false, other true)

pub returns-then-not-found-clause-err : goal.returns-then-not-found-clause-err
returns-then-not-found-clause-err c =
    let none = c.in_ok-found.ensures.none c.if-not-found.true in
    let other = λ (w : Bool). held_read w c.args.bytes.now _ _ (omega arith) c.of-reader.ensures none ∙ no_header w _ refl in
    inr (other false, other true)

pub returns-then-not-is_header_row-clause-err : goal.returns-then-not-is_header_row-clause-err
returns-then-not-is_header_row-clause-err c =
    let found = c.in_ok-found.ensures.found c.if-not-found.false in
    let unlike = sym c.is_header_row.ensures ∙ c.if-not-is_header_row.true in
    let other = λ (w : Bool). held_read w c.args.bytes.now _ _ (omega arith) c.of-reader.ensures found ∙ no_header w _ unlike in
    inr (other false, other true)

pub returns-clause-round : goal.returns-clause-round
returns-clause-round c =
    held_read false _ _ _ (omega arith) c.of-reader.ensures (c.in_ok-found.ensures.found c.if-not-found.false)
    ∙ after_header false _ _ (sym c.is_header_row.ensures ∙ c.if-not-is_header_row.false)

pub returns-clause-queue : goal.returns-clause-queue
returns-clause-queue c =
    held_read true _ _ _ (omega arith) c.of-reader.ensures (c.in_ok-found.ensures.found c.if-not-found.false)
    ∙ after_header true _ _ (sym c.is_header_row.ensures ∙ c.if-not-is_header_row.false)
