use Rattle.pocsag_c.proofs.Prelude.{◌≡◌, ◌∙◌, ℕ, List, Vec, Result, Ok, Err, IfOk, ap, sym, Global, good_page, page_of_fields}
use Rattle.std.specs.Fmt.{decimal}
use Rattle.pocsag_c.specs.Records.{IsRecordOf, word_of_kind}
use Rattle.pocsag_c.proofs.Records.{read_behind}
use Rattle.pocsag_c.proofs.page.record_spelled.Goals as goal

pub record_text-requires : goal.record_text-requires
record_text-requires c =
    let good = good_page c.in_ok-page.page c.in_ok-page.ensures.good in
    record { function = good.function; items = good.small }

of_text : {E : Type 0} (made : Result (Vec ℕ Global) E) (P Q : List ℕ → Type 0) → ((items : List ℕ) → P items → Q items) →
    IfOk made (λ text. P text.items) → IfOk made (λ text. Q text.items)
of_text (Ok text) P Q so is = so text.items is
of_text (Err e) P Q so is = tt

pub returns-clause-written : goal.returns-clause-written
returns-clause-written c =
    let page = c.in_ok-page.page in
    let message = c.args.message.now in
    let kind = c.word_of_kind.result.now in
    let spelled : page_of_fields (decimal c.args.address) (word_of_kind c.args.kind) message ≡ Ok page =
    sym
    (ap (λ (a : List ℕ). page_of_fields a kind message) (c.as_bytes-address.ensures.value ∙ c.format.ensures.text)
    ∙ ap (λ (k : List ℕ). page_of_fields (decimal c.args.address) k message) c.word_of_kind.ensures)
    ∙ c.in_ok-page.ensures.ok in
    of_text c.record_text.result _ (IsRecordOf c.args.address c.args.kind message)
    (λ items written. record {
      page = page;
      spelled = spelled;
      written = written;
      read_behind = read_behind page items written
          (c.recall_pages_of_files_are_spellable.ensures.fields (decimal c.args.address) (word_of_kind c.args.kind) message page spelled)
          c.recall_page_files_are_read_back.ensures.round;
    })
    c.record_text.ensures.written
