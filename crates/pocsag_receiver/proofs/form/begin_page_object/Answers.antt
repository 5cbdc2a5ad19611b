use Rattle.pocsag_receiver.proofs.Prelude.{sym, ap, ◌∙◌, subst, refl, IsAscii, message_read}
use Rattle.std.proofs.lemmas.Str.{IsUtf8-from_ascii}
use Rattle.pocsag_receiver.proofs.Received.{passed_on}
use Rattle.pocsag_receiver.proofs.form.begin_page_object.Goals as goal

pub unreachable-requires : goal.unreachable-requires
unreachable-requires c =
    let ascii = passed_on _ _ _ _ _ c.map_err.ensures.cases c.map_err.ensures.variant c.in_ok-message.was c.message_read.ensures.ascii in
    c.in_default.ensures.cases.0 (IsUtf8-from_ascii _ (subst IsAscii (sym c.as_slice.ensures.value) ascii))

pub returns-clause-before : goal.returns-clause-before
returns-clause-before c =
    rw (
      c.in_ok-string-2.ensures.room.0,
      c.in_ok-key-4.ensures.room.0,
      c.in_ok-string.ensures.room.0,
      c.in_ok-key-3.ensures.room.0,
      c.in_ok-u64-2.ensures.room.0,
      c.in_ok-key-2.ensures.room.0,
      c.in_ok-u64.ensures.room.0,
      c.in_ok-key.ensures.room.0,
      c.in_ok-begin_object.ensures.room.0,
    ) c.new-writer.ensures.before

pub returns-clause-begun : goal.returns-clause-begun
returns-clause-begun c = λ others.
    let text = passed_on _ _ _ _ _ c.map_err.ensures.cases c.map_err.ensures.variant c.in_ok-message.was c.message_read.ensures.text in
    let message =
    c.in-Ok.ensures.cases.0
    ∙ (c.as_slice.ensures.value ∙ (text ∙ ap (message_read c.args.texts c.args.page.now.function) c.as_slice-items.ensures)) in
    rw (
      c.in_ok-string-2.ensures.ok,
      c.in_ok-key-4.ensures.ok,
      c.in_ok-string.ensures.ok,
      c.in_ok-key-3.ensures.ok,
      c.in_ok-u64-2.ensures.ok,
      c.in_ok-key-2.ensures.ok,
      c.in_ok-u64.ensures.ok,
      c.in_ok-key.ensures.ok,
      c.in_ok-begin_object.ensures.ok,
      c.new-writer.ensures.tokens,
      message,
      c.kind_read.ensures,
      c.as_slice-items.ensures,
      c.from.ensures,
      c.from-2.ensures,
    ) refl
