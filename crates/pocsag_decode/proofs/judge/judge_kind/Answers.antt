use Rattle.pocsag_decode.proofs.Prelude.{ap, sym, true≢false, Idle, Address, Message, is_message}
use Rattle.pocsag_decode.proofs.Fine.{fine_kind, no_page}
use Rattle.pocsag_decode.proofs.judge.judge_kind.Goals as goal

pub returns-in-Idle-clause-judged : goal.returns-in-Idle-clause-judged
returns-in-Idle-clause-judged c =
    fine_kind c.args.place c.args.in_page c.args.codeword c.requires.other c.requires.codeword Idle c.in-Idle.ensures.kind
    (λ m. absurd (true≢false (sym m)))

pub returns-in-Address-clause-judged : goal.returns-in-Address-clause-judged
returns-in-Address-clause-judged c =
    fine_kind c.args.place c.args.in_page c.args.codeword c.requires.other c.requires.codeword
    (Address c.in-Address.high c.in-Address.function) c.in-Address.ensures.kind (λ m. absurd (true≢false (sym m)))

pub returns-in-Message-clause-judged : goal.returns-in-Message-clause-judged
returns-in-Message-clause-judged c =
    fine_kind c.args.place c.args.in_page c.args.codeword c.requires.other c.requires.codeword (Message c.in-Message.field-0)
    c.in-Message.ensures.kind (λ m. c.if-in_page.true)

pub returns-in-Message-2-clause-judged : goal.returns-in-Message-2-clause-judged
returns-in-Message-2-clause-judged c = λ ws h.
    rw c.index_at.ensures
    (no_page c.args.place c.args.in_page c.args.codeword c.requires.other c.requires.codeword (sym (ap is_message c.in-Message.ensures.kind))
    c.if-in_page.false ws h)
