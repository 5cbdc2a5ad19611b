use Rattle.pocsag_batch.proofs.Prelude.{◌≡◌, ℕ, List, map, sym, ap, ◌∙◌, kind_of, laid, laid_by}
use Rattle.pocsag_batch.proofs.Layouts.{list_batches}
use Rattle.pocsag_slots.proofs.Fewest.{laid_list_legal}
use Rattle.pocsag_batch.proofs.OrderLaws.{order_lays}
use Rattle.pocsag_batch.proofs.layout.lay_out.Goals as goal

pub new-requires-2 : goal.new-requires-2
new-requires-2 c =
    let R = c.args.round.now in
    let ws : List ℕ = c.in_ok-words.words in
    let first : map kind_of ws ≡ laid c.args.end R c.args.steps.now =
    c.in_ok-words.ensures.same ∙ c.new.ensures ∙ ap (λ v. laid_by R v c.args.steps.now) c.deref.ensures.value
    ∙ order_lays c.args.end R c.args.steps.now c.in_ok-order.order.items c.in_ok-order.ensures.order in
    list_batches c.args.end R c.requires.batches ws c.requires.few
    (laid_list_legal c.requires.table c.args.end c.requires.choice c.requires.batches c.args.steps.now R ws
    c.requires.some c.requires.classes c.requires.tour c.in_ok-words.ensures.codewords first)

pub returns-clause-first : goal.returns-clause-first
returns-clause-first c =
    ap (map kind_of) c.new-2.ensures ∙ c.in_ok-words.ensures.same ∙ c.new.ensures
    ∙ ap (λ v. laid_by c.args.round.now v c.args.steps.now) c.deref.ensures.value
    ∙ order_lays c.args.end c.args.round.now c.args.steps.now c.in_ok-order.order.items c.in_ok-order.ensures.order

pub returns-clause-legal : goal.returns-clause-legal
returns-clause-legal c k choice b some classes tour =
    laid_list_legal k c.args.end choice b c.args.steps.now c.args.round.now c.new-2.result some classes tour
    (rw c.new-2.ensures c.in_ok-words.ensures.codewords) (returns-clause-first c)

pub returns-clause-order : goal.returns-clause-order
returns-clause-order c order is =
    returns-clause-first c ∙ sym (order_lays c.args.end c.args.round.now c.args.steps.now order is)
