use Rattle.pocsag_pages.proofs.Prelude.{◌≡◌, ◌∙◌, ◌∷◌, [], ◌++◌, List, length, sym, ap, append_assoc, arith, nil_from_length, into_iter_items, Page, left_after}
use Rattle.pocsag_pages.proofs.QueueParts.{due_less, keeps_on, left_over, sends_on}
use Rattle.pocsag_pages.proofs.queue.left_pages.Goals as goal

pub loop-page-2-preserved-in-Continue-branch-2 : goal.loop-page-2-preserved-in-Continue-branch-2
loop-page-2-preserved-in-Continue-branch-2 c =
    let at = c.loop-page-2 in
    let p = c.in-Some.page in
    let sent = c.args.sent.now in
    let steps = rw c.in-Some.is at c.next.ensures.steps in
    let step : into_iter_items at.page-iterator ≡ p ∷ into_iter_items c.next.new.self = steps.0 in
    record {
      count = omega (arith, at.invariant.count, steps.1, ap length step);
      due = due_less sent at.yielded at.due c.remove.new.self p at.invariant.due c.remove.ensures.updates;
      parts = at.invariant.parts ∙ ap (λ (v : List Page). at.yielded ++ v) step ∙ sym (append_assoc at.yielded (p ∷ []) (into_iter_items c.next.new.self));
      left = keeps_on sent at.yielded (into_iter_items c.next.new.self) _ at.left.items p
          (at.invariant.left ∙ ap (λ (v : List Page). at.left.items ++ left_after sent at.yielded v) step) c.push.new.self.items
          (sym (at.invariant.due p.address) ∙ sym c.remove.ensures.test ∙ c.if-not-remove.true) c.in_ok-push.ensures.items;
    }

pub loop-page-2-preserved : goal.loop-page-2-preserved
loop-page-2-preserved c =
    let at = c.loop-page-2 in
    let p = c.in-Some.page in
    let sent = c.args.sent.now in
    let steps = rw c.in-Some.is at c.next.ensures.steps in
    let step : into_iter_items at.page-iterator ≡ p ∷ into_iter_items c.next.new.self = steps.0 in
    record {
      count = omega (arith, at.invariant.count, steps.1, ap length step);
      due = due_less sent at.yielded at.due c.remove.new.self p at.invariant.due c.remove.ensures.updates;
      parts = at.invariant.parts ∙ ap (λ (v : List Page). at.yielded ++ v) step ∙ sym (append_assoc at.yielded (p ∷ []) (into_iter_items c.next.new.self));
      left = sends_on sent at.yielded (into_iter_items c.next.new.self) _ at.left.items p
          (at.invariant.left ∙ ap (λ (v : List Page). at.left.items ++ left_after sent at.yielded v) step)
          (sym (at.invariant.due p.address) ∙ sym c.remove.ensures.test ∙ c.if-not-remove.false);
    }

pub returns : goal.returns
returns c =
    let at = c.loop-page-2 in
    let over = rw c.in-None.is at c.next.ensures.steps in
    let step : into_iter_items at.page-iterator ≡ [] = nil_from_length _ (omega (arith, at.invariant.count, over.0)) in
    left_over c.args.sent.now at.yielded _ at.left.items
    (at.invariant.left ∙ ap (λ (v : List Page). at.left.items ++ left_after c.args.sent.now at.yielded v) step)
