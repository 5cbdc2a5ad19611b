use Rattle.pocsag_findings.proofs.Prelude.{◌≡◌, arith, false, nat_lt, sym, true, ◌∙◌, rules, nat_tests, append-nil, joined_none}
use Rattle.pocsag_findings.proofs.Shares.{share_next}
use Rattle.pocsag_findings.proofs.judgement.shares_at.Goals as goal
use Rattle.pocsag_findings.proofs.judgement.shares_at.Goals.{then-least-gt0+in_ok-push, else-least-gt0}

pub loop-class-init : goal.loop-class-init
loop-class-init c = c.new-found.ensures.items ∙ sym (joined_none _)

pub loop-class-preserved : goal.loop-class-preserved
loop-class-preserved c =
    share_next c.args.context.now.classes.now c.args.limits.now c.in-Overload.set c.loop-class.class c.least_by_class-least.result
    c.loop-class.found.items _ c.least_by_class-least.ensures c.loop-class.invariant
    (elim c.if-least-gt0.branch [
      | then-least-gt0+in_ok-push w ↦
          let some : nat_lt 0 c.least_by_class-least.result ≡ true = grind (arith, nat_tests) in
          rw some (search rules)
      | else-least-gt0 w ↦
          let none : nat_lt 0 c.least_by_class-least.result ≡ false = grind (arith, nat_tests) in
          rw (none, append-nil) (search rules)
    ])
