use Rattle.pocsag_findings.proofs.Prelude.{refl, All-push, MayDescend}
use Rattle.pocsag_findings.proofs.Children.{unjudged_more}
use Rattle.pocsag_findings.proofs.level.unjudged_children.Goals as goal

pub loop-child-preserved : goal.loop-child-preserved
loop-child-preserved c =
    record {
      found =
          λ k end b depth l above. unjudged_more k end b depth l above c.deref-child-items.result.now c.loop-child.child-index
          c.child-item.result _ _ _ _ c.loop-child-test.true c.child-item.is refl refl c.in_ok-push-in-Cut.ensures.items
          (c.loop-child.invariant.found k end b depth l above);
      allowed =
          λ k b l. rw c.in_ok-push-in-Cut.ensures.items
          (All-push (λ child. MayDescend k b l child.descent) _ _ (c.loop-child.invariant.allowed k b l) tt);
    }
