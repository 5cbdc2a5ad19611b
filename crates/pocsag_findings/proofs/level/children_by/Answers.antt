use Rattle.pocsag_findings.proofs.Prelude.{arith, refl, All-get_or, All-push, MayTake, MayDescend}
use Rattle.pocsag_findings.proofs.Children.{way_more}
use Rattle.pocsag_findings.proofs.level.children_by.Goals as goal

pub loop-index-preserved : goal.loop-index-preserved
loop-index-preserved c =
    record {
      found =
          λ k end b depth l above. way_more k end b depth l above c.args.ways.now c.args.children.now c.loop-index.index _ _
          c.index-children-index.result _ _ _ _ (omega arith) c.loop-index-test.true refl c.index-children-index.is refl refl
          c.in_ok-push.ensures.items (c.loop-index.invariant.found k end b depth l above);
      allowed =
          λ k b l batches ways. rw c.in_ok-push.ensures.items (All-push (λ child. MayDescend k b l child.descent) _ _
          (c.loop-index.invariant.allowed k b l batches ways)
          (batches, All-get_or (MayTake k l) c.args.ways.now c.loop-index.index _ (omega arith) ways));
    }
