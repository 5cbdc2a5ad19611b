use Rattle.pocsag_tree.proofs.Prelude.{err_from_is_err_and, certificate_at}
use Rattle.pocsag_tree.proofs.Rows.{reads_on, reads_no_further, reads_none}
use Rattle.pocsag_tree.proofs.reader.certificate.Goals as goal

pub returns-in_err-batches-clause-reads : goal.returns-in_err-batches-clause-reads
unfolding certificate_at
returns-in_err-batches-clause-reads g c = λ is_known.
    let p = err_from_is_err_and c.from_residual-in_err-batches.result c.from_residual-in_err-batches.ensures.1 in
    rw (p.1, p.2)
    (reads_on _ _ _ _ _ _ _ _ _ (c.in_ok-mark.ensures.reads is_known)
    (reads_on _ _ _ _ _ _ _ _ _ (c.in_ok-mark-2.ensures.reads is_known)
    (reads_on _ _ _ _ _ _ _ _ _ (c.in_ok-mark-3.ensures.reads is_known)
    (reads_on _ _ _ _ _ _ _ _ _ (c.in_ok-ranges.ensures.reads is_known)
    (reads_no_further _ _ _ _ _ _ _ (c.in_err-batches.ensures.reads is_known))))))

pub returns-in_err-tree-clause-reads : goal.returns-in_err-tree-clause-reads
unfolding certificate_at
returns-in_err-tree-clause-reads g c = λ is_known.
    let p = err_from_is_err_and c.from_residual-in_err-tree.result c.from_residual-in_err-tree.ensures.1 in
    rw (p.1, p.2)
    (reads_on _ _ _ _ _ _ _ _ _ (c.in_ok-mark.ensures.reads is_known)
    (reads_on _ _ _ _ _ _ _ _ _ (c.in_ok-mark-2.ensures.reads is_known)
    (reads_on _ _ _ _ _ _ _ _ _ (c.in_ok-mark-3.ensures.reads is_known)
    (reads_on _ _ _ _ _ _ _ _ _ (c.in_ok-ranges.ensures.reads is_known)
    (reads_on _ _ _ _ _ _ _ _ _ (c.in_ok-batches.ensures.reads is_known)
    (reads_no_further _ _ _ _ _ _ _ (c.in_err-tree.ensures.reads is_known)))))))

pub returns-clause-reads : goal.returns-clause-reads
unfolding certificate_at
returns-clause-reads g c = λ is_known.
    reads_on _ _ _ _ _ _ _ _ _ (c.in_ok-mark.ensures.reads is_known)
    (reads_on _ _ _ _ _ _ _ _ _ (c.in_ok-mark-2.ensures.reads is_known)
    (reads_on _ _ _ _ _ _ _ _ _ (c.in_ok-mark-3.ensures.reads is_known)
    (reads_on _ _ _ _ _ _ _ _ _ (c.in_ok-ranges.ensures.reads is_known)
    (reads_on _ _ _ _ _ _ _ _ _ (c.in_ok-batches.ensures.reads is_known)
    (reads_on _ _ _ _ _ _ _ _ _ (c.in_ok-tree.ensures.reads is_known) (reads_none _ _ _))))))
