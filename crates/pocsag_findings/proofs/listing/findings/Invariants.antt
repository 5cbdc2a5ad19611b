use Rattle.pocsag_findings.proofs.Prelude.{◌≡◌, ◌++◌, length, bound_tree_of, findings_left, findings_of, all_stated}
use Rattle.pocsag_findings.proofs.listing.findings.Given as goal

-- the findings so far, and those that are left, are all of them
abbrev pub invariant-loop-found : goal.invariant-loop-found
invariant-loop-found l =
    all_stated l.found.items ++ findings_left l.walk
    ≡ findings_of l.fn.classes l.fn.certificate.end l.fn.certificate.batches l.fn.depth (bound_tree_of l.fn.certificate.tree)

abbrev pub decreases-loop-found : goal.decreases-loop-found
decreases-loop-found l = length (findings_left l.walk)
