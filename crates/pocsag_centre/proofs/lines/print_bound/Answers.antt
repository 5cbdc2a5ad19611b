use Rattle.pocsag_centre.proofs.Prelude.{bound_text}
use Rattle.pocsag_centre.proofs.lines.print_bound.Goals as goal

pub returns-in-Open-clause-delivers : goal.returns-in-Open-clause-delivers
unfolding bound_text
returns-in-Open-clause-delivers g c = λ is_known. rw c.in-Open.is (c.print_numbers.ensures.delivers is_known)

pub returns-in-Closed-clause-delivers : goal.returns-in-Closed-clause-delivers
unfolding bound_text
returns-in-Closed-clause-delivers g c = λ is_known. rw c.in-Closed.is (c.print_numbers-in-Closed.ensures.delivers is_known)

pub returns-in-Idle-clause-delivers : goal.returns-in-Idle-clause-delivers
unfolding bound_text
returns-in-Idle-clause-delivers g c = λ is_known. rw c.in-Idle.is (c.print_numbers-in-Idle.ensures.delivers is_known)
