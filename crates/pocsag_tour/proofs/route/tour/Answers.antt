use Rattle.pocsag_tour.proofs.Prelude.{slice_index, IsTrue, Result, Ok, Err, IfOk, IfErr}
use Rattle.pocsag_tour.proofs.CoverLemmas.{balanced_start}
use Rattle.pocsag_tour.proofs.Joined.{joined_open}
use Rattle.pocsag_tour.proofs.Tours.{reached_closed, reached_members, reached_start, refused, runs_start, tour_of}
use Rattle.pocsag_tour.proofs.route.tour.Goals as goal

ok_by : {A E : Type 0} (P Q : A → Type 0) (r : Result A E) → ((x : A) → P x → Q x) → IfOk r P → IfOk r Q
ok_by P Q (Ok x) f h = f x h
ok_by P Q (Err e) f h = tt

err_by : {A E : Type 0} (P Q : E → Type 0) (r : Result A E) → ((x : E) → P x → Q x) → IfErr r P → IfErr r Q
err_by P Q (Ok x) f h = tt
err_by P Q (Err e) f h = f e h

pub way-requires-clause-balanced : goal.way-requires-clause-balanced
way-requires-clause-balanced c =
    balanced_start c.args.classes.now (slice_index c.args.choice.now.early) c.args.batches (slice_index c.counts_of.result)
    c.counts_of.ensures.counts c.requires.within

pub way-requires-clause-joined : goal.way-requires-clause-joined
way-requires-clause-joined c =
    let k = c.args.classes.now in
    let choice = slice_index c.args.choice.now.early in
    let counts = slice_index c.counts_of.result in
    let set = c.reached-set.result in
    let exact = c.reached-set.ensures.exact in
    joined_open counts set
    (balanced_start k choice c.args.batches counts c.counts_of.ensures.counts c.requires.within)
    (reached_start k choice c.args.batches set exact)
    (reached_closed k choice c.args.batches counts set c.counts_of.ensures.counts exact)
    (reached_members k choice c.args.batches counts set c.counts_of.ensures.counts exact)
    (runs_start k choice c.args.batches counts set c.counts_of.ensures.counts c.requires.within exact
    (λ outside. let yes : IsTrue c.lies_outside.result = c.lies_outside.ensures.1 outside in let no = c.if-lies_outside.false in
    absurd (cc yes)))

pub returns-clause-tour : goal.returns-clause-tour
returns-clause-tour c =
    ok_by _ _ c.way.result
    (λ steps w. tour_of c.args.classes.now c.args.end (slice_index c.args.choice.now.early) c.args.batches
    (slice_index c.counts_of.result) steps.items
    c.counts_of.ensures.counts c.requires.chosen c.requires.within w.0 w.1)
    c.way.ensures.way

pub returns-clause-refused : goal.returns-clause-refused
returns-clause-refused c =
    err_by _ _ c.way.result
    (λ fault no. refused c.args.classes.now (slice_index c.args.choice.now.early) c.args.batches
    (slice_index c.counts_of.result) c.args.end fault
    c.counts_of.ensures.counts c.requires.chosen c.requires.within no)
    c.way.ensures.refused
