use Rattle.pocsag_open.proofs.Prelude.{inl, [], ◌∷◌, ◌∙◌, append-nil, refl, subst, sym, None, Some, UndoneFault, ExplainsPlanUndone, failed_plan}
use Rattle.pocsag_open.proofs.Plans.{all_held, explains, explains_front, unsent}
use Rattle.pocsag_open.proofs.round_plan.send_plan.Goals as goal

pub returns-in-Err-clause-unplaced : goal.returns-in-Err-clause-unplaced
returns-in-Err-clause-unplaced g c =
    record { placed = failed_plan c.args.asked.tx.now c.args.asked.cert.now c.in-Err.fault ∷ []; refused = inl refl; outputs = λ known. c.in-Err.ensures.failed known }

pub returns-in-Ok-bounded_stream-clause-planned : goal.returns-in-Ok-bounded_stream-clause-planned
returns-in-Ok-bounded_stream-clause-planned g c = rw c.in_default.is (record {
  made = c.in-Ok-bounded_stream.bounded;
  plan = c.in-Ok-bounded_stream.ensures.plan;
  same = refl;
  its_bound = refl;
  headline = λ is_known.
      let known = c.in-Ok.ensures.known is_known in
      let empty = c.in-Ok.ensures.empty is_known in
      all_held _ _ _ _ _ empty.0 empty.1 (c.in-Ok-bounded_stream.ensures.headline known known);
})

pub returns-in-Err-bounded_stream-clause-explained : goal.returns-in-Err-bounded_stream-clause-explained
returns-in-Err-bounded_stream-clause-explained g c =
    rw c.in_default.is
    (subst (λ (f : UndoneFault). ExplainsPlanUndone c.args.settings.now.on_limit c.args.asked.end None c.args.book.now f) (sym c.undone.ensures)
    (explains _ _ _ c.in-Err-bounded_stream.fault c.in-Err-bounded_stream.ensures.explained))

pub returns-in-Err-bounded_stream-clause-unplaced : goal.returns-in-Err-bounded_stream-clause-unplaced
returns-in-Err-bounded_stream-clause-unplaced g c =
    rw c.undone.ensures
    (unsent g.P.Output.Sink.failures _ _ _ _ _ _ _ _ _ c.in-Err-bounded_stream.fault c.in-Err-bounded_stream.ensures.writers c.in-Ok.ensures.same)

pub returns-in-Ok-front_stream-clause-planned : goal.returns-in-Ok-front_stream-clause-planned
returns-in-Ok-front_stream-clause-planned g c = rw c.in-Some.is (record {
  round = c.in-Ok-front_stream.ensures.round;
  front = c.in-Ok-front_stream.ensures.front;
  longest = c.in-Ok-front_stream.ensures.longest;
  planned = record {
    made = c.in-Ok-front_stream.bounded;
    plan = c.in-Ok-front_stream.ensures.plan;
    same = refl;
    its_bound = refl;
    headline = λ is_known.
        let known = c.in-Ok.ensures.known is_known in
        let empty = c.in-Ok.ensures.empty is_known in
        all_held _ _ _ _ _ empty.0 empty.1 (c.in-Ok-front_stream.ensures.headline known known);
  };
  within = c.in-Ok-front_stream.ensures.within;
})

pub returns-clause-explained : goal.returns-clause-explained
returns-clause-explained g c =
    rw c.in-Some.is
    (subst (λ (f : UndoneFault). ExplainsPlanUndone c.args.settings.now.on_limit c.args.asked.end (Some c.in-Some.most) c.args.book.now f)
    (sym c.undone-in-Err-Stream.ensures)
    (explains_front c.args.settings.now.on_limit c.args.asked.end c.in-Some.most c.args.book.now c.in-Err-Stream.fault
    (rw c.in-Err-Stream.field-0-is at c.in-Err-Stream.ensures.explained)))

pub returns-clause-unplaced : goal.returns-clause-unplaced
returns-clause-unplaced g c =
    rw c.undone-in-Err-Stream.ensures
    (unsent g.P.Output.Sink.failures _ _ _ _ _ _ _ _ _ c.in-Err-Stream.fault (rw c.in-Err-Stream.field-0-is at c.in-Err-Stream.ensures.writers) c.in-Ok.ensures.same)

pub returns-in-Err-FirstPage-clause-unplaced : goal.returns-in-Err-FirstPage-clause-unplaced
returns-in-Err-FirstPage-clause-unplaced g c =
    record { placed = []; refused = refl; outputs = λ known. c.in-Ok.ensures.same known ∙ sym (append-nil _) }
