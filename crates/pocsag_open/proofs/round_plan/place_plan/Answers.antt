use Rattle.pocsag_open.proofs.Prelude.{inl, [], ◌∷◌, ◌++◌, ◌∙◌, ap, append-nil, List, refl, sym, failed_plan, PlacementResult}
use Rattle.pocsag_open.proofs.Fronts.{front_round}
use Rattle.pocsag_open.proofs.round_plan.place_plan.Goals as goal

pub returns-in-Err-put-clause-unplaced : goal.returns-in-Err-put-clause-unplaced
returns-in-Err-put-clause-unplaced g c =
    let failed : List PlacementResult = failed_plan c.args.asked.tx.now c.args.asked.cert.now c.in-Err-put.fault ∷ [] in
    record {
      placed = failed;
      refused = inl refl;
      outputs = λ known. c.in-Err-put.ensures.failed known ∙ ap (λ (l : List PlacementResult). l ++ failed) (c.in-Ok.ensures.same known);
    }

pub returns-in-Err-clause-unplaced : goal.returns-in-Err-clause-unplaced
returns-in-Err-clause-unplaced g c =
    let un = c.in-Err.ensures.unplaced in
    record { placed = un.placed; refused = un.refused; outputs = λ known. c.leave.ensures.same known ∙ un.outputs known }

pub returns-in_default-clause-unplaced : goal.returns-in_default-clause-unplaced
returns-in_default-clause-unplaced g c =
    record { placed = []; refused = refl; outputs = λ known. c.leave-in_default.ensures.same known ∙ c.in-Ok.ensures.same known ∙ sym (append-nil _) }

pub returns-in_default-clause-explained : goal.returns-in_default-clause-explained
returns-in_default-clause-explained g c = front_round _ _ _ _ _ _ _ _ _ c.in-Ok.ensures.planned c.in_default.ensures.some
