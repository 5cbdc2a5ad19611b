use Rattle.pocsag_decode.proofs.Prelude.{◌≡◌, ◌⊎◌, ℕ, List, [], inl, inr, Ok, Err, MatchResult, Vec, Page, DecodeFault, HasFault, HasFaultOfEnd, ReadsAs, WantsMemory}
use Rattle.std.specs.Prelude.{Result}
use Rattle.std.specs.Global.{Global}
use Rattle.pocsag_decode.specs.declared.fault.DecodeFault.TheVariants as fault
use Rattle.pocsag_decode.proofs.OneFault.{answered, wanting_word}
use Rattle.pocsag_decode.proofs.whole.decode.Goals as goal

-- a fault of the end is one
ended : (X : List ℕ) (r : Result (Vec Page Global) DecodeFault)
    → MatchResult r (λ v. ReadsAs X v.items) (λ e. (e ≡ fault.OutOfMemory) ⊎ HasFaultOfEnd X e)
    → MatchResult r (λ v. ReadsAs X v.items) (λ e. (e ≡ fault.OutOfMemory) ⊎ HasFault X e)
ended X (Ok v) h = h
ended X (Err e) (inl wanting) = inl wanting
ended X (Err e) (inr fault_of_end) = inr (inr fault_of_end)

pub returns-clause-memory : goal.returns-clause-memory
returns-clause-memory c = λ e.
    let s = c.in_ok-feed.ensures.stands [] c.new-decoder.ensures in
    let m = c.finish.ensures.memory _ s e in
    WantsMemory.at_end m.0 m.1

pub returns-in_err-feed-clause-memory : goal.returns-in_err-feed-clause-memory
returns-in_err-feed-clause-memory c = λ e.
    wanting_word _ _ (c.in_err-feed.ensures.refused [] c.new-decoder.ensures) (answered _ _ _ e c.from_residual.ensures.1)

pub returns-clause-decoded : goal.returns-clause-decoded
returns-clause-decoded c =
    ended _ _ (c.finish.ensures.finished _ (c.in_ok-feed.ensures.stands [] c.new-decoder.ensures))

pub returns-clause-listable : goal.returns-clause-listable
returns-clause-listable c = c.finish.ensures.listable _ (c.in_ok-feed.ensures.stands [] c.new-decoder.ensures)
