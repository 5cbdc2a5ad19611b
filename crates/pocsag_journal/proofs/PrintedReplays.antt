-- What is reported of bytes explains why they are not read.
use Rattle.pocsag_journal.proofs.Prelude.{◌≡◌, ℕ, List, subst, IfErr, Result, Ok, Err, ExplainsReplay, IsPrinted, JournalFault, Replayed}
use Rattle.pocsag_journal.specs.declared.fault.JournalFault.TheVariants as fault

told_replay : (bytes : List ℕ) (before after : ℕ) (f : JournalFault) → IsPrinted bytes f → ExplainsReplay bytes before after f
told_replay bytes before after fault.ReadFault h = absurd h
told_replay bytes before after fault.TooLarge h = absurd h
told_replay bytes before after f h = h

-- what is reported of the bytes that were read is reported of those that were held
pub told_of : (bytes held : List ℕ) (before after : ℕ) → bytes ≡ held → (r : Result Replayed JournalFault) → IfErr r (IsPrinted bytes) →
    IfErr r (ExplainsReplay held before after)
told_of bytes held before after e (Ok x) told = tt
told_of bytes held before after e (Err f) told = told_replay held before after f (subst (λ (b : List ℕ). IsPrinted b f) e told)
