-- Texts that are written as they are made: a writer took a part, a part waits, and the rest is still to be made.
use Rattle.std.specs.Prelude.{◌≡◌, ◌⊎◌, ℕ, ◌+◌, ◌<◌, ◌≤◌, List, ◌++◌, length, Result, MatchResult}
use Rattle.pocsag_words.specs.Devices.{HasFailed, TookPrefix}
use Rattle.pocsag_words.specs.declared.device.Sink.{Ghosts as Writer}
use Rattle.pocsag_show.specs.declared.fault.ShowFault.{ShowFault}
use Rattle.pocsag_show.specs.declared.fault.ShowFault.TheVariants as fault

-- What the writer took since the start, what waits and what is still to be made are together all of the text. Something
-- waits: as long as memory may be refused, the text is not whole.
pub record IsEmitting {S : Type 0} (Out : Writer S) (start now : S) (all waits rest : List ℕ) : Type 0 where
  pub told : Out.is_known → Out.taken start ++ all ≡ Out.taken now ++ (waits ++ rest)
  pub grown : Out.is_known → length (Out.taken start) ≤ length (Out.taken now)
  pub some : 0 < length waits
  pub failures : Out.failures now ≡ Out.failures start

-- The writer took all of the text.
pub record HasEmitted {S : Type 0} (Out : Writer S) (start now : S) (all : List ℕ) : Type 0 where
  pub taken : Out.is_known → Out.taken now ≡ Out.taken start ++ all
  pub failures : Out.failures now ≡ Out.failures start

-- It ended with this fault: the writer took a prefix of the text, which is not all of it where memory was refused.
pub record StoppedEmitting {S : Type 0} (Out : Writer S) (start now : S) (all : List ℕ) (f : ShowFault) : Type 0 where
  pub took : Out.is_known → TookPrefix (Out.taken start) (Out.taken now) all
  pub kind : (f ≡ fault.WriteFault) ⊎ (f ≡ fault.OutOfMemory)
  pub short : f ≡ fault.OutOfMemory → Out.is_known → length (Out.taken now) < length (Out.taken start) + length all
  pub failed : f ≡ fault.WriteFault → HasFailed (Out.failures start) (Out.failures now)

-- Of each text of which this is made next, this is made and nothing else.
abbrev pub Emits : {S : Type 0} → Writer S → Result Unit ShowFault → (before after : S) → (waits waits_after made : List ℕ) → Type 0
Emits {S = S} Out result before after waits waits_after made =
    (start : S) → (all rest : List ℕ) → IsEmitting Out start before all waits (made ++ rest)
    → MatchResult result (λ _. IsEmitting Out start after all waits_after rest) (StoppedEmitting Out start after all)

-- The writer takes a text.
abbrev pub EmitsAll : {S : Type 0} → Writer S → Result Unit ShowFault → (start now : S) → (all : List ℕ) → Type 0
EmitsAll Out result start now all = MatchResult result (λ _. HasEmitted Out start now all) (StoppedEmitting Out start now all)
