-- What a writer takes of the text that explains a certificate (this project's own).
use Rattle.std.specs.Prelude.{◌≡◌, ℕ, Bool, ◌+◌, ◌<◌, List, ◌++◌, length, Result, OnOk, Err}
use Rattle.pocsag_words.specs.Devices.{HasFailed, TookPrefix}
use Rattle.pocsag_words.specs.declared.device.Sink.{Ghosts as Writer}
use Rattle.pocsag_words.specs.declared.ending.End.{End}
use Rattle.pocsag_findings.specs.Beginnings.{GivesVerdict}
use Rattle.pocsag_findings.specs.declared.fault.ExplanationFault.{ExplanationFault}
use Rattle.pocsag_findings.specs.declared.fault.ExplanationFault.TheVariants as fault
use Rattle.pocsag_findings.specs.declared.format.Format.{Format}

-- A text that gives the verdict was taken,
pub record TookVerdict {S : Type 0} (Out : Writer S) (format : Format) (is_shown : Bool) (end : End) (batches : ℕ) (before after : S) : Type 0 where
  pub text : List ℕ
  pub told : GivesVerdict format is_shown end batches text
  pub taken : Out.is_known → Out.taken after ≡ Out.taken before ++ text

-- or a prefix of one,
pub record TookPartOfVerdict {S : Type 0} (Out : Writer S) (format : Format) (is_shown : Bool) (end : End) (batches : ℕ) (before after : S) : Type 0 where
  pub text : List ℕ
  pub told : GivesVerdict format is_shown end batches text
  pub taken : Out.is_known → TookPrefix (Out.taken before) (Out.taken after) text

-- which is not all of it.
pub record TookLessOfVerdict {S : Type 0} (Out : Writer S) (format : Format) (is_shown : Bool) (end : End) (batches : ℕ) (before after : S) : Type 0 where
  pub text : List ℕ
  pub told : GivesVerdict format is_shown end batches text
  pub taken : Out.is_known → TookPrefix (Out.taken before) (Out.taken after) text
  pub less : Out.is_known → length (Out.taken after) < length (Out.taken before) + length text

-- The writer took some more, and did not fail.
pub record HasAdded {S : Type 0} (Out : Writer S) (before after : S) : Type 0 where
  pub piece : List ℕ
  pub taken : Out.is_known → Out.taken after ≡ Out.taken before ++ piece
  pub failures : Out.failures after ≡ Out.failures before

-- The same, or it stopped behind some more: a writer failed, or memory was refused.
pub record Adds {S : Type 0} (Out : Writer S) (result : Result Unit ExplanationFault) (before after : S) : Type 0 where
  pub piece : List ℕ
  pub taken : Out.is_known → Out.taken after ≡ Out.taken before ++ piece
  pub succeeded : OnOk result (Out.failures after ≡ Out.failures before)
  pub failed : result ≡ Err fault.WriteFault → HasFailed (Out.failures before) (Out.failures after)
