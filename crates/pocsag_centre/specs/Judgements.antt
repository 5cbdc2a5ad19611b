-- What `check` and `explain` say of a page file and a certificate, and why they say nothing.
use Rattle.std.specs.Prelude.{◌≡◌, ℕ, Bool, true, false, List, IsOk}
use Rattle.pocsag_words.specs.declared.device.Source.{Ghosts as Reader}
use Rattle.pocsag_words.specs.declared.ending.End.{End}
use Rattle.pocsag_pages.specs.PageFile.{verdict}
use Rattle.pocsag_tree.specs.BoundTrees.{BoundTree}
use Rattle.pocsag_tree.specs.CertificateText.{IsText}
use Rattle.pocsag_plan.specs.Verdicts.{Checked, ExplainsCertificate, ExplainsRound, IsNotShown}
use Rattle.pocsag_centre.specs.Lines.{verdict_text}
use Rattle.pocsag_centre.specs.declared.fault.CentreFault.{CentreFault}
use Rattle.pocsag_centre.specs.declared.fault.CentreFault.TheVariants as fault

-- `check`: the text that tells a verdict is one line.
abbrev pub IsVerdictLine : (is_shown : Bool) → End → (batches : ℕ) → (text : List ℕ) → Type 0
IsVerdictLine is_shown end batches text = text ≡ verdict_text is_shown end batches

-- The exit status of a verdict: 0 where the certificate shows its batches, and 1 where it shows nothing.
abbrev pub verdict_status : (is_shown : Bool) → ℕ
verdict_status true = 0
verdict_status false = 1

-- The checker's verdict on a certificate of this end and these batches, for the round of the page file.
abbrev pub IsVerdictOn : (file certificate : List ℕ) → (is_shown : Bool) → End → (batches : ℕ) → Type 0
IsVerdictOn file certificate true end batches = Checked file certificate end batches
IsVerdictOn file certificate false end batches = IsNotShown file certificate end batches

-- The text tells the verdict on a certificate, and the exit status is that of this verdict.
pub record PrintsVerdict {P C : Type 0} (Pages : Reader P) (Cert : Reader C) (Tells : (is_shown : Bool) → End → (batches : ℕ) → (text : List ℕ) → Type 0) (pages : P) (cert : C) (status : ℕ) (text : List ℕ) : Type 0 where
  pub is_shown : Bool
  pub end : End
  pub batches : ℕ
  pub told : Tells is_shown end batches text
  pub well : status ≡ verdict_status is_shown
  pub spelled : Cert.is_known → (tree : BoundTree) × IsText end batches tree (Cert.held cert)
  pub judged : Pages.is_known → Cert.is_known → IsVerdictOn (Pages.held pages) (Cert.held cert) is_shown end batches

-- Why a certificate was not judged for a page file, whose fault comes first.
abbrev pub ExplainsJudging : (file certificate : List ℕ) → CentreFault → Type 0
ExplainsJudging file certificate (fault.Round f) = ExplainsRound file f
ExplainsJudging file certificate (fault.Certificate f) = IsOk (verdict file) × ExplainsCertificate certificate f
ExplainsJudging file certificate _ = ⊥
