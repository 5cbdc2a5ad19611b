-- What a certificate shows of a page file, and why it is not judged.
use Rattle.std.specs.Prelude.{◌≡◌, ◌⊎◌, ℕ, false, List, Err, Ok}
use Rattle.pocsag_words.specs.declared.ending.End.{End}
use Rattle.pocsag_pages.specs.declared.fault.RoundFault.{RoundFault}
use Rattle.pocsag_pages.specs.declared.fault.RoundFault.TheVariants as round
use Rattle.pocsag_pages.specs.declared.page.Page.{Page}
use Rattle.pocsag_pages.specs.PageFile.{verdict}
use Rattle.pocsag_tree.specs.BoundTrees.{BoundTree}
use Rattle.pocsag_tree.specs.CertificateText.{IsText}
use Rattle.pocsag_tree.specs.Parts.{HasFirst}
use Rattle.pocsag_tree.specs.declared.refusals.CertificateFault.{CertificateFault}
use Rattle.pocsag_tree.specs.declared.refusals.CertificateFault.TheVariants as certificate
use Rattle.pocsag_check.specs.Acceptance.{IsAcceptedFor}
use Rattle.pocsag_plan.specs.Plans.{NoneHasFewer}

-- The page file is that of a round, and the certificate is a text of an end, a number of batches and a tree that the
-- checker accepts for them, so no list of codewords that is legal for the round and the end has fewer batches.
pub record Checked (file certificate : List ℕ) (end : End) (batches : ℕ) : Type 0 where
  pub round : List Page
  pub read : verdict file ≡ Ok round
  pub tree : BoundTree
  pub text : IsText end batches tree certificate
  pub accepted : IsAcceptedFor false end round batches tree
  pub bound : NoneHasFewer end round batches

-- The page file is that of a round, and the certificate is a text of an end, a number of batches and a tree that the
-- checker does not accept for them.
pub record IsNotShown (file text : List ℕ) (end : End) (batches : ℕ) : Type 0 where
  pub round : List Page
  pub read : verdict file ≡ Ok round
  pub tree : BoundTree
  pub spelled : IsText end batches tree text
  pub refused : ¬ IsAcceptedFor false end round batches tree

-- Why the bytes of a page file give no round: memory refused, or they have this fault.
abbrev pub ExplainsRound : (file : List ℕ) → RoundFault → Type 0
ExplainsRound file f = (f ≡ round.OutOfMemory) ⊎ (verdict file ≡ Err f)

-- Why the bytes of a certificate are none: memory refused, or they have this fault first.
abbrev pub ExplainsCertificate : (text : List ℕ) → CertificateFault → Type 0
ExplainsCertificate text f = (f ≡ certificate.OutOfMemory) ⊎ HasFirst f text
