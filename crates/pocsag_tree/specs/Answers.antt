-- What `read_certificate` answers for the bytes that its reader held.
use Rattle.std.specs.Prelude.{◌≡◌, ℕ, ◌-◌, ◌⊎◌, List, length, take, None, Result, Ok, Err}
use Rattle.pocsag_words.specs.declared.ending.End.{End}
use Rattle.pocsag_tree.specs.declared.shape.Certificate.{Certificate}
use Rattle.pocsag_tree.specs.declared.refusals.CertificateFault.{CertificateFault}
use Rattle.pocsag_tree.specs.declared.refusals.CertificateFault.TheVariants as fault
use Rattle.pocsag_tree.specs.BoundTrees.{BoundTree}
use Rattle.pocsag_tree.specs.Views.{bound_tree_of}
use Rattle.pocsag_tree.specs.Parts.{Meets, certificate, HasFirst}

-- The reader failed, or a growth was refused: no fault of the bytes.
abbrev pub IsRefusal : CertificateFault → Type 0
IsRefusal fault.ReadFault = Unit {0}
IsRefusal fault.OutOfMemory = Unit {0}
IsRefusal _ = ⊥

-- The certificate is of this end, number of batches and tree.
pub record Says (c : Certificate) (end : End) (batches : ℕ) (tree : BoundTree) : Type 0 where
  pub same_end : c.end ≡ end
  pub same_batches : c.batches ≡ batches
  pub same_tree : bound_tree_of c.tree ≡ tree

-- The answer is the certificate of this triple, unless reader or memory refused.
abbrev pub AnswersTriple : Result Certificate CertificateFault → End → ℕ → BoundTree → Type 0
AnswersTriple (Ok c) end batches tree = Says c end batches tree
AnswersTriple (Err e) end batches tree = IsRefusal e

-- The answer is this fault, unless reader or memory refused.
abbrev pub AnswersFault : Result Certificate CertificateFault → CertificateFault → Type 0
AnswersFault (Ok c) f = ⊥
AnswersFault (Err e) f = IsRefusal e ⊎ (e ≡ f)

-- Reader or memory refused, or the fault is the first of the bytes.
abbrev pub IsFault : CertificateFault → List ℕ → Type 0
IsFault e bytes = IsRefusal e ⊎ HasFirst e bytes

-- The bytes that a reader gave: all that it held before, but as many of the last as it holds after.
abbrev pub given_before : (before after : List ℕ) → List ℕ
given_before before after = take (length before - length after) before

-- Nothing is wrong with the bytes so far: what is met first in them is their end, where a byte is
-- wanted, or they are whole.
abbrev pub HasNoFault : List ℕ → Type 0
HasNoFault bytes = HasFirst fault.Truncated bytes ⊎ Meets certificate 0 bytes None
