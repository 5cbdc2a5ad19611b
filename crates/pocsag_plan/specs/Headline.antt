-- *The headline*: what was sent and certified. Read the fields aloud, one after the other.
use Rattle.std.specs.Prelude.{◌≡◌, ℕ, ◌≤◌, false, List, Ok}
use Rattle.pocsag_words.specs.declared.ending.End.{End}
use Rattle.pocsag_pages.specs.declared.page.Page.{Page}
use Rattle.pocsag_pages.specs.Bytes.{bytes_of}
use Rattle.pocsag_pages.specs.PageFile.{verdict}
use Rattle.pocsag_pages.specs.Reading.{IsLegalList}
use Rattle.pocsag_tree.specs.BoundTrees.{BoundTree}
use Rattle.pocsag_tree.specs.CertificateText.{IsWrittenText}
use Rattle.pocsag_check.specs.Acceptance.{IsAcceptedFor}

-- For a round and an end, with a bound.
pub record RoundHeadline (round : List Page) (end : End) (batches bound : ℕ) (tree : BoundTree) (sent certificate : List ℕ) : Type 0 where
  -- What was sent is the transmission of codewords that are legal for the round and the end, in so many
  -- batches;
  pub codewords : List ℕ
  pub legal : IsLegalList end codewords batches round
  pub transmission : sent ≡ bytes_of codewords
  -- any codewords whatever that are legal for the round and the end have at least the bound of batches;
  pub fewest : (others : List ℕ) (n : ℕ) → IsLegalList end others n round → bound ≤ n
  -- and the certificate is the text of the end, the bound and the tree, and the checker accepts that tree
  -- for them.
  pub text : IsWrittenText end bound tree certificate
  pub accepted : IsAcceptedFor false end round bound tree

-- For a page file and an end.
pub record Headline (file : List ℕ) (end : End) (batches : ℕ) (tree : BoundTree) (sent certificate : List ℕ) : Type 0 where
  -- The page file is that of a round;
  pub round : List Page
  pub read : verdict file ≡ Ok round
  -- and of that round all this holds, where the bound is the number of batches that were sent.
  pub of_round : RoundHeadline round end batches batches tree sent certificate
