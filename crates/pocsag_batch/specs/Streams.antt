-- What a page file leaves of a writer in file order.
use Rattle.std.specs.Prelude.{◌≡◌, ◌⊎◌, ℕ, List, ◌++◌, map, Result, Ok, Err, IsOk}
use Rattle.pocsag_words.specs.Devices.{TookPrefix}
use Rattle.pocsag_words.specs.Kinds.{kind_of}
use Rattle.pocsag_words.specs.declared.ending.End.TheVariants.{Open}
use Rattle.pocsag_pages.specs.Bytes.{bytes_of}
use Rattle.pocsag_pages.specs.Reading.{IsLegalList}
use Rattle.pocsag_pages.specs.declared.fault.RoundFault.{RoundFault}
use Rattle.pocsag_pages.specs.declared.fault.RoundFault.TheVariants as round
use Rattle.pocsag_pages.specs.declared.page.Page.{Page}
use Rattle.pocsag_batch.specs.FileOrder.{IsFileOrder}
use Rattle.pocsag_batch.specs.declared.stream.FirstFault.{FirstFault}
use Rattle.pocsag_batch.specs.declared.stream.FirstFault.TheVariants as fault

-- These codewords are the round of the page file in file order.
pub record IsRoundInOrder (judged : Result (List Page) RoundFault) (R : List Page) (T : List ℕ) : Type 0 where
  pub read : judged ≡ Ok R
  pub order : IsFileOrder R (map kind_of T)

-- What was taken more is the transmission, of so many batches, of the round of the page file in file
-- order, which is legal with the open end.
pub record WritesInOrder (judged : Result (List Page) RoundFault) (before after : List ℕ) (batches : ℕ) : Type 0 where
  pub round : List Page
  pub words : List ℕ
  pub in_order : IsRoundInOrder judged round words
  pub legal : IsLegalList Open words batches round
  pub taken : after ≡ before ++ bytes_of words

-- What was taken more is a prefix of the transmission of the round of the page file in file order.
pub record LeavesPrefix (judged : Result (List Page) RoundFault) (before after : List ℕ) : Type 0 where
  pub round : List Page
  pub words : List ℕ
  pub in_order : IsRoundInOrder judged round words
  pub part : TookPrefix before after (bytes_of words)

-- When each fault comes: a fault of the page file is that of its verdict, memory and the reader not
-- failing, and the others come only where the page file has a round.
abbrev pub ExplainsFault : Result (List Page) RoundFault → FirstFault → Type 0
ExplainsFault judged (fault.Round f) = (f ≡ round.OutOfMemory) ⊎ (f ≡ round.ReadFault) ⊎ (judged ≡ Err f)
ExplainsFault judged fault.OutOfMemory = IsOk judged
ExplainsFault judged fault.WriteFault = IsOk judged

-- A fault that comes before the first write.
abbrev pub IsBeforeTransmission : FirstFault → Type 0
IsBeforeTransmission (fault.Round f) = Unit {0}
IsBeforeTransmission fault.OutOfMemory = Unit {0}
IsBeforeTransmission fault.WriteFault = ⊥
