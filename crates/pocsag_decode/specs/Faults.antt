-- *Fault of a transmission*, and what bytes without one say.
use Rattle.std.specs.Prelude.{◌≡◌, ◌≢◌, ◌⊎◌, ℕ, ◌+◌, ◌%◌, ◌^◌, ◌<◌, ◌≤◌, List, [], ◌++◌, length, Result, Err, IsTrue, OnOk}
use Rattle.pocsag_words.specs.Devices.{HasFailed}
use Rattle.pocsag_pages.specs.declared.page.Page.{Page}
use Rattle.pocsag_pages.specs.Bytes.{Sent, leading, after_preamble, words_of}
use Rattle.pocsag_pages.specs.Reading.{ReadsWords}
use Rattle.pocsag_decode.specs.declared.fault.DecodeFault.{DecodeFault}
use Rattle.pocsag_decode.specs.declared.fault.DecodeFault.TheVariants as fault
use Rattle.pocsag_decode.specs.Places.{AllMayStand, HasBadWord, KeepsFrom, may_follow}

-- Where the call answers, no call of the device failed; where it answers this fault, one failed.
abbrev pub NamesFailures : {T E : Type 0} → Result T E → E → (before after : ℕ) → Type 0
NamesFailures result fault before after = OnOk result (after ≡ before) × (result ≡ Err fault → HasFailed before after)

-- The whole words after the preamble.
abbrev pub words : List ℕ → List ℕ
words X = words_of (after_preamble X)

-- A fault at a byte that is there, which stays however the bytes go on: fewer than 72 bytes AA before
-- another byte, or else the least bad word.
pub data HasFaultThere : List ℕ → DecodeFault → Type 0 where
  short : {X : List ℕ} → leading X < 72 → after_preamble X ≢ [] → HasFaultThere X fault.ShortPreamble
  bad : {X : List ℕ} {f : DecodeFault} → 72 ≤ leading X → HasBadWord (words X) f → HasFaultThere X f

-- A fault of the end: fewer than 72 bytes AA before it, no other byte before it, or no bad word but an
-- end inside a word or inside a batch of 68 bytes.
pub data HasFaultOfEnd : List ℕ → DecodeFault → Type 0 where
  short : {X : List ℕ} → leading X < 72 → after_preamble X ≡ [] → HasFaultOfEnd X fault.ShortPreamble
  no_batch : {X : List ℕ} → 72 ≤ leading X → after_preamble X ≡ [] → HasFaultOfEnd X fault.NoBatch
  cut : {X : List ℕ} → 72 ≤ leading X → AllMayStand (words X) → length (after_preamble X) % 68 ≢ 0 → HasFaultOfEnd X fault.Truncated

-- *Fault of a transmission*.
abbrev pub HasFault : List ℕ → DecodeFault → Type 0
HasFault X f = HasFaultThere X f ⊎ HasFaultOfEnd X f

abbrev pub IsFaultless : List ℕ → Type 0
IsFaultless X = (f : DecodeFault) → ¬ HasFault X f

-- X is sent from codewords that read as these pages.
pub record ReadsAs (X : List ℕ) (ps : List Page) : Type 0 where
  pub codewords : List ℕ
  pub sent : Sent X codewords
  pub reads : ReadsWords codewords ps

-- A page is still open at the end.
abbrev pub EndsOpen : List ℕ → Type 0
EndsOpen X = IsTrue (may_follow (words X) (length (words X)))

-- Where memory is wanted: to keep a page or an item, at a word before which nothing is bad, or at the end of bytes
-- without a fault. So every fault up to the first codeword that has to be kept is required whatever memory does.
pub data WantsMemory : List ℕ → Type 0 where
  at_word : {X : List ℕ} → 72 ≤ leading X → KeepsFrom (words X) 0 → WantsMemory X
  at_end : {X : List ℕ} → IsFaultless X → EndsOpen X → WantsMemory X

-- Why a piece Z is refused after the bytes X: together they are too many, judged before the bytes of
-- the piece, or else a fault at a byte of theirs. Memory is wanted to keep a page or an item, at a word
-- that the piece makes whole.
pub data RefusesPiece : (X Z : List ℕ) → DecodeFault → Type 0 where
  too_much : {X Z : List ℕ} → 2 ^ 64 ≤ length X + length Z → RefusesPiece X Z fault.TooMuch
  no_memory : {X Z : List ℕ} → length X + length Z < 2 ^ 64 → 72 ≤ leading (X ++ Z) → KeepsFrom (words (X ++ Z)) (length (words X))
      → RefusesPiece X Z fault.OutOfMemory
  fault_there : {X Z : List ℕ} {f : DecodeFault} → length X + length Z < 2 ^ 64 → HasFaultThere (X ++ Z) f → RefusesPiece X Z f
