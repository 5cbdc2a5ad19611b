-- Bytes on their way into a decoder.
use Rattle.std.specs.Prelude.{◌≡◌, ◌⊎◌, ℕ, ◌+◌, ◌≤◌, List, [], ◌∷◌, ◌++◌, length, Result, OnOk, IfErr}
use Rattle.pocsag_pages.specs.Bytes.{words_of}
use Rattle.pocsag_decode.specs.declared.body.Body.{Body}
use Rattle.pocsag_decode.specs.declared.fault.DecodeFault.{DecodeFault}
use Rattle.pocsag_decode.specs.declared.fault.DecodeFault.TheVariants as fault
use Rattle.pocsag_decode.specs.PartialWords.{size_of}
use Rattle.pocsag_decode.specs.Places.{HasBadWord, KeepsFrom}
use Rattle.pocsag_decode.specs.States.{HasRead, HoldsOf}

-- Want of memory, where one of these words from a place on has to be kept, or a bad word among them.
abbrev pub IsWantingOrBad : ℕ → List ℕ → DecodeFault → Type 0
IsWantingOrBad first ws f = ((f ≡ fault.OutOfMemory) × KeepsFrom ws first) ⊎ HasBadWord ws f

-- One whole word more, where the call answers, and never two.
abbrev pub CountsWord : {T : Type 0} → Result T DecodeFault → (before after : Body) → Type 0
CountsWord result before after = OnOk result (after.place ≡ before.place + 1) × (after.place ≤ before.place + 1)

-- The word was read after those that were read before, where the call answers.
abbrev pub ReadsWord : {T : Type 0} → Result T DecodeFault → (before after : Body) → ℕ → Type 0
ReadsWord result before after word =
    (ws : List ℕ) → HasRead before.place before.growing ws → OnOk result (HasRead after.place after.growing (ws ++ word ∷ []))

-- Where it does not, memory was wanting for this word, or a word is bad among those and this one.
abbrev pub RefusesWord : {T : Type 0} → Result T DecodeFault → (before : Body) → ℕ → Type 0
RefusesWord result before word =
    (ws : List ℕ) → HasRead before.place before.growing ws → IfErr result (IsWantingOrBad (length ws) (ws ++ word ∷ []))

-- So many bytes more, where the call answers, and never more than these.
abbrev pub CountsBytes : {T : Type 0} → Result T DecodeFault → (before after : Body) → ℕ → Type 0
CountsBytes result before after count =
    OnOk result (size_of after.place after.partial ≡ size_of before.place before.partial + count)
    × (size_of after.place after.partial ≤ size_of before.place before.partial + count)

-- It stands after the bytes before and these, where the call answers.
abbrev pub TakesIn : {T : Type 0} → Result T DecodeFault → (before after : Body) → List ℕ → Type 0
TakesIn result before after bytes = (Y : List ℕ) → HoldsOf before Y → OnOk result (HoldsOf after (Y ++ bytes))

-- Where it does not, memory was wanting for a word of these bytes, or a word of all the bytes is bad.
abbrev pub RefusesBytes : {T : Type 0} → Result T DecodeFault → (before : Body) → List ℕ → Type 0
RefusesBytes result before bytes =
    (Y : List ℕ) → HoldsOf before Y → IfErr result (IsWantingOrBad (length (words_of Y)) (words_of (Y ++ bytes)))

-- It stands after all of these bytes but the rest.
pub record HoldsAllBut (b : Body) (Y rest : List ℕ) : Type 0 where
  pub eaten : List ℕ
  pub all : eaten ++ rest ≡ Y
  pub stands : HoldsOf b eaten

-- Of these bytes the rest is still to be taken.
pub record IsTaking (at_first now : Body) (bytes rest : List ℕ) : Type 0 where
  pub size : size_of now.place now.partial + length rest ≡ size_of at_first.place at_first.partial + length bytes
  pub less : length rest ≤ length bytes
  pub before : (Y : List ℕ) → HoldsOf at_first Y → HoldsAllBut now (Y ++ bytes) rest
