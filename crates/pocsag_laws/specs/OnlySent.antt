-- Captures of transmissions and noise alone (this project's own).
use Rattle.std.specs.Prelude.{◌⊎◌, ℕ, ◌+◌, ◌<◌, ◌≤◌, List, [], ◌∷◌, ◌++◌, length}
use Rattle.pocsag_pages.specs.declared.page.Page.{Page}
use Rattle.pocsag_capture.specs.Receptions.{HasFewLost, HasInFront, IsBridged, IsSynchronised, batch_bits}
use Rattle.pocsag_capture.specs.Sent.{IsReceived, NothingFollows}
use Rattle.pocsag_capture.specs.declared.polarity.Polarity.{Polarity}

-- *Alone*: with the 32 bits from this bit on neither the next synchronisation codeword nor the one after it is in step.
pub record IsAlone (bits : List ℕ) (bit : ℕ) (polarity : Polarity) : Type 0 where
  pub next : ¬ IsSynchronised bits (bit + batch_bits) polarity
  pub over : ¬ IsBridged bits bit polarity

-- More than five of the sixteen words behind these 32 bits are past repair.
abbrev pub HasManyLost : (bits : List ℕ) → (bit : ℕ) → Polarity → Type 0
HasManyLost bits bit polarity = ¬ HasFewLost bits (record { bit = bit; polarity = polarity; batches = 1 })

-- *Noise*: 32 bits that differ from the synchronisation codeword in at most two, in either polarity, begin from the first bit on,
-- before the last, by chance at most: they are alone, and many words behind them are lost.
abbrev pub IsNoise : (bits : List ℕ) → (first last : ℕ) → Type 0
IsNoise bits first last =
    (bit : ℕ) → first ≤ bit → bit < last → (polarity : Polarity) → IsSynchronised bits bit polarity →
    IsAlone bits bit polarity × HasManyLost bits bit polarity

-- *No other*: in the batch that ends at this bit, behind its synchronisation codeword, such bits begin by chance at most: they are
-- alone, and are all in the batch, or many words behind them are lost.
abbrev pub HoldsNoOther : (bits : List ℕ) → (end : ℕ) → Type 0
HoldsNoOther bits end =
    (bit : ℕ) → end < bit + batch_bits → bit < end → (polarity : Polarity) → IsSynchronised bits bit polarity →
    IsAlone bits bit polarity × ((bit + 32 ≤ end) ⊎ HasManyLost bits bit polarity)

-- *None in front*: of the words in front of the synchronisation codeword at this bit none are read as those of a batch.
abbrev pub HasNoneInFront : (bits : List ℕ) → (bit : ℕ) → Polarity → Type 0
HasNoneInFront bits bit polarity = HasInFront bits 0 polarity bit 0

-- *Capture of transmissions*: noise, the batches of a transmission as they were received, noise and so on, and the pages of each
-- transmission. The noise before a transmission does not end like a batch, nothing goes on behind a transmission, and in its last batch
-- no other begins. Preambles are noise.
pub data IsCaptureOf : (bits : List ℕ) → List (List Page) → Type 0 where
  noise : {bits : List ℕ} → IsNoise bits 0 (length bits) → IsCaptureOf bits []
  sent :
      (before batches after : List ℕ) (polarity : Polarity) (ps : List Page) (pss : List (List Page)) →
      IsNoise (before ++ (batches ++ after)) 0 (length before) →
      HasNoneInFront (before ++ (batches ++ after)) (length before) polarity →
      IsReceived polarity ps batches →
      NothingFollows polarity after →
      HoldsNoOther (batches ++ after) (length batches) →
      IsCaptureOf after pss →
      IsCaptureOf (before ++ (batches ++ after)) (ps ∷ pss)
