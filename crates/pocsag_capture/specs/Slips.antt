-- Where a bit was lost or doubled in the last batch of a reception (this project's own).
use Rattle.std.specs.Prelude.{◌≡◌, ◌⊎◌, ℕ, ◌+◌, ◌-◌, ◌*◌, ◌%◌, ◌<◌, ◌≤◌, List}
use Rattle.pocsag_words.specs.Kinds.{idle_word}
use Rattle.pocsag_words.specs.Frame.{batch_words}
use Rattle.pocsag_capture.specs.Receptions.{IsBeside, IsSynchronised, all_batches, behind, sent_at}
use Rattle.pocsag_capture.specs.declared.polarity.Polarity.{Polarity}
use Rattle.pocsag_capture.specs.declared.reception.Reception.{Reception}

-- From a place on four words, or those up to the end of the reception if they are fewer, are beside their places.
abbrev pub IsSlip : (bits : List ℕ) → Reception → (step first : ℕ) → Type 0
IsSlip bits r step first = (place : ℕ) → first ≤ place → place < first + 4 → place < batch_words * r.batches → IsBeside bits r.polarity step (r.bit + 32 * (place - 1))

-- *Slip*: from a word of the last batch on two words or more are codewords one bit early, behind a bit that was lost, or one bit
-- late, behind one that was doubled. (The last word alone shows none: with its last bit wrong an idle codeword is one a bit early.)
pub record HasSlipped (bits : List ℕ) (r : Reception) : Type 0 where
  pub first : ℕ
  pub last : batch_words * (r.batches - 1) < first
  pub two : first + 1 < batch_words * r.batches
  pub beside : IsSlip bits r 31 first ⊎ IsSlip bits r 33 first

-- Fourteen bits behind this bit an idle codeword begins in step. Its first eighteen bits are the last of the synchronisation codeword in
-- the other polarity, so with the end of the word before it they may look like one.
abbrev pub IsBeforeIdle : (bits : List ℕ) → Reception → (bit : ℕ) → Type 0
IsBeforeIdle bits r bit = ((bit + 14 - r.bit) % 32 ≡ 0) × (sent_at bits r.polarity (bit + 14) ≡ idle_word)

-- Another synchronisation codeword, in either polarity, begins inside the last batch of a reception or at most 31 bits behind it, and
-- not because an idle codeword stands there.
pub record HasOtherSync (bits : List ℕ) (r : Reception) : Type 0 where
  pub bit : ℕ
  pub polarity : Polarity
  pub first : behind r - 543 ≤ bit
  pub last : bit < behind r + 32
  pub begins : IsSynchronised bits bit polarity
  pub alone : ¬ IsBeforeIdle bits r bit

-- The last batch of a reception may be out of step: another synchronisation codeword begins there, or a bit was lost or doubled in it.
abbrev pub IsLastUnsteady : (bits : List ℕ) → Reception → Type 0
IsLastUnsteady bits r = HasOtherSync bits r ⊎ HasSlipped bits r

-- *In step*: so many batches of a reception are: all, or all but the last.
abbrev pub AreInStep : (bits : List ℕ) → Reception → (batches : ℕ) → Type 0
AreInStep bits r batches =
    (IsLastUnsteady bits r × (batches ≡ all_batches r - 1)) ⊎ ((¬ IsLastUnsteady bits r) × (batches ≡ all_batches r))
