-- *Repair for all* (this project's own): each word of a transmission as the codeword that it was sent as, for whatever
-- address it is.
use Rattle.std.specs.Prelude.{◌≡◌, ◌≢◌, ℕ, ◌+◌, ◌%◌, ◌==◌, if◌then◌else◌, List, [], ◌∷◌, ◌++◌, replicate, bit_xor, count_ones}
use Rattle.std.specs.Int.{to_be_bytes, w32}
use Rattle.std.specs.List.{flat_map}
use Rattle.pocsag_words.specs.Codeword.{HasNoneNear, IsNear, IsOnlyNear}
use Rattle.pocsag_words.specs.Frame.{batch_words, preamble_byte}
use Rattle.pocsag_pages.specs.Bytes.{after_preamble, leading, sync_word}
use Rattle.pocsag_decode.specs.declared.repaired.Repaired.{Repaired}
use Rattle.pocsag_decode.specs.PartialWords.{unfinished}
use Rattle.pocsag_decode.specs.Faults.{words}

-- The word at a place, counted from 0 with the synchronisation codewords, and what it is repaired to: the synchronisation
-- codeword where one is due and the word differs from it in at most two bits, elsewhere the only codeword that differs
-- from it in at most two bits. A word with more wrong bits stays as it is.
pub data IsRepaired : (place before after : ℕ) → Type 0 where
  sync : {j w : ℕ} → j % batch_words ≡ 0 → IsNear sync_word w → IsRepaired j w sync_word
  no_sync : {j w : ℕ} → j % batch_words ≡ 0 → ¬ IsNear sync_word w → IsRepaired j w w
  codeword : {j w v : ℕ} → j % batch_words ≢ 0 → IsOnlyNear w v → IsRepaired j w v
  beyond : {j w : ℕ} → j % batch_words ≢ 0 → HasNoneNear w → IsRepaired j w w

-- The same of words, the first of them at this place.
abbrev pub AreRepaired : (place : ℕ) → (before after : List ℕ) → Type 0
AreRepaired j [] [] = Unit {0}
AreRepaired j [] (v ∷ vs) = ⊥
AreRepaired j (w ∷ ws) [] = ⊥
AreRepaired j (w ∷ ws) (v ∷ vs) = IsRepaired j w v × AreRepaired (j + 1) ws vs

-- *Repair* of a transmission's bytes: its preamble, its words, each repaired by its place, and what follows its whole
-- words.
pub record IsRepairOf (before after : List ℕ) : Type 0 where
  pub repaired : List ℕ
  pub each : AreRepaired 0 (words before) repaired
  pub bytes : after
      ≡ replicate (leading before) preamble_byte ++ (flat_map (to_be_bytes w32) repaired ++ unfinished (after_preamble before))

-- In how many words, and in how many bits, two lists of words differ.
abbrev pub differing_words : List ℕ → List ℕ → ℕ
differing_words [] vs = 0
differing_words (w ∷ ws) [] = 0
differing_words (w ∷ ws) (v ∷ vs) = (if v == w then 0 else 1) + differing_words ws vs

abbrev pub differing_bits : List ℕ → List ℕ → ℕ
differing_bits [] vs = 0
differing_bits (w ∷ ws) [] = 0
differing_bits (w ∷ ws) (v ∷ vs) = count_ones (bit_xor v w) + differing_bits ws vs

-- These are the words and the bits in which the bytes differ from what they were.
pub record Counts (told : Repaired) (before after : List ℕ) : Type 0 where
  pub in_words : told.words ≡ differing_words (words before) (words after)
  pub in_bits : told.bits ≡ differing_bits (words before) (words after)
