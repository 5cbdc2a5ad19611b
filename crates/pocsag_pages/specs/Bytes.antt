-- The bytes of a transmission: the rules of Annex 1 on the preamble and on batches.
use Rattle.std.specs.Prelude.{◌≡◌, ℕ, ◌+◌, ◌%◌, ◌≤◌, ◌==◌, if◌then◌else◌, List, [], ◌∷◌, ◌++◌, replicate, drop, All}
use Rattle.std.specs.List.{flat_map}
use Rattle.std.specs.Int.{to_be_bytes, from_be_bytes, w32}
use Rattle.pocsag_words.specs.Codeword.{IsCodeword}
use Rattle.pocsag_words.specs.Frame.{batch_words, preamble_byte, preamble_length}
use Rattle.pocsag_pages.specs.Reading.{batch_length, IsBatchList}

-- The synchronisation codeword, a rule of Annex 1.
abbrev pub sync_word : ℕ
sync_word = 0x7cd215d8

-- The codewords, the first of them at index i, with the synchronisation codeword before each batch
-- of sixteen.
abbrev pub synced : ℕ → List ℕ → List ℕ
synced i [] = []
synced i (w ∷ ws) = (if i % batch_length == 0 then sync_word ∷ [] else []) ++ w ∷ synced (i + 1) ws

-- *Bytes*: the batches, each word high byte first.
abbrev pub body_bytes : List ℕ → List ℕ
body_bytes T = flat_map (to_be_bytes w32) (synced 0 T)

-- *Bytes*: the preamble of 576 bits, 72 bytes AA, and the batches.
unfoldable pub bytes_of : List ℕ → List ℕ
bytes_of T = replicate preamble_length preamble_byte ++ body_bytes T

-- *Sent*: 72 or more bytes AA, and the batches of a batch list.
pub record Sent (X T : List ℕ) : Type 0 where
  pub preamble : ℕ
  pub long : preamble_length ≤ preamble
  pub batches : ℕ
  pub whole : IsBatchList batches T
  pub codewords : All IsCodeword T
  pub bytes : X ≡ replicate preamble preamble_byte ++ body_bytes T

-- The numbers of the whole words of four bytes, high byte first.
abbrev pub words_of : List ℕ → List ℕ
words_of (a ∷ b ∷ c ∷ d ∷ bytes) = from_be_bytes w32 (a ∷ b ∷ c ∷ d ∷ []) ∷ words_of bytes
words_of _ = []

-- How many bytes AA stand first, and what follows them.
abbrev pub leading : List ℕ → ℕ
leading [] = 0
leading (x ∷ xs) = if x == preamble_byte then leading xs + 1 else 0

abbrev pub after_preamble : List ℕ → List ℕ
after_preamble xs = drop (leading xs) xs

-- The words that are not at the place of a synchronisation codeword; the first is at place j.
abbrev pub unsynced : ℕ → List ℕ → List ℕ
unsynced j [] = []
unsynced j (w ∷ ws) = if j % batch_words == 0 then unsynced (j + 1) ws else w ∷ unsynced (j + 1) ws

-- The words that the bytes have at the places of codewords.
abbrev pub codewords_in : List ℕ → List ℕ
codewords_in X = unsynced 0 (words_of (after_preamble X))
