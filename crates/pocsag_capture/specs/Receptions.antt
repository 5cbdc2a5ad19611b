-- Which transmissions a capture holds (this project's own), and the words of each.
use Rattle.std.specs.Prelude.{◌≡◌, ◌⊎◌, ℕ, ◌+◌, ◌-◌, ◌*◌, ◌<◌, ◌≤◌, nat_le, nat_lt, min, ◌==◌, if◌then◌else◌, List, [], ◌∷◌, length, map, Option, bit_xor, count_ones}
use Rattle.std.specs.List.{AllZip, range_with_len}
use Rattle.pocsag_words.specs.Codeword.{HasNoneNear, IsCodeword, IsNear}
use Rattle.pocsag_words.specs.Frame.{batch_words}
use Rattle.pocsag_words.specs.Kinds.{idle_word}
use Rattle.pocsag_pages.specs.Bytes.{sync_word}
use Rattle.pocsag_pager.specs.Shown.{IsMended}
use Rattle.pocsag_capture.specs.Bits.{as_sent, word_on}
use Rattle.pocsag_capture.specs.Lost.{lost_words, mended_errors}
use Rattle.pocsag_capture.specs.declared.polarity.Polarity.{Polarity}
use Rattle.pocsag_capture.specs.declared.reception.Reception.{Reception}
use Rattle.pocsag_capture.specs.declared.reception.Run.{Run}

-- The bits of a batch: seventeen words of 32 bits.
abbrev pub batch_bits : ℕ
batch_bits = 544

-- From this bit on there are 32 bits, which in this polarity differ from the synchronisation codeword in at most two.
pub record IsSynchronised (bits : List ℕ) (bit : ℕ) (polarity : Polarity) : Type 0 where
  pub within : bit + 32 ≤ length bits
  pub near : IsNear sync_word (as_sent polarity (word_on bits bit))

-- The same in at most seven.
pub record IsLikeSynchronised (bits : List ℕ) (bit : ℕ) (polarity : Polarity) : Type 0 where
  pub within : bit + 32 ≤ length bits
  pub like : count_ones (bit_xor sync_word (as_sent polarity (word_on bits bit))) ≤ 7

-- No bit from the first on, before the last, begins a synchronisation codeword in either polarity.
abbrev pub IsQuiet : (bits : List ℕ) → (first last : ℕ) → Type 0
IsQuiet bits first last = (bit : ℕ) → first ≤ bit → bit < last → (polarity : Polarity) → ¬ IsSynchronised bits bit polarity

-- The synchronisation codeword after the next is in step with the one at this bit, and no other begins between the two.
pub record IsBridged (bits : List ℕ) (bit : ℕ) (polarity : Polarity) : Type 0 where
  pub quiet : IsQuiet bits (bit + 1) (bit + 2 * batch_bits)
  pub there : IsSynchronised bits (bit + 2 * batch_bits) polarity

-- In step: a synchronisation codeword begins here, or it is the one that cannot be recognised between two that can.
abbrev pub IsInStep : (bits : List ℕ) → (bit : ℕ) → Polarity → Type 0
IsInStep bits bit polarity = IsSynchronised bits bit polarity ⊎ IsBridged bits (bit - batch_bits) polarity

-- Where the last synchronisation codeword of a run begins, and the bit behind its batch.
abbrev pub last_sync : Run → ℕ
last_sync u = u.bit + batch_bits * (u.batches - 1)

abbrev pub run_end : Run → ℕ
run_end u = u.bit + batch_bits * u.batches

-- *Run*: synchronisation codewords in step. The first from a bit on, at any bit and in either polarity, begins it, and behind
-- the last neither the next nor the one after it is in step.
pub record IsSyncRun (bits : List ℕ) (first : ℕ) (u : Run) : Type 0 where
  pub later : first ≤ u.bit
  pub quiet : IsQuiet bits first u.bit
  pub some : 0 < u.batches
  pub begins : IsSynchronised bits u.bit u.polarity
  pub each : (k : ℕ) → k < u.batches → IsInStep bits (u.bit + batch_bits * k) u.polarity
  pub last : IsSynchronised bits (last_sync u) u.polarity
  pub none : ¬ IsSynchronised bits (run_end u) u.polarity
  pub over : ¬ IsBridged bits (last_sync u) u.polarity

-- A word past repair, which stands for each word that was expected and not read.
abbrev pub unread_word : ℕ
unread_word = 0x0000000b

-- The word from a bit on as it was sent; one that the capture's end cuts off is not read.
abbrev pub sent_at : (bits : List ℕ) → Polarity → (bit : ℕ) → ℕ
sent_at bits polarity bit = if nat_le (bit + 32) (length bits) then as_sent polarity (word_on bits bit) else unread_word

-- At most five of the sixteen words behind a synchronisation codeword are past repair.
pub record HasFewLost (bits : List ℕ) (u : Run) : Type 0 where
  pub mended : List (Option ℕ)
  pub each : AllZip IsMended (map (λ j. sent_at bits u.polarity (u.bit + 32 * j)) (range_with_len 1 16)) mended
  pub few : lost_words mended ≤ 5

-- On the air: a run that has a second synchronisation codeword, or one of whose batch few words are lost and which does not begin
-- inside what is read of the one before it, which ends at a held bit; 31 bits may be missing there.
abbrev pub IsOnAir : (bits : List ℕ) → (held : ℕ) → Run → Type 0
IsOnAir bits held u = (1 < u.batches) ⊎ ((held ≤ u.bit + 31) × HasFewLost bits u)

-- The batches of a run, and one more where the word behind them differs from the synchronisation codeword in at most seven bits.
abbrev pub HasBatches : (bits : List ℕ) → Run → (batches : ℕ) → Type 0
HasBatches bits u batches =
    (IsLikeSynchronised bits (run_end u) u.polarity × (batches ≡ u.batches + 1))
    ⊎ ((¬ IsLikeSynchronised bits (run_end u) u.polarity) × (batches ≡ u.batches))

-- In the last of so many batches from a bit on the word at this place and the next are past repair.
pub record IsBreak (bits : List ℕ) (polarity : Polarity) (bit batches place : ℕ) : Type 0 where
  pub last : batch_words * (batches - 1) < place
  pub two : place + 1 < batch_words * batches
  pub here : HasNoneNear (sent_at bits polarity (bit + 32 * place))
  pub next : HasNoneNear (sent_at bits polarity (bit + 32 * (place + 1)))

-- So many words are read of these batches: up to the first two past repair in a row of the last batch.
pub record IsReadTo (bits : List ℕ) (polarity : Polarity) (bit batches words : ℕ) : Type 0 where
  pub most : words ≤ batch_words * batches
  pub unbroken : (place : ℕ) → place < words → ¬ IsBreak bits polarity bit batches place
  pub ends : (words ≡ batch_words * batches) ⊎ IsBreak bits polarity bit batches words

-- *Reception* of a run: its batches, and those of their words that are read. Which are read of the batch in front, `HasInFront` says.
pub record IsReception (bits : List ℕ) (u : Run) (r : Reception) : Type 0 where
  pub bit : r.bit ≡ u.bit
  pub polarity : r.polarity ≡ u.polarity
  pub batches : HasBatches bits u r.batches
  pub words : IsReadTo bits u.polarity u.bit r.batches r.words

-- The words in front of a bit, the nearest first: so many.
abbrev pub in_front_of : (bits : List ℕ) → Polarity → (bit count : ℕ) → List ℕ
in_front_of bits polarity bit count = map (λ j. sent_at bits polarity (bit - 32 * j)) (range_with_len 1 count)

-- In front of a synchronisation codeword so many words, which begin behind a held bit, have a repair each, and so many of their bits
-- are wrong. They are the sixteen of a batch, or what is in front of them is held, or past repair.
pub record AreInFront (bits : List ℕ) (held : ℕ) (polarity : Polarity) (bit count errors : ℕ) : Type 0 where
  pub most : count ≤ 16
  pub room : 0 < count → held + 32 * count ≤ bit
  pub mended : List (Option ℕ)
  pub each : AllZip IsMended (in_front_of bits polarity bit count) mended
  pub kept : lost_words mended ≡ 0
  pub wrong : errors ≡ mended_errors (in_front_of bits polarity bit count) mended
  pub ends : (count ≡ 16) ⊎ ((bit < held + 32 * (count + 1)) ⊎ HasNoneNear (sent_at bits polarity (bit - 32 * (count + 1))))

-- A word that is due 32 bits behind this bit is a codeword where it is read so many bits behind it, and none where it is due. An idle
-- codeword is beside whatever is in step, since of two that follow each other 32 bits one bit early are a codeword too.
pub record IsBeside (bits : List ℕ) (polarity : Polarity) (step bit : ℕ) : Type 0 where
  pub beside : IsCodeword (sent_at bits polarity (bit + step))
  pub alone : (¬ IsCodeword (sent_at bits polarity (bit + 32))) ⊎ (sent_at bits polarity (bit + step) ≡ idle_word)

-- One of so many words in front of a bit is a codeword one bit early or late: a bit was lost or doubled there.
pub record SlipsInFront (bits : List ℕ) (polarity : Polarity) (bit count : ℕ) : Type 0 where
  pub nth : ℕ
  pub first : 0 < nth
  pub last : nth ≤ count
  pub room : 32 * (nth + 1) ≤ bit
  pub beside : IsBeside bits polarity 31 (bit - 32 * (nth + 1)) ⊎ IsBeside bits polarity 33 (bit - 32 * (nth + 1))

-- How many words in front are read, if none shows a slip: all, where they are two or more, and at most one bit in three words is wrong.
abbrev pub count_read_in_front : (count errors : ℕ) → ℕ
count_read_in_front count errors = if nat_le 2 count then (if nat_le (3 * errors) count then count else 0) else 0

-- *The batch in front*: of the batch before its first synchronisation codeword a reception has so many words, its last, where what is
-- read of the reception before it ends at a held bit; it has no such batch where there are none.
pub record HasInFront (bits : List ℕ) (held : ℕ) (polarity : Polarity) (bit read : ℕ) : Type 0 where
  pub count : ℕ
  pub errors : ℕ
  pub are : AreInFront bits held polarity bit count errors
  pub slipped : SlipsInFront bits polarity bit count → read ≡ 0
  pub reads : ¬ SlipsInFront bits polarity bit count → read ≡ count_read_in_front count errors

-- The bit behind the last word that is read of a run's batches.
abbrev pub held_end : Run → Reception → ℕ
held_end u r = u.bit + 32 * min r.words (batch_words * u.batches)

-- The receptions from a bit on, where what is read of the one before them ends at a held bit: those of the runs that are on the air. Each run is
-- searched behind the last synchronisation codeword of the run before it, and behind the last run there is none.
pub data AreFound (bits : List ℕ) : (first held : ℕ) → List Reception → Type 0 where
  nothing : {first held : ℕ} → IsQuiet bits first (length bits) → AreFound bits first held []
  counted :
      {first held : ℕ} (u : Run) (r : Reception) (rs : List Reception) →
      IsSyncRun bits first u →
      IsOnAir bits held u →
      IsReception bits u r →
      HasInFront bits held u.polarity u.bit r.words_in_front →
      AreFound bits (last_sync u + 1) (held_end u r) rs →
      AreFound bits first held (r ∷ rs)
  passed :
      {first held : ℕ} (u : Run) (rs : List Reception) →
      IsSyncRun bits first u →
      (¬ IsOnAir bits held u) →
      AreFound bits (last_sync u + 1) held rs →
      AreFound bits first held rs

-- The receptions of the bits of a capture.
abbrev pub AreReceptions : (bits : List ℕ) → List Reception → Type 0
AreReceptions bits rs = AreFound bits 0 0 rs

-- The bit behind a reception's last batch.
abbrev pub behind : Reception → ℕ
behind r = r.bit + batch_bits * r.batches

-- How many batches are in front of a reception's first synchronisation codeword, one or none, and how many it has with those behind it.
abbrev pub batches_in_front : Reception → ℕ
batches_in_front r = if r.words_in_front == 0 then 0 else 1

abbrev pub all_batches : Reception → ℕ
all_batches r = batches_in_front r + r.batches

-- A word of the batch in front by its place: its last words are read.
abbrev pub word_in_front : (bits : List ℕ) → Reception → (place : ℕ) → ℕ
word_in_front bits r place =
    if nat_lt r.words_in_front (batch_words - place) then unread_word else sent_at bits r.polarity (r.bit + 32 * place - batch_bits)

-- A word from the first synchronisation codeword on by its place, that codeword being at 0.
abbrev pub own_word : (bits : List ℕ) → Reception → (place : ℕ) → ℕ
own_word bits r place = if nat_lt place r.words then sent_at bits r.polarity (r.bit + 32 * place) else unread_word

-- A word of a reception by its place in all its batches.
abbrev pub received_word : (bits : List ℕ) → Reception → (place : ℕ) → ℕ
received_word bits r place =
    if nat_lt place (batch_words * batches_in_front r) then word_in_front bits r place else own_word bits r (place - batch_words * batches_in_front r)

-- The words of a reception: those of its batches.
abbrev pub received : (bits : List ℕ) → Reception → List ℕ
received bits r = map (received_word bits r) (range_with_len 0 (batch_words * all_batches r))
