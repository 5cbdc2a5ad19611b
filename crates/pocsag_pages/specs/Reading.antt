-- What a transmission says, over the kinds of its codewords: the rules of Annex 1 on frames, address
-- codewords and the message codewords after them.
use Rattle.std.specs.Prelude.{◌≡◌, ◌≢◌, ℕ, ◌+◌, ◌*◌, ◌/◌, ◌%◌, ◌<◌, List, [], ◌∷◌, ◌++◌, length, map, All, Contains, slice_index_or}
use Rattle.pocsag_words.specs.Codeword.{IsCodeword}
use Rattle.pocsag_words.specs.Kinds.{kind_of}
use Rattle.pocsag_words.specs.declared.codeword.Kind.{Kind}
use Rattle.pocsag_words.specs.declared.codeword.Kind.TheVariants.{Idle, Address, Message}
use Rattle.pocsag_words.specs.declared.ending.End.{End}
use Rattle.pocsag_words.specs.declared.ending.End.TheVariants as ends
use Rattle.pocsag_pages.specs.declared.page.Page.{Page}

-- How many codewords a batch has, the synchronisation codeword not counted (a rule of Annex 1).
abbrev pub batch_length : ℕ
batch_length = 16

-- *Batch list*: whole batches of sixteen codewords each, at least one.
abbrev pub IsBatchList : {X : Type 0} → ℕ → List X → Type 0
IsBatchList batches ws = (0 < batches) × (length ws ≡ batch_length * batches)

-- The frame of the codeword at an index, synchronisation codewords not counted.
abbrev pub frame_at : ℕ → ℕ
frame_at i = i % batch_length / 2

-- No message codeword stands first.
abbrev pub BeginsNoMessage : List Kind → Type 0
BeginsNoMessage [] = Unit {0}
BeginsNoMessage (Idle ∷ ws) = Unit {0}
BeginsNoMessage (Address high function ∷ ws) = Unit {0}
BeginsNoMessage (Message bits ∷ ws) = ⊥

-- *Reading*: the codewords, the first of them at this index, read as these pages. There are three
-- cases and no others. The frame gives the three low bits of the address, and the message of a page
-- is the whole run of message codewords after its address codeword.
pub data Reads : List Kind → ℕ → List Page → Type 0 where
  at_end : {i : ℕ} → Reads [] i []
  past_idle : {i : ℕ} {ws : List Kind} {ps : List Page} → Reads ws (i + 1) ps → Reads (Idle ∷ ws) i ps
  past_page :
      {i high function : ℕ} {ws : List Kind} {ps : List Page} →
      (items : List ℕ) (rest : List Kind) →
      ws ≡ map Message items ++ rest →
      BeginsNoMessage rest →
      Reads rest (i + 1 + length items) ps →
      Reads (Address high function ∷ ws) i
      (record { address = 8 * high + frame_at i; function = function; payload = items } ∷ ps)

-- *Legal*: whole batches that read as the pages of the round, in some order (the addresses of a
-- round are distinct).
pub record IsLegal (T : List Kind) (batches : ℕ) (R : List Page) : Type 0 where
  pub whole : IsBatchList batches T
  pub ps : List Page
  pub reads : Reads T 0 ps
  pub as_many : length ps ≡ length R
  pub each : All (Contains ps) R

-- The last codeword is no message codeword.
abbrev pub EndsWhole : List Kind → Type 0
EndsWhole [] = Unit {0}
EndsWhole (w ∷ []) = BeginsNoMessage (w ∷ [])
EndsWhole (w ∷ v ∷ ws) = EndsWhole (v ∷ ws)

-- The last codeword is an idle one.
abbrev pub EndsIdle : List Kind → Type 0
EndsIdle [] = ⊥
EndsIdle (w ∷ []) = w ≡ Idle
EndsIdle (w ∷ v ∷ ws) = EndsIdle (v ∷ ws)

-- The end that was asked for (this project's own; with the open end nothing more is asked).
abbrev pub EndsAs : End → List Kind → Type 0
EndsAs ends.Open ws = Unit {0}
EndsAs ends.Closed ws = EndsWhole ws
EndsAs ends.Idle ws = EndsIdle ws

-- *Legal* for the open end, *Legal with the closed end*, and *Legal with the idle end*.
abbrev pub IsLegalFor : End → List Kind → ℕ → List Page → Type 0
IsLegalFor end T batches R = IsLegal T batches R × EndsAs end T

-- The same of a list of codewords.
abbrev pub ReadsWords : List ℕ → List Page → Type 0
ReadsWords ws ps = Reads (map kind_of ws) 0 ps

abbrev pub IsLegalList : End → List ℕ → ℕ → List Page → Type 0
IsLegalList end T batches R = All IsCodeword T × IsLegalFor end (map kind_of T) batches R

-- The addresses of the pages are distinct.
abbrev pub AreApart : List Page → Type 0
AreApart R = (j k : ℕ) (d : Page) → j < k → k < length R → (slice_index_or R j d).address ≢ (slice_index_or R k d).address

-- The codewords of a page, and how many they are: its address codeword and then its message
-- codewords (rules of Annex 1).
abbrev pub page_words : Page → List Kind
page_words p = Address (p.address / 8) p.function ∷ map Message p.payload

abbrev pub page_length : Page → ℕ
page_length p = 1 + length p.payload
