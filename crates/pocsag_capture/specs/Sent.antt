-- Captures that hold what was sent (this project's own).
use Rattle.std.specs.Prelude.{◌≡◌, ◌⊎◌, ℕ, ◌-◌, ◌^◌, ◌<◌, List, ◌++◌, length, map, All}
use Rattle.std.specs.List.{AllZip, flat_map}
use Rattle.pocsag_words.specs.Codeword.{IsCodeword, IsNear}
use Rattle.pocsag_words.specs.Kinds.{kind_of}
use Rattle.pocsag_pages.specs.declared.page.Page.{Page}
use Rattle.pocsag_pages.specs.Bytes.{synced}
use Rattle.pocsag_pages.specs.Reading.{EndsIdle, IsBatchList, ReadsWords}
use Rattle.pocsag_decode.specs.Faults.{ReadsAs}
use Rattle.pocsag_text.specs.Bits.{high_first}
use Rattle.pocsag_capture.specs.Bits.{as_sent}
use Rattle.pocsag_capture.specs.Receptions.{IsLikeSynchronised, IsQuiet, IsSynchronised}
use Rattle.pocsag_capture.specs.declared.polarity.Polarity.{Polarity}

-- These bits are received of batches that read as these pages: each word, synchronisation codewords included, with at most
-- two wrong bits, and all of them in this polarity.
pub record IsReceived (polarity : Polarity) (ps : List Page) (bits : List ℕ) : Type 0 where
  pub codewords : List ℕ
  pub batches : ℕ
  pub whole : IsBatchList batches codewords
  pub are : All IsCodeword codewords
  pub reads : ReadsWords codewords ps
  pub words : List ℕ
  pub fit : All (λ w. w < 2 ^ 32) words
  pub near : AllZip IsNear (synced 0 codewords) words
  pub sent : bits ≡ flat_map (high_first 32) (map (as_sent polarity) words)

-- Nothing goes on behind a transmission: in its polarity no 32 bits that differ from the synchronisation codeword in at most
-- seven follow its last batch, and none that differ in at most two follow one batch later.
pub record NothingFollows (polarity : Polarity) (after : List ℕ) : Type 0 where
  pub ends : ¬ IsLikeSynchronised after 0 polarity
  pub stays : ¬ IsSynchronised after 544 polarity

-- *A capture that holds a sent transmission*: its batches as they were received, with any bits before and after. No bit of the
-- 544 before it begins 32 bits that differ from the synchronisation codeword in at most two, in either polarity. Its last
-- codeword is idle, or nothing goes on behind it.
pub record HoldsSent (bits : List ℕ) (ps : List Page) : Type 0 where
  pub before : List ℕ
  pub batches : List ℕ
  pub after : List ℕ
  pub whole : bits ≡ before ++ (batches ++ after)
  pub polarity : Polarity
  pub received : IsReceived polarity ps batches
  pub quiet : IsQuiet bits (length before - 544) (length before)
  pub ended : EndsIdle (map kind_of received.codewords) ⊎ NothingFollows polarity after

-- Pages stand among others, one behind the other.
pub record StandAmong (ps qs : List Page) : Type 0 where
  pub front : List Page
  pub back : List Page
  pub whole : qs ≡ front ++ (ps ++ back)

-- The bytes are a transmission that reads as pages among which these are.
pub record ReadsAmong (bytes : List ℕ) (ps : List Page) : Type 0 where
  pub pages : List Page
  pub among : StandAmong ps pages
  pub reads : ReadsAs bytes pages
