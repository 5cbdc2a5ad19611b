-- The words after the preamble by their places, counted from 0 with the synchronisation codewords,
-- and what is bad about one: the rules of Annex 1.
use Rattle.std.specs.Prelude.{◌≡◌, ◌≢◌, ℕ, ◌-◌, ◌/◌, ◌%◌, ◌<◌, ◌≤◌, ◌==◌, ◌&&◌, Bool, true, false, not, nat_lt, if◌then◌else◌, List, length, slice_index, IsTrue}
use Rattle.pocsag_words.specs.Codeword.{IsCodeword}
use Rattle.pocsag_words.specs.Kinds.{kind_of}
use Rattle.pocsag_words.specs.declared.codeword.Kind.{Kind}
use Rattle.pocsag_words.specs.declared.codeword.Kind.TheVariants.{Idle, Address, Message}
use Rattle.pocsag_pages.specs.Bytes.{sync_word}
use Rattle.pocsag_decode.specs.declared.fault.DecodeFault.{DecodeFault}
use Rattle.pocsag_decode.specs.declared.fault.DecodeFault.TheVariants as fault

-- Whether the codeword is a message codeword.
abbrev pub is_message : Kind → Bool
is_message Idle = false
is_message (Address high function) = false
is_message (Message bits) = true

-- Whether it is the idle codeword.
abbrev pub is_idle : Kind → Bool
is_idle Idle = true
is_idle (Address high function) = false
is_idle (Message bits) = false

-- The index of the codeword at a place: every seventeenth word, the first among them, is a
-- synchronisation codeword and has no index.
abbrev pub index_at : ℕ → ℕ
index_at j = j - j / 17 - 1

-- The place of the codeword before it.
abbrev pub before : ℕ → ℕ
before j = if j % 17 == 1 then j - 2 else j - 1

-- Whether a message codeword may stand at a place: not at index 0, which is place 1, nor directly
-- after an idle.
abbrev pub may_follow : List ℕ → ℕ → Bool
may_follow ws j = nat_lt 1 j && not (is_idle (kind_of (slice_index ws (before j))))

-- The word at a place is bad in this way.
pub data IsBad : List ℕ → ℕ → DecodeFault → Type 0 where
  no_sync : {ws : List ℕ} {j : ℕ} → j % 17 ≡ 0 → slice_index ws j ≢ sync_word → IsBad ws j (fault.NoSync (j / 17))
  bad_word : {ws : List ℕ} {j : ℕ} → j % 17 ≢ 0 → ¬ IsCodeword (slice_index ws j) → IsBad ws j (fault.BadWord (index_at j))
  orphan : {ws : List ℕ} {j : ℕ} → j % 17 ≢ 0 → IsCodeword (slice_index ws j) → IsTrue (is_message (kind_of (slice_index ws j)))
      → may_follow ws j ≡ false → IsBad ws j (fault.Orphan (index_at j))

-- The word at a place is not bad.
pub record MayStandAt (ws : List ℕ) (j : ℕ) : Type 0 where
  pub sync : j % 17 ≡ 0 → slice_index ws j ≡ sync_word
  pub codeword : j % 17 ≢ 0 → IsCodeword (slice_index ws j)
  pub follows : j % 17 ≢ 0 → IsTrue (is_message (kind_of (slice_index ws j))) → IsTrue (may_follow ws j)

abbrev pub AllMayStand : List ℕ → Type 0
AllMayStand ws = (j : ℕ) → j < length ws → MayStandAt ws j

-- The least bad word is bad in this way.
pub record HasBadWord (ws : List ℕ) (f : DecodeFault) : Type 0 where
  pub place : ℕ
  pub there : place < length ws
  pub bad : IsBad ws place f
  pub least : (j : ℕ) → j < place → MayStandAt ws j

-- From this place on there is one at which a page or an item has to be kept: the words up to it are good, and it is
-- a codeword before which a page is open, so that it ends the page or continues it.
pub record KeepsFrom (ws : List ℕ) (first : ℕ) : Type 0 where
  pub place : ℕ
  pub later : first ≤ place
  pub there : place < length ws
  pub codeword : place % 17 ≢ 0
  pub follows : IsTrue (may_follow ws place)
  pub good : (j : ℕ) → j ≤ place → MayStandAt ws j
