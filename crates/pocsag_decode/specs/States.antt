-- *Standing*: what a decoder holds of the bytes that it was fed.
use Rattle.std.specs.Prelude.{◌≡◌, ◌≢◌, ℕ, ◌^◌, ◌<◌, ◌≤◌, List, [], ◌++◌, length, map, true, false, is_some, All}
use Rattle.pocsag_words.specs.Kinds.{kind_of}
use Rattle.pocsag_words.specs.declared.codeword.Kind.{Kind}
use Rattle.pocsag_pages.specs.Bytes.{leading, after_preamble, words_of, unsynced}
use Rattle.pocsag_pages.specs.Plain.{pages_from}
use Rattle.pocsag_decode.specs.declared.open_page.PageCollector.{PageCollector}
use Rattle.pocsag_decode.specs.declared.body.Body.{Body}
use Rattle.pocsag_decode.specs.declared.state.Decoder.{Decoder}
use Rattle.pocsag_decode.specs.PartialWords.{partial_bytes, unfinished}
use Rattle.pocsag_decode.specs.OpenPages.{resumed}
use Rattle.pocsag_decode.specs.Places.{AllMayStand, may_follow}

-- So many whole words were read, none of them bad; the pages that they read as so far and whether a
-- message codeword may follow are held.
pub record HasRead (place : ℕ) (growing : PageCollector) (ws : List ℕ) : Type 0 where
  pub count : place ≡ length ws
  pub good : AllMayStand ws
  pub in_page : is_some growing.current ≡ may_follow ws (length ws)
  -- Whatever codewords follow: the finished pages, the open page with what comes of its message, and
  -- the pages that follow.
  pub pages : (ks : List Kind)
      → pages_from 0 (map kind_of (unsynced 0 ws) ++ ks) ≡ growing.pages.items ++ resumed (length (unsynced 0 ws)) growing.current ks

-- The same of bytes after the preamble, with those of a word that is not whole.
pub record HoldsOf (b : Body) (Y : List ℕ) : Type 0 where
  pub read : HasRead b.place b.growing (words_of Y)
  pub partial : partial_bytes b.partial ≡ unfinished Y

-- *Standing*: the decoder has met no fault and no end, and holds of the bytes X what a decoder has to.
pub record HasTakenIn (d : Decoder) (X : List ℕ) : Type 0 where
  pub works : d.has_failed ≡ false
  pub bytes : All (λ b. b < 256) X
  pub few : length X < 2 ^ 64
  pub preamble : d.leading ≡ leading X
  pub past : after_preamble X ≢ [] → 72 ≤ leading X
  pub words : HoldsOf d.body (after_preamble X)

-- The decoder answers `Failed` from now on.
abbrev pub HasStopped : Decoder → Type 0
HasStopped d = d.has_failed ≡ true
