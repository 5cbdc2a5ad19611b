-- What a capture says: the pages of its receptions.
use Rattle.std.specs.Prelude.{◌≡◌, ℕ, Bool, false, List, [], ◌∷◌, Option}
use Rattle.std.specs.List.{AllZip, flat_map}
use Rattle.pocsag_words.specs.declared.codeword.Kind.{Kind}
use Rattle.pocsag_pages.specs.declared.page.Page.{Page}
use Rattle.pocsag_pages.specs.Reading.{Reads}
use Rattle.pocsag_decode.specs.OpenPages.{stays_open, without_orphan}
use Rattle.pocsag_pager.specs.Shown.{HoldsOnceMended}
use Rattle.pocsag_capture.specs.Bits.{capture_bits}
use Rattle.pocsag_capture.specs.Receptions.{AreReceptions, received}
use Rattle.pocsag_capture.specs.declared.reception.Reception.{Reception}

-- What mended words say, one after the other.
abbrev pub without_orphans : (is_open : Bool) → List (Option Kind) → List Kind
without_orphans is_open [] = []
without_orphans is_open (m ∷ ms) = without_orphan is_open m ∷ without_orphans (stays_open is_open m) ms

-- These are the pages of the words of a reception: what they read as, once each is corrected and what is lost counts as idle.
abbrev pub AreCaptured : (words : List ℕ) → List Page → Type 0
AreCaptured words ps = HoldsOnceMended words (λ ms. Reads (without_orphans false ms) 0 ps)

-- *Captured*: the bytes of a capture hold these receptions, and these are the pages of all of them in order.
pub record HasCaptured (capture : List ℕ) (receptions : List Reception) (ps : List Page) : Type 0 where
  pub found : AreReceptions (capture_bits capture) receptions
  pub pages : List (List Page)
  pub each : AllZip (λ r here. AreCaptured (received (capture_bits capture) r) here) receptions pages
  pub all : ps ≡ flat_map (λ here. here) pages
