-- Which pages are cut, and which stand whole in a capture (this project's own).
use Rattle.std.specs.Prelude.{◌≡◌, ◌⊎◌, ℕ, ◌+◌, ◌*◌, ◌<◌, Bool, false, List, [], ◌∷◌, ◌++◌, length, map, All, Some}
use Rattle.std.specs.List.{AllZip, flat_map}
use Rattle.pocsag_words.specs.declared.codeword.Kind.TheVariants.{Idle, Address, Message}
use Rattle.pocsag_pages.specs.declared.page.Page.{Page}
use Rattle.pocsag_pages.specs.Reading.{frame_at}
use Rattle.pocsag_pager.specs.Shown.{HoldsOnceMended}
use Rattle.pocsag_pager.specs.Turns.{IsHeardAs}
use Rattle.pocsag_capture.specs.Bits.{capture_bits}
use Rattle.pocsag_capture.specs.CapturedPages.{AreCaptured}
use Rattle.pocsag_capture.specs.Extracted.{page_cuts}
use Rattle.pocsag_capture.specs.ExtractedBytes.{IsStatsOf}
use Rattle.pocsag_capture.specs.Receptions.{AreReceptions, received}
use Rattle.pocsag_capture.specs.declared.reception.ReceptionStats.{ReceptionStats}

-- *State*: of each page of the words of a reception, of whose codewords so many are in step, in order, whether it is cut; a page that is
-- not cut is whole.
abbrev pub AreCutsOf : (words : List ℕ) → (steady : ℕ) → List Bool → Type 0
AreCutsOf words steady cuts = HoldsOnceMended words (λ ms. cuts ≡ page_cuts steady 0 ms)

-- The word is within two bits of an idle or an address codeword, and of no other codeword: it ends a page.
abbrev pub IsPageEnd : ℕ → Type 0
IsPageEnd word = IsHeardAs word (Some Idle) ⊎ ((high : ℕ) × (function : ℕ) × IsHeardAs word (Some (Address high function)))

-- *Whole*: among the words that are at the places of codewords these stand one behind the other: one of the address codeword of the
-- page, in its frame; one of each of its message codewords, in order; and one that ends the page. Each is within two bits of its
-- codeword, and of no other codeword; and all are in step, where so many of the words are.
pub record StandsWhole (words : List ℕ) (steady : ℕ) (p : Page) : Type 0 where
  pub before : List ℕ
  pub call : ℕ
  pub run : List ℕ
  pub ending : ℕ
  pub after : List ℕ
  pub parts : words ≡ before ++ (call ∷ (run ++ (ending ∷ after)))
  pub high : ℕ
  pub address : p.address ≡ 8 * high + frame_at (length before)
  pub calls : IsHeardAs call (Some (Address high p.function))
  pub carries : AllZip (λ (word bits : ℕ). IsHeardAs word (Some (Message bits))) run p.payload
  pub ends : IsPageEnd ending
  pub in_step : length before + (1 + length run) < steady

-- Of these pages each that is not cut stands whole among the words.
abbrev pub UncutStandWhole : (words : List ℕ) → (steady : ℕ) → List Page → (cuts : List Bool) → Type 0
UncutStandWhole words steady ps cuts = AllZip (λ (p : Page) (is_cut : Bool). is_cut ≡ false → StandsWhole words steady p) ps cuts

-- A transmission in a capture, as it was read: its number, counted from 1, how it was received, and its pages in order, of each of them
-- whether it is cut.
pub record CapturedTransmission : Type 0 where
  pub number : ℕ
  pub heard : ReceptionStats
  pub pages : List Page
  pub cuts : List Bool

-- *Captured transmission*: the pages of a reception, of each of them whether it is cut, and how the reception was received.
pub record IsCapturedTransmission (bits : List ℕ) (c : CapturedTransmission) : Type 0 where
  pub pages : AreCaptured (received bits c.heard.reception) c.pages
  pub cuts : AreCutsOf (received bits c.heard.reception) (16 * c.heard.steady) c.cuts
  pub told : IsStatsOf bits c.heard

-- The transmissions are numbered in order, from this number on.
abbrev pub AreNumbered : ℕ → List CapturedTransmission → Type 0
AreNumbered n [] = Unit {0}
AreNumbered n (c ∷ cs) = (c.number ≡ n) × AreNumbered (n + 1) cs

-- *Transmissions of a capture*: its bytes hold these receptions, and these are the pages of each of them, with their states, in order.
pub record HasTransmissions (capture : List ℕ) (cs : List CapturedTransmission) : Type 0 where
  pub found : AreReceptions (capture_bits capture) (map (λ (c : CapturedTransmission). c.heard.reception) cs)
  pub each : All (IsCapturedTransmission (capture_bits capture)) cs
  pub numbers : AreNumbered 1 cs

-- The pages of transmissions, one behind the other.
abbrev pub pages_captured : List CapturedTransmission → List Page
pages_captured cs = flat_map (λ here. here) (map (λ (c : CapturedTransmission). c.pages) cs)
