-- What a reader of the pages of a reception still hands out: what the words say that are left (this project's own).
use Rattle.std.specs.Prelude.{◌≡◌, ℕ, ◌+◌, ◌-◌, ◌*◌, ◌^◌, ◌<◌, ◌≤◌, if◌then◌else◌, Bool, false, List, [], ◌∷◌, ◌++◌, All, length, map, Option, Some, None, Result, Ok, Err, IsTrue, is_some}
use Rattle.std.specs.List.{AllZip, range_with_len}
use Rattle.pocsag_words.specs.Frame.{batch_words, input_limit}
use Rattle.pocsag_words.specs.Kinds.{kind_of}
use Rattle.pocsag_pages.specs.declared.page.Page.{Page}
use Rattle.pocsag_pages.specs.Bytes.{unsynced}
use Rattle.pocsag_pages.specs.Listable.{IsListable}
use Rattle.pocsag_decode.specs.OpenPages.{closed, resumed}
use Rattle.pocsag_decode.specs.PageReaders.{codewords_before}
use Rattle.pocsag_pager.specs.Shown.{IsMended, said}
use Rattle.pocsag_capture.specs.Bits.{capture_bits}
use Rattle.pocsag_capture.specs.CapturedPages.{without_orphans}
use Rattle.pocsag_capture.specs.Extracted.{count_cut, cuts_from, lost_synchronisations, synchronisation_errors}
use Rattle.pocsag_capture.specs.Lost.{lost_words, mended_errors}
use Rattle.pocsag_capture.specs.PageEnds.{IsCapturedTransmission}
use Rattle.pocsag_capture.specs.Receptions.{all_batches, behind, received_word}
use Rattle.pocsag_capture.specs.declared.captured_pages.CapturedPage.{CapturedPage}
use Rattle.pocsag_capture.specs.declared.captured_pages.CapturedPages.{CapturedPages}
use Rattle.pocsag_capture.specs.declared.corrector.WordCorrector.{WordCorrector}
use Rattle.pocsag_capture.specs.declared.reception.Reception.{Reception}
use Rattle.pocsag_capture.specs.declared.reception.ReceptionStats.{ReceptionStats}

-- The words of a reception from this place on.
abbrev pub words_from : (bits : List ℕ) → Reception → (place : ℕ) → List ℕ
words_from bits r place = map (received_word bits r) (range_with_len place (batch_words * all_batches r - place))

-- *Received in the end*: the words from a place on are mended to these and corrected to these, and so many are in step; the pages that
-- end at them or behind them have these states; and with what was counted in front of them the reception is received so.
pub record IsReceivedFrom (bits : List ℕ) (r : Reception) (steady place : ℕ) (before : WordCorrector) (mended : List (Option ℕ)) (codewords : List ℕ) (cuts : List Bool) (heard : ReceptionStats) : Type 0 where
  pub each : AllZip IsMended (unsynced place (words_from bits r place)) mended
  pub kinds : map kind_of codewords ≡ without_orphans before.is_open (map said mended)
  pub states : cuts ≡ cuts_from (16 * steady) (codewords_before place) before.is_open (map said mended)
  pub reception : heard.reception ≡ r
  pub in_step : heard.steady ≡ steady
  pub bits_wrong : heard.corrected ≡ before.corrected
      + (synchronisation_errors place (words_from bits r place) + mended_errors (unsynced place (words_from bits r place)) mended)
  pub beyond : heard.lost ≡ before.lost + (lost_synchronisations place (words_from bits r place) + lost_words mended)
  pub cut : heard.cut ≡ before.cut + count_cut cuts

-- *Left*: these are the pages that are left, with these states: the open page with what comes of its message, and those of the words
-- that are left; and in the end the reception is received so.
pub record AreLeft (walk : CapturedPages) (ps : List Page) (cuts : List Bool) (heard : ReceptionStats) : Type 0 where
  pub mended : List (Option ℕ)
  pub codewords : List ℕ
  pub received : IsReceivedFrom (capture_bits walk.capture.now) walk.reception walk.steady walk.place walk.corrector mended codewords cuts heard
  pub pages : ps ≡ resumed (codewords_before walk.place) walk.current (without_orphans walk.corrector.is_open (map said mended))

-- There are pages that are left, and in the end the reception is received so.
abbrev pub EndsReceived : CapturedPages → ReceptionStats → Type 0
EndsReceived walk heard = (ps : List Page) × (cuts : List Bool) × AreLeft walk ps cuts heard

-- *Reads a reception*: whatever pages are left, with their states and with how the reception is received in the end, they are its
-- captured transmission.
abbrev pub ReadsReception : (bits : List ℕ) → Reception → CapturedPages → Type 0
ReadsReception bits r walk =
    (number : ℕ) (ps : List Page) (cuts : List Bool) (heard : ReceptionStats) → AreLeft walk ps cuts heard
    → IsCapturedTransmission bits (record { number = number; heard = heard; pages = ps; cuts = cuts }) × (heard.reception ≡ r)

-- The page that is handed out, and its state.
abbrev pub handed_pages : Option CapturedPage → List Page
handed_pages None = []
handed_pages (Some c) = c.page ∷ []

abbrev pub handed_cuts : Option CapturedPage → List Bool
handed_cuts None = []
handed_cuts (Some c) = c.is_cut ∷ []

-- *Handed out*: what was left is the page that was handed out, if one was, and then what is left now.
abbrev pub HandsOut : {E : Type 0} → (before after : CapturedPages) → Result (Option CapturedPage) E → Type 0
HandsOut before after (Ok page) =
    (ps : List Page) (cuts : List Bool) (heard : ReceptionStats) → AreLeft after ps cuts heard
    → AreLeft before (handed_pages page ++ ps) (handed_cuts page ++ cuts) heard
HandsOut before after (Err e) =
    (ps : List Page) (cuts : List Bool) (heard : ReceptionStats) → AreLeft after ps cuts heard → AreLeft before ps cuts heard

-- What reading goes by: the capture is no larger than is read, the place is none behind the last word, the open page may be listed, and
-- no count is larger than so many words can make it.
pub record CanRead (walk : CapturedPages) : Type 0 where
  pub few : length walk.capture.now ≤ input_limit
  pub end : behind walk.reception < 2 ^ 60
  pub within : walk.place ≤ batch_words * all_batches walk.reception
  pub in_step : walk.steady ≤ all_batches walk.reception
  pub open_page : is_some walk.current ≡ walk.corrector.is_open
  pub listable : All IsListable (closed walk.current)
  pub few_bits : walk.corrector.corrected ≤ 32 * walk.place
  pub few_lost : walk.corrector.lost ≤ walk.place
  pub few_cut : walk.corrector.cut ≤ walk.place + 1
  pub few_before : IsTrue walk.corrector.is_open → walk.corrector.cut ≤ walk.place

-- All pages were handed out.
pub record IsHandedOut (walk : CapturedPages) : Type 0 where
  pub all : walk.place ≡ batch_words * all_batches walk.reception
  pub none : walk.current ≡ None
  pub closes : walk.corrector.is_open ≡ false

-- A bound of the pages that are left, which falls with each that is handed out: two for each word that is left, and the open one.
abbrev pub most_left : CapturedPages → ℕ
most_left walk = 2 * (batch_words * all_batches walk.reception - walk.place) + (if walk.corrector.is_open then 1 else 0)
