-- What is known of a transmission that has no fault.
use Rattle.std.specs.Prelude.{◌≡◌, ℕ, ◌-◌, ◌*◌, ◌^◌, ◌<◌, List, length, map}
use Rattle.pocsag_words.specs.Kinds.{kind_of}
use Rattle.pocsag_words.specs.declared.codeword.Kind.{Kind}
use Rattle.pocsag_pages.specs.declared.page.Page.{Page}
use Rattle.pocsag_decode.specs.Faults.{ReadsAs}
use Rattle.pocsag_show.specs.declared.judged.Judged.{Judged}
use Rattle.pocsag_show.specs.Grid.{idles_in}
use Rattle.pocsag_show.specs.PageNumbers.{NumbersPages}

-- What the codewords say that the bytes are sent from.
abbrev pub kinds_read : {X : List ℕ} {ps : List Page} → ReadsAs X ps → List Kind
kinds_read reading = map kind_of reading.codewords

-- The bytes read as pages, whose numbers and codewords were counted: whole batches.
pub record IsJudged (X : List ℕ) (judged : Judged) : Type 0 where
  pub bytes : judged.bytes.now ≡ X
  pub pages : List Page
  pub reading : ReadsAs X pages
  pub numbers : NumbersPages pages judged.numbers
  pub batches : length (kinds_read reading) ≡ 16 * judged.counts.batches
  pub codewords : judged.counts.codewords ≡ length (kinds_read reading) - idles_in (kinds_read reading)
  pub idles : judged.counts.idles ≡ idles_in (kinds_read reading)
  pub some : 0 < judged.counts.batches
  pub few : judged.counts.batches < 2 ^ 59
