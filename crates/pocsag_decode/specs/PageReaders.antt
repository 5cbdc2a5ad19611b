-- Pages that are handed out one after the other.
use Rattle.std.specs.Prelude.{ℕ, ◌+◌, ◌-◌, ◌/◌, List, drop, map}
use Rattle.std.specs.Int.{from_be_bytes, w32}
use Rattle.pocsag_words.specs.Kinds.{kind_of}
use Rattle.pocsag_words.specs.declared.codeword.Kind.{Kind}
use Rattle.pocsag_pages.specs.declared.page.Page.{Page}
use Rattle.pocsag_pages.specs.Bytes.{unsynced}
use Rattle.pocsag_decode.specs.OpenPages.{resumed}
use Rattle.pocsag_decode.specs.declared.page_reader.PageReader.{PageReader}

-- How many codewords stand before a place.
abbrev pub codewords_before : ℕ → ℕ
codewords_before j = j - (j + 16) / 17

-- What the codewords from a place on say.
abbrev pub kinds_left : ℕ → (words : List (List ℕ)) → List Kind
kinds_left j words = map kind_of (unsynced j (map (from_be_bytes w32) (drop j words)))

-- The pages that a reader has still to hand out: its open page with what comes of its message, and those of the codewords that it
-- has not read.
abbrev pub pages_left : PageReader → List Page
pages_left r = resumed (codewords_before r.place) r.current (kinds_left r.place r.words.now)
