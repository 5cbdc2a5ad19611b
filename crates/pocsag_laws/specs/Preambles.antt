-- A transmission that begins as it was sent.
use Rattle.std.specs.Prelude.{ℕ, List, [], ◌∷◌, ◌++◌, map, replicate}
use Rattle.std.specs.List.{flat_map}
use Rattle.pocsag_pages.specs.Bytes.{sync_word}
use Rattle.pocsag_text.specs.Bits.{high_first}
use Rattle.pocsag_capture.specs.Bits.{as_sent}
use Rattle.pocsag_capture.specs.declared.polarity.Polarity.{Polarity}

-- The bits of a preamble of 576 bits and of the synchronisation codeword behind it, as they are received in a polarity.
abbrev pub clean_start : Polarity → List ℕ
clean_start polarity = flat_map (high_first 32) (map (as_sent polarity) (replicate 18 0xaaaaaaaa ++ sync_word ∷ []))
