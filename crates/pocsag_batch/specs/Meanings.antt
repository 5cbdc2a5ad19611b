-- Codewords that are known by what they say, and what is written of them.
use Rattle.std.specs.Prelude.{◌≡◌, ℕ, List, ◌++◌}
use Rattle.pocsag_words.specs.Devices.{TookPrefix}
use Rattle.pocsag_words.specs.declared.codeword.Kind.{Kind}
use Rattle.pocsag_pages.specs.Bytes.{bytes_of}
pub use Rattle.pocsag_slots.specs.Meanings.{IsSayable, Say}

-- What was taken more is the transmission of the codewords that in order say this.
pub record Sends (said : List Kind) (before after : List ℕ) : Type 0 where
  pub words : List ℕ
  pub say : Say said words
  pub taken : after ≡ before ++ bytes_of words

-- What was taken more is a prefix of that transmission.
pub record SendsPart (said : List Kind) (before after : List ℕ) : Type 0 where
  pub words : List ℕ
  pub say : Say said words
  pub part : TookPrefix before after (bytes_of words)
