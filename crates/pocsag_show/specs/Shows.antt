-- What showing a transmission leaves of its writer, and when each fault comes.
use Rattle.std.specs.Prelude.{◌≡◌, ℕ, ◌+◌, ◌<◌, List, ◌++◌, length, map}
use Rattle.pocsag_words.specs.Devices.{TookPrefix}
use Rattle.pocsag_words.specs.declared.codeword.Kind.{Kind}
use Rattle.pocsag_words.specs.Kinds.{kind_of}
use Rattle.pocsag_pages.specs.declared.page.Page.{Page}
use Rattle.pocsag_decode.specs.Faults.{HasFault, ReadsAs}
use Rattle.pocsag_decode.specs.declared.fault.ListFault.{ListFault}
use Rattle.pocsag_decode.specs.declared.fault.ListFault.TheVariants as list
use Rattle.pocsag_show.specs.declared.fault.ShowFault.{ShowFault}
use Rattle.pocsag_show.specs.declared.fault.ShowFault.TheVariants as fault

-- The bytes are sent from codewords that read as pages, and this is the text of those codewords and
-- pages.
pub record IsTextOf (text_of : List Kind → List Page → List ℕ) (X shown : List ℕ) : Type 0 where
  pub pages : List Page
  pub reading : ReadsAs X pages
  pub text : shown ≡ text_of (map kind_of reading.codewords) pages

-- What was taken more is the text of the bytes.
pub record Shows (text_of : List Kind → List Page → List ℕ) (X before after : List ℕ) : Type 0 where
  pub shown : List ℕ
  pub is_text : IsTextOf text_of X shown
  pub taken : after ≡ before ++ shown

-- What was taken more is a prefix of it.
pub record ShowsPart (text_of : List Kind → List Page → List ℕ) (X before after : List ℕ) : Type 0 where
  pub shown : List ℕ
  pub is_text : IsTextOf text_of X shown
  pub taken : TookPrefix before after shown

-- The same, and it is not all of it.
pub record ShowsLess (text_of : List Kind → List Page → List ℕ) (X before after : List ℕ) : Type 0 where
  pub shown : List ℕ
  pub is_text : IsTextOf text_of X shown
  pub taken : TookPrefix before after shown
  pub less : length after < length before + length shown

-- When each fault comes: the decoder's where the bytes have it, and the others for bytes that read as pages.
abbrev pub Explains : List ℕ → ShowFault → Type 0
Explains X (fault.Transmission f) = HasFault X f
Explains X fault.WriteFault = (pages : List Page) × ReadsAs X pages
Explains X fault.OutOfMemory = (pages : List Page) × ReadsAs X pages

-- The fault of a listing that is written.
abbrev pub of_list : ListFault → ShowFault
of_list list.WriteFault = fault.WriteFault
of_list list.OutOfMemory = fault.OutOfMemory
