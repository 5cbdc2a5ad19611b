-- What `decode` and `hear` print of bytes, and why they print nothing.
use Rattle.std.specs.Prelude.{◌≡◌, ◌⊎◌, ℕ, List, None, Some}
use Rattle.pocsag_pages.specs.declared.page.Page.{Page}
use Rattle.pocsag_pages.specs.Bytes.{after_preamble, words_of}
use Rattle.pocsag_decode.specs.Faults.{HasFault, ReadsAs}
use Rattle.pocsag_pager.specs.Faults.{hearing_fault}
use Rattle.pocsag_pager.specs.Shown.{AreShown, ShowsSome}
use Rattle.pocsag_pager.specs.declared.fault.PagerFault.TheVariants as hearing
use Rattle.pocsag_shell.specs.declared.fault.FileFault.TheVariants as file
use Rattle.pocsag_receiver.specs.Forms.{listed_in}
use Rattle.pocsag_receiver.specs.declared.fault.ReceiverFault.{ReceiverFault}
use Rattle.pocsag_receiver.specs.declared.fault.ReceiverFault.TheVariants as fault
use Rattle.pocsag_receiver.specs.declared.form.ListForm.{ListForm}
use Rattle.pocsag_receiver.specs.declared.hear.Hearing.{Hearing}

-- `decode`: the text is the pages that the bytes read as, in a form.
pub record IsDecoded (form : ListForm) (bytes text : List ℕ) : Type 0 where
  pub pages : List Page
  pub reads : ReadsAs bytes pages
  pub listed : text ≡ listed_in form pages

-- The bytes have this fault, of which they have one at most; or they read as pages, and memory was refused.
abbrev pub ExplainsDecoding : (bytes : List ℕ) → ReceiverFault → Type 0
ExplainsDecoding bytes (fault.Transmission f) = HasFault bytes f
ExplainsDecoding bytes (fault.File file.OutOfMemory) = (pages : List Page) × ReadsAs bytes pages
ExplainsDecoding bytes _ = ⊥

-- `hear`: the text is the pages that a pager of the address shows of the bytes, in a form.
pub record IsHeard (hearing : Hearing) (bytes text : List ℕ) : Type 0 where
  pub taken : hearing_fault hearing.address bytes ≡ None
  pub pages : List Page
  pub shown : AreShown (words_of (after_preamble bytes)) hearing.address pages
  pub listed : text ≡ listed_in hearing.form pages

-- The address or the bytes have this fault; or they have none, and memory was refused, to the pager only where it shows a page.
abbrev pub ExplainsHearing : (address : ℕ) → (bytes : List ℕ) → ReceiverFault → Type 0
ExplainsHearing address bytes (fault.Pager f) =
    (hearing_fault address bytes ≡ Some f)
    ⊎ ((f ≡ hearing.OutOfMemory) × (hearing_fault address bytes ≡ None) × ShowsSome (words_of (after_preamble bytes)) address)
ExplainsHearing address bytes (fault.File file.OutOfMemory) = hearing_fault address bytes ≡ None
ExplainsHearing address bytes _ = ⊥
