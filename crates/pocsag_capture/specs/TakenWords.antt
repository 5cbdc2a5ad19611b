-- What one word changes.
use Rattle.std.specs.Prelude.{◌≡◌, ℕ, ◌+◌, if◌then◌else◌, Bool, true, Option, Some, None, bit_xor, count_ones}
use Rattle.pocsag_words.specs.Codeword.{IsCodeword}
use Rattle.pocsag_words.specs.Kinds.{kind_of}
use Rattle.pocsag_words.specs.declared.codeword.Kind.{Kind}
use Rattle.pocsag_words.specs.declared.codeword.Kind.TheVariants.{Idle, Address, Message}
use Rattle.pocsag_pages.specs.Bytes.{sync_word}
use Rattle.pocsag_decode.specs.OpenPages.{stays_open, without_orphan}
use Rattle.pocsag_pager.specs.Shown.{IsMended, said}
use Rattle.pocsag_capture.specs.Extracted.{far_words, near_errors}
use Rattle.pocsag_capture.specs.Lost.{wrong_bits}
use Rattle.pocsag_capture.specs.declared.corrector.WordCorrector.{WordCorrector}

-- Whether a word is past repair.
abbrev pub is_lost : Option ℕ → ℕ
is_lost None = 1
is_lost (Some v) = 0

-- Where the open page ends at a word, whether it is cut there: at a word past repair or out of step it is.
abbrev pub end_by : (is_out_of_step is_open : Bool) → Option Kind → Option Bool
end_by is_out_of_step is_open None = if is_open then Some true else None
end_by is_out_of_step is_open (Some Idle) = if is_open then Some is_out_of_step else None
end_by is_out_of_step is_open (Some (Address high function)) = if is_open then Some is_out_of_step else None
end_by is_out_of_step is_open (Some (Message bits)) = None

-- How many pages are cut where one ends so.
abbrev pub cut_by : (ended : Option Bool) → ℕ
cut_by None = 0
cut_by (Some is_cut) = if is_cut then 1 else 0

-- The word at the place of a synchronisation codeword was counted.
pub record CountsSync (before after : WordCorrector) (word : ℕ) : Type 0 where
  pub open_page : after.is_open ≡ before.is_open
  pub bits : after.corrected ≡ before.corrected + near_errors (count_ones (bit_xor sync_word word))
  pub beyond : after.lost ≡ before.lost + far_words (count_ones (bit_xor sync_word word))
  pub cuts : after.cut ≡ before.cut

-- The word was taken, which may be out of step, and is corrected to this codeword; and the open page ends at it as this says.
pub record TakesWord (before after : WordCorrector) (is_out_of_step : Bool) (word codeword : ℕ) (ended : Option Bool) : Type 0 where
  pub mended : Option ℕ
  pub is_mended : IsMended word mended
  pub is_codeword : IsCodeword codeword
  pub kind : kind_of codeword ≡ without_orphan before.is_open (said mended)
  pub open_after : after.is_open ≡ stays_open before.is_open (said mended)
  pub ends : ended ≡ end_by is_out_of_step before.is_open (said mended)
  pub bits : after.corrected ≡ before.corrected + wrong_bits word mended
  pub beyond : after.lost ≡ before.lost + is_lost mended
  pub cuts : after.cut ≡ before.cut + cut_by ended
