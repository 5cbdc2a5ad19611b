-- A reception as a transmission: its words corrected.
use Rattle.std.specs.Prelude.{◌≡◌, ℕ, ◌+◌, ◌%◌, ◌==◌, nat_le, if◌then◌else◌, List, [], ◌∷◌, ◌++◌, filter, length, map, Bool, true, false, Option, Some, None, bit_xor, count_ones, option_to_list}
use Rattle.std.specs.List.{AllZip}
use Rattle.pocsag_words.specs.Frame.{batch_words}
use Rattle.pocsag_words.specs.Kinds.{kind_of}
use Rattle.pocsag_words.specs.declared.codeword.Kind.{Kind}
use Rattle.pocsag_words.specs.declared.codeword.Kind.TheVariants.{Idle, Address, Message}
use Rattle.pocsag_pages.specs.Bytes.{sync_word, unsynced}
use Rattle.pocsag_pager.specs.Shown.{IsMended, said}
use Rattle.pocsag_capture.specs.CapturedPages.{without_orphans}
use Rattle.pocsag_capture.specs.Lost.{lost_words, mended_errors}

-- Of a word that differs from the one that is due in so many bits: how many bits are corrected, and how many words are lost.
abbrev pub near_errors : (wrong : ℕ) → ℕ
near_errors wrong = if nat_le wrong 2 then wrong else 0

abbrev pub far_words : (wrong : ℕ) → ℕ
far_words wrong = if nat_le wrong 2 then 0 else 1

-- The sum, over the words at the places of synchronisation codewords, of a count of the bits in which each differs from it; the first
-- word is at this place.
abbrev pub sum_at_synchronisations : (count : ℕ → ℕ) → (place : ℕ) → List ℕ → ℕ
sum_at_synchronisations count j [] = 0
sum_at_synchronisations count j (w ∷ ws) =
    (if j % batch_words == 0 then count (count_ones (bit_xor sync_word w)) else 0) + sum_at_synchronisations count (j + 1) ws

-- In how many bits the words at these places differ from it, where they are near it.
abbrev pub synchronisation_errors : (place : ℕ) → List ℕ → ℕ
synchronisation_errors j ws = sum_at_synchronisations near_errors j ws

-- How many of the words at these places are not near it.
abbrev pub lost_synchronisations : (place : ℕ) → List ℕ → ℕ
lost_synchronisations j ws = sum_at_synchronisations far_words j ws

-- Whether the page before these mended words, of which the first has this index, is cut, where so many words are in step: directly
-- behind the message codewords that stand first a word past repair, one out of step, or the end of the reception stands.
abbrev pub ends_cut : (steady index : ℕ) → List (Option Kind) → Bool
ends_cut steady i [] = true
ends_cut steady i (None ∷ ms) = true
ends_cut steady i (Some Idle ∷ ms) = nat_le steady i
ends_cut steady i (Some (Address high function) ∷ ms) = nat_le steady i
ends_cut steady i (Some (Message bits) ∷ ms) = ends_cut steady (i + 1) ms

-- Of each page of mended words, in order, whether it is cut.
abbrev pub page_cuts : (steady index : ℕ) → List (Option Kind) → List Bool
page_cuts steady i [] = []
page_cuts steady i (None ∷ ms) = page_cuts steady (i + 1) ms
page_cuts steady i (Some Idle ∷ ms) = page_cuts steady (i + 1) ms
page_cuts steady i (Some (Address high function) ∷ ms) = ends_cut steady (i + 1) ms ∷ page_cuts steady (i + 1) ms
page_cuts steady i (Some (Message bits) ∷ ms) = page_cuts steady (i + 1) ms

-- The same where a page may be open before these words: whether it is cut, and then of theirs.
abbrev pub cuts_from : (steady index : ℕ) → (is_open : Bool) → List (Option Kind) → List Bool
cuts_from steady i is_open ms = option_to_list (if is_open then Some (ends_cut steady i ms) else None) ++ page_cuts steady i ms

-- How many pages are cut.
abbrev pub count_cut : List Bool → ℕ
count_cut cuts = length (filter (λ (is_cut : Bool). is_cut) cuts)

-- *Extracted*: these are the codewords of the words once each is corrected and what is lost is idle; so many bits were wrong, in
-- synchronisation codewords and in those that were mended, and so many words are lost: past repair, not read, or a synchronisation
-- codeword that cannot be recognised; and so many pages are cut, where so many codewords are in step.
pub record AreExtracted (words codewords : List ℕ) (steady corrected lost cut : ℕ) : Type 0 where
  pub mended : List (Option ℕ)
  pub each : AllZip IsMended (unsynced 0 words) mended
  pub kinds : map kind_of codewords ≡ without_orphans false (map said mended)
  pub bits : corrected ≡ synchronisation_errors 0 words + mended_errors (unsynced 0 words) mended
  pub beyond : lost ≡ lost_synchronisations 0 words + lost_words mended
  pub cuts : cut ≡ count_cut (page_cuts steady 0 (map said mended))
