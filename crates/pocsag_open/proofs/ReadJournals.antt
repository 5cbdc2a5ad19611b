-- What is printed of a journal that was read.
use Rattle.pocsag_open.proofs.Prelude.{◌≡◌, ◌⊎◌, ℕ, false, List, ◌++◌, append_assoc, refl, inl, inr, ◌==◌, codes, OnOk, Result, CountsFailures, HasFailed, for_count, read_text, torn_end, torn_text}
use Rattle.std.proofs.Common.{Ok, Err}
use Rattle.std.specs.Fmt.{decimal}
use Rattle.std.specs.Prelude.{◌∷◌, []}
use Rattle.pocsag_words.specs.declared.device.Sink.{Ghosts as Writer}
use Rattle.pocsag_open.specs.declared.kept_streams.TornLine.{TornLine}

pub torn_line : (line : TornLine) (torn : ℕ) → (torn == 0) ≡ false →
    torn_text line torn ≡ codes "pocsag: a torn line of " ++ (decimal torn ++ torn_end line torn)
unfolding torn_text
torn_line line torn some = rw some refl

pub read_lines : (line : TornLine) (torn edits pages : ℕ) (old mid of_edits of_pages : List ℕ) → mid ≡ old ++ torn_text line torn →
    of_edits ≡ for_count edits (codes " edit read, ") (codes " edits read, ") →
    of_pages ≡ for_count pages (codes " page" ++ (10 ∷ [])) (codes " pages" ++ (10 ∷ [])) →
    mid ++ (codes "pocsag: " ++ (decimal edits ++ (of_edits ++ (decimal pages ++ of_pages)))) ≡ old ++ read_text line torn edits pages
unfolding read_text
read_lines line torn edits pages old mid of_edits of_pages first one two = rw (first, one, two) (append_assoc old (torn_text line torn) _)

-- a text was printed, or the writer failed
pub printed_or_failed : {X F S : Type 0} (Out : Writer S) (before after : S) (text : List ℕ) (r : Result X F) →
    (Out.is_known → OnOk r (Out.taken after ≡ Out.taken before ++ text)) → CountsFailures r (Out.failures before) (Out.failures after) →
    (Out.is_known → Out.taken after ≡ Out.taken before ++ text) ⊎ HasFailed (Out.failures before) (Out.failures after)
printed_or_failed Out before after text (Ok x) printed counts = inl printed
printed_or_failed Out before after text (Err e) printed counts = inr counts.1
