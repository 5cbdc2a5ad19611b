-- Why an open round ends before its input does.
use Rattle.pocsag_open.proofs.Prelude.{◌≡◌, inl, inr, ℕ, ◌-◌, ◌^◌, ◌<◌, ◌≤◌, List, [], ◌∷◌, ◌++◌, length, take, drop, arith, ap, refl, sym, subst, length-append, take-append-drop, IfErr, OnErr, Result, Ok, Err, slice_get, line_feed, Row, Page, FileFault, IsLine, ExplainsKeeping, HasNoLineFeed, IsWholeLine, is_return, record_text, without_return, IsEdit, sent_record, feedless_front, row_line, line_length, ExplainsEnd, HasGivenUp, IsFirstLine}
use Rattle.std.proofs.Common.{codes}
use Rattle.std.proofs.lemmas.Bool.{cases_Bool}
use Rattle.csv.specs.Reading.{is_bom, strip_bom}
use Rattle.csv.specs.Writing.{default_writer, row_text}
use Rattle.pocsag_shell.specs.declared.fault.FileFault.TheVariants as file
use Rattle.pocsag_journal.specs.Growth.{kept_line_limit}
use Rattle.pocsag_journal.proofs.LineFeeds.{none_found}
use Rattle.pocsag_journal.proofs.LinedPages.{decimal_feedless}
use Rattle.pocsag_open.specs.KeptAnswers.{ExplainsUnanswered}

-- what is not reported, is not for a failed write
pub not_told : {X : Type 0} (r : Result X FileFault) (output keeper : Type 0) → IfErr r (λ e. e ≡ file.Write) → OnErr r output →
    IfErr r (ExplainsEnd ⊥ output keeper)
not_told (Ok x) output keeper is failed = tt
not_told (Err e) output keeper is failed = subst (λ (f : FileFault). ExplainsEnd ⊥ output keeper f) (sym is) (inl failed)

-- an edit that is a line is not kept where what keeps it failed, or has no room for the longest line
pub not_kept : (output : Type 0) (most : ℕ) (taken later text : List ℕ) (before after : ℕ) (f : FileFault) → IsWholeLine text →
    length text ≤ kept_line_limit → ExplainsKeeping most taken later text before after f →
    ExplainsEnd ⊥ output (HasGivenUp most later before after) f
not_kept output most taken later text before after file.OutOfMemory whole short h = tt
not_kept output most taken later text before after file.Write whole short (inl failed) = inr (inl failed)
not_kept output most taken later text before after file.Write whole short (inr (inl full)) =
    let same : length later ≡ length taken = ap length full.0 in
    inr (inr (omega (arith, same, full.1, short)))
not_kept output most taken later text before after file.Write whole short (inr (inr none)) = absurd (none whole)
not_kept output most taken later text before after f whole short h = absurd h

-- and is not answered there, or where the output failed
pub not_answered : (output : Type 0) (most : ℕ) (taken later : List ℕ) (row : Row) (pages next : List Page) (before after : ℕ) (f : FileFault) →
    IsLine row →
    ExplainsUnanswered output (IsEdit row pages next) (ExplainsKeeping most taken later (row_text default_writer row) before after) f →
    ExplainsEnd ⊥ output (HasGivenUp most later before after) f
not_answered output most taken later row pages next before after file.Write line (inl failed) = inl failed
not_answered output most taken later row pages next before after file.Write line (inr h) =
    not_kept output most taken later (row_text default_writer row) before after file.Write line.line (line_length row pages next h.0) h.1
not_answered output most taken later row pages next before after file.OutOfMemory line h = tt
not_answered output most taken later row pages next before after f line h = absurd h.1

-- what a line's record is read from has no line feed
returned_feedless : (line : List ℕ) → HasNoLineFeed line → HasNoLineFeed (without_return line)
returned_feedless line none = elim (cases_Bool (is_return (slice_get line (length line - 1)))) [
  | inl t ↦ rw t
      (feedless_front (take (length line - 1) line) (drop (length line - 1) line)
      (subst HasNoLineFeed (sym (take-append-drop (length line - 1) line)) none))
  | inr f ↦ rw f none
]

marked_feedless : (line : List ℕ) → HasNoLineFeed line → HasNoLineFeed (strip_bom line)
unfolding strip_bom
marked_feedless (a ∷ b ∷ c ∷ rest) none = elim (cases_Bool (is_bom a b c)) [ inl t ↦ rw t none.1.1.1 | inr f ↦ rw f none ]
marked_feedless line none = none

pub text_feedless : (line : List ℕ) → HasNoLineFeed line → HasNoLineFeed (record_text line)
text_feedless line none = marked_feedless (without_return line) (returned_feedless line none)

-- the record of the edit that takes first pages out is a line
pub sent_line : (count : ℕ) → count < 2 ^ 64 → IsLine (sent_record count)
sent_line count small =
    row_line (sent_record count) (λ none. cc none) (none_found (codes "sent") refl, (decimal_feedless count small, tt))

-- what is so of a fault is so by another name
pub for_fault : {X : Type 0} (r : Result X FileFault) (P Q : FileFault → Type 0) → ((e : FileFault) → P e → Q e) → IfErr r P → IfErr r Q
for_fault (Ok x) P Q f h = tt
for_fault (Err e) P Q f h = f e h

-- an end has its causes under wider ones
pub wider : (i o k I O K : Type 0) (f : FileFault) → (i → I) → (o → O) → (k → K) → ExplainsEnd i o k f → ExplainsEnd I O K f
wider i o k I O K file.Device a b c h = a h
wider i o k I O K file.Write a b c (inl h) = inl (b h)
wider i o k I O K file.Write a b c (inr h) = inr (c h)
wider i o k I O K file.OutOfMemory a b c h = tt
wider i o k I O K f a b c h = absurd h

-- a line has a byte, or a line feed behind it
pub line_counts : (pending line rest : List ℕ) → IsFirstLine pending line rest → length rest < length pending
line_counts pending line rest first = elim first.parts [
  | inl e ↦
      let n : length pending ≡ length (line ++ line_feed ∷ rest) = ap length e in
      let m = length-append line (line_feed ∷ rest) in
      omega (arith, n, m)
  | inr e ↦
      let n : length pending ≡ length line = ap length e.1 in
      let m : length rest ≡ 0 = ap length e.2 in
      let some = some_bytes line e.0 in
      omega (arith, n, m, some)
]
  where
    some_bytes : (bytes : List ℕ) → (bytes ≡ [] → ⊥) → 0 < length bytes
    some_bytes [] none = absurd (none refl)
    some_bytes (b ∷ bytes) none = omega arith
