-- Counts, and the fields that spell them.
use Rattle.pocsag_journal.proofs.Prelude.{◌≡◌, ◌↔◌, ℕ, ◌<◌, ◌≤◌, ◌^◌, List, drop, length, arith, refl, subst, sym, Option, Some, None, decimal, IsUtf8, IsAscii-decimal, Page, IsNumberIn, SpellsCount, IsEdit, asked_of, sent_record}
use Rattle.std.proofs.lemmas.Str.{IsUtf8-from_ascii}

pub counted : (field : List ℕ) (r : Option ℕ) → IsNumberIn field r → (count : ℕ) → (r ≡ Some count) ↔ SpellsCount field count
counted field r reads n = (
  λ e. let told = (reads n).0 e in record { some = told.0; small = told.1; spelled = told.2 },
  λ c. (reads n).1 (c.some, c.small, c.spelled),
)

-- what is no text is none
pub no_text : (field : List ℕ) (r : Option ℕ) → r ≡ None → (IsUtf8 field → ⊥) → IsNumberIn field r
no_text field r is none n = (
  λ (e : r ≡ Some n). cc (e, is),
  λ d. absurd (none (subst IsUtf8 (sym d.2) (IsUtf8-from_ascii (decimal n) (IsAscii-decimal n (omega (arith, d.1)))))),
)

-- the record of the edit that takes first pages out is that edit
pub sent_edit : (count : ℕ) (before : List Page) → 0 < count → count < 2 ^ 32 → count ≤ length before →
    IsEdit (sent_record count) before (drop count before)
unfolding asked_of
sent_edit count before some small among =
    record { count = count; spelled = record { some = some; small = small; spelled = refl }; there = among; rest = refl }
