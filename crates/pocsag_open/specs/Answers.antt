-- The lines that answer the lines of an open round (this project's own).
use Rattle.std.specs.Prelude.{ℕ, if◌then◌else◌, nat_lt, List, [], ◌∷◌, ◌++◌, codes, Option, Some, None}
use Rattle.std.specs.Fmt.{decimal}
use Rattle.pocsag_journal.specs.declared.refusal.Refusal.{Refusal}
use Rattle.pocsag_open.specs.Words.{refusal_words}

-- `ok N`, after an edit.
unfoldable pub pages_answer : ℕ → List ℕ
pages_answer pages = codes "ok " ++ (decimal pages ++ (10 ∷ []))

-- `batches B`, or where the first K pages are sent `batches B, sent K`; and where the bound is below the batches, `, at least N` follows.
unfoldable pub plan_answer : (batches : ℕ) (sent : Option ℕ) (bound : ℕ) → List ℕ
plan_answer batches None bound =
    if nat_lt bound batches
    then codes "batches " ++ (decimal batches ++ (codes ", at least " ++ (decimal bound ++ (10 ∷ []))))
    else codes "batches " ++ (decimal batches ++ (10 ∷ []))
plan_answer batches (Some count) bound =
    if nat_lt bound batches
    then codes "batches " ++ (decimal batches ++ (codes ", sent " ++ (decimal count ++ (codes ", at least " ++ (decimal bound ++ (10 ∷ []))))))
    else codes "batches " ++ (decimal batches ++ (codes ", sent " ++ (decimal count ++ (10 ∷ []))))

-- `refused: ` and the words of a refusal.
abbrev pub refusal_answer : Refusal → List ℕ
refusal_answer why = codes "refused: " ++ (refusal_words why ++ (10 ∷ []))
