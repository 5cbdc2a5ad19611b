-- The lines that the program prints (this project's own).
use Rattle.std.specs.Prelude.{ℕ, Bool, true, false, if◌then◌else◌, nat_lt, List, [], ◌∷◌, ◌++◌, codes}
use Rattle.std.specs.Fmt.{decimal}
use Rattle.pocsag_words.specs.declared.ending.End.{End}
use Rattle.pocsag_words.specs.declared.ending.End.TheVariants as ends

-- The two lines on a plan: `pages N` and `batches B`.
unfoldable pub plan_text : (pages batches : ℕ) → List ℕ
plan_text pages batches =
    codes "pages " ++ (decimal pages ++ (10 ∷ (codes "batches " ++ (decimal batches ++ (10 ∷ [])))))

-- The line on a certificate: `at least B batches`, for the closed end `at least B batches with a closed end`, and for
-- the idle end `at least B batches with an idle last`.
unfoldable pub bound_text : End → ℕ → List ℕ
bound_text ends.Open batches = codes "at least " ++ (decimal batches ++ (codes " batches" ++ (10 ∷ [])))
bound_text ends.Closed batches = codes "at least " ++ (decimal batches ++ (codes " batches with a closed end" ++ (10 ∷ [])))
bound_text ends.Idle batches = codes "at least " ++ (decimal batches ++ (codes " batches with an idle last" ++ (10 ∷ [])))

-- The line on a verdict: that of the certificate, or `not shown`.
abbrev pub verdict_text : Bool → End → ℕ → List ℕ
verdict_text true end batches = bound_text end batches
verdict_text false end batches = codes "not shown" ++ (10 ∷ [])

-- The third line on a plan, `at least N batches`, only where its bound is below its batches.
unfoldable pub below_text : (batches bound : ℕ) → List ℕ
below_text batches bound = if nat_lt bound batches then bound_text ends.Open bound else []

-- The line on the pages that are left, `left L`.
unfoldable pub left_text : ℕ → List ℕ
left_text left = codes "left " ++ (decimal left ++ (10 ∷ []))

-- The line on the pages that are set aside, `oversized N`, where it is asked for.
unfoldable pub aside_text : (is_asked : Bool) → (count : ℕ) → List ℕ
aside_text false count = []
aside_text true count = codes "oversized " ++ (decimal count ++ (10 ∷ []))

-- The line on a front of at most so many batches, `at least N batches with one page more`, only where the certificate
-- for one page more shows no more than these.
unfoldable pub undecided_text : (batches bound : ℕ) → List ℕ
undecided_text batches bound =
    if nat_lt batches bound then [] else codes "at least " ++ (decimal bound ++ (codes " batches with one page more" ++ (10 ∷ [])))
