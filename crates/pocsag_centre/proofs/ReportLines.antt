-- The seven lines of a report, as texts with numbers.
use Rattle.pocsag_centre.proofs.Prelude.{◌≡◌, ℕ, List, [], ◌∷◌, ◌++◌, refl, ap, ◌∙◌, append_assoc, codes, first_lines, last_lines, line_of, report_text}
use Rattle.std.specs.Fmt.{decimal}
use Rattle.pocsag_plan.specs.declared.airtime.Report.{Report}
use Rattle.pocsag_shell.specs.Notes.{numbered_text}

line_then : (name : List ℕ) (n : ℕ) (rest : List ℕ) → line_of name n ++ rest ≡ name ++ (32 ∷ (decimal n ++ (10 ∷ rest)))
unfolding line_of
line_then name n rest =
    append_assoc name (32 ∷ (decimal n ++ (10 ∷ []))) rest ∙ ap (λ (l : List ℕ). name ++ (32 ∷ l)) (append_assoc (decimal n) (10 ∷ []) rest)

line_on : (name : List ℕ) (n : ℕ) {rest rest' : List ℕ} → rest ≡ rest' → line_of name n ++ rest ≡ name ++ (32 ∷ (decimal n ++ (10 ∷ rest')))
line_on name n {rest} same = line_then name n rest ∙ ap (λ (l : List ℕ). name ++ (32 ∷ (decimal n ++ (10 ∷ l)))) same

four_then : (a b c d rest : List ℕ) → (a ++ (b ++ (c ++ d))) ++ rest ≡ a ++ (b ++ (c ++ (d ++ rest)))
four_then a b c d rest =
    append_assoc a (b ++ (c ++ d)) rest
    ∙ ap (λ (l : List ℕ). a ++ l) (append_assoc b (c ++ d) rest ∙ ap (λ (l : List ℕ). b ++ l) (append_assoc c d rest))

-- the texts and numbers that are reported
abbrev pub report_numbers : Report → List (List ℕ × ℕ)
report_numbers r =
    (codes "pages ", r.pages) ∷ (codes "\ncodewords ", r.codewords) ∷ (codes "\nin_order ", r.in_order)
    ∷ (codes "\nbatches ", r.batches) ∷ (codes "\nidles ", r.idles) ∷ (codes "\nbits ", r.bits)
    ∷ (codes "\nairtime_ms ", r.airtime_ms) ∷ []

pub report_numbered : (r : Report) → report_text r ≡ numbered_text (report_numbers r) (10 ∷ [])
unfolding report_text first_lines last_lines line_of
report_numbered r =
    four_then (line_of (codes "pages") r.pages) (line_of (codes "codewords") r.codewords) (line_of (codes "in_order") r.in_order)
    (line_of (codes "batches") r.batches) (last_lines r)
    ∙ line_on (codes "pages") r.pages (line_on (codes "codewords") r.codewords (line_on (codes "in_order") r.in_order
    (line_on (codes "batches") r.batches (line_on (codes "idles") r.idles (line_on (codes "bits") r.bits refl)))))
