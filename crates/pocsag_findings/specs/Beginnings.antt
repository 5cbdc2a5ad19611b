-- How the text that explains a certificate begins (this project's own).
use Rattle.std.specs.Prelude.{◌≡◌, ◌==◌, ℕ, Bool, true, false, if◌then◌else◌, List, ◌++◌, codes}
use Rattle.std.specs.Fmt.{decimal}
use Rattle.pocsag_words.specs.declared.ending.End.{End}
use Rattle.pocsag_words.specs.declared.ending.End.TheVariants as ends
use Rattle.pocsag_findings.specs.declared.format.Format.{Format}
use Rattle.pocsag_findings.specs.declared.format.Format.TheVariants as format

-- The text begins with these words.
pub record BeginsWith (words text : List ℕ) : Type 0 where
  pub rest : List ℕ
  pub whole : text ≡ words ++ rest

abbrev pub end_words : End → List ℕ
end_words ends.Open = codes "open end"
end_words ends.Closed = codes "closed end"
end_words ends.Idle = codes "idle last"

abbrev pub end_name : End → List ℕ
end_name ends.Open = codes "open"
end_name ends.Closed = codes "closed"
end_name ends.Idle = codes "idle"

-- The verdict in words: `at least 3 batches, open end`, `at least 1 batch, idle last` or the like, or `not shown`.
abbrev pub verdict_words : (is_shown : Bool) → End → ℕ → List ℕ
verdict_words true end batches =
    codes "at least " ++ (decimal batches ++ (codes " " ++ ((if batches == 1 then codes "batch" else codes "batches") ++ (codes ", " ++ end_words end))))
verdict_words false end batches = codes "not shown"

-- The verdict as the first members of a JSON object: `{"shown":true,"end":"open","batches":3,`.
abbrev pub verdict_members : (is_shown : Bool) → End → ℕ → List ℕ
verdict_members is_shown end batches =
    codes "{\"shown\":" ++ ((if is_shown then codes "true" else codes "false")
    ++ (codes ",\"end\":\"" ++ (end_name end ++ (codes "\",\"batches\":" ++ (decimal batches ++ codes ",")))))

-- The head of a drawing of this height, up to its title.
abbrev pub drawing_head : (height : ℕ) → List ℕ
drawing_head height =
    codes "<svg xmlns='http://www.w3.org/2000/svg' version='1.1' class='pocsag-why' role='img' width='540' height='"
    ++ (decimal height ++ (codes "' viewBox='0 0 540 " ++ (decimal height ++ codes "'>\n<title>")))

-- A text of this form begins with the verdict: the words; of JSON the members; of a drawing its head, and the words as its
-- title.
abbrev pub GivesVerdict : Format → (is_shown : Bool) → End → (batches : ℕ) → List ℕ → Type 0
GivesVerdict (format.Lines depth) is_shown end batches text = BeginsWith (verdict_words is_shown end batches) text
GivesVerdict (format.Json depth) is_shown end batches text = BeginsWith (verdict_members is_shown end batches) text
GivesVerdict format.Drawing is_shown end batches text =
    (height : ℕ) × BeginsWith (drawing_head height ++ verdict_words is_shown end batches) text
