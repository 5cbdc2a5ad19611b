-- The arcs of a transmission: a run for each page and an idle for each idle codeword, in order.
use Rattle.std.specs.Prelude.{ℕ, ◌+◌, ◌%◌, ◌==◌, ◌&&◌, Bool, true, not, cond, List, [], ◌∷◌}
use Rattle.pocsag_words.specs.declared.codeword.Kind.{Kind}
use Rattle.pocsag_words.specs.declared.codeword.Kind.TheVariants.{Idle, Address, Message}
use Rattle.pocsag_words.specs.declared.ending.End.{End}
use Rattle.pocsag_pages.specs.Reading.{frame_at}
use Rattle.pocsag_slots.specs.declared.step.Step.{Step}
use Rattle.pocsag_slots.specs.declared.step.Step.TheVariants.{Idle as Stay, Run}
use Rattle.pocsag_slots.specs.Classes.{class_of}

-- How many message codewords stand first.
abbrev pub run_length : List Kind → ℕ
run_length [] = 0
run_length (Idle ∷ ws) = 0
run_length (Address high function ∷ ws) = 0
run_length (Message bits ∷ ws) = 1 + run_length ws

-- The arcs of the codewords, the first of them at index i: a page is early where it starts in the
-- first codeword of its frame.
abbrev pub arcs : End → ℕ → List Kind → List Step
arcs end i [] = []
arcs end i (Idle ∷ ws) = Stay ∷ arcs end (i + 1) ws
arcs end i (Address high function ∷ ws) =
    Run (class_of end (frame_at i) (1 + run_length ws)) (i % 2 == 0) ∷ arcs end (i + 1) ws
arcs end i (Message bits ∷ ws) = arcs end (i + 1) ws

-- How many runs of the class are among the steps, the early ones or the late ones.
abbrev pub runs : ℕ → Bool → List Step → ℕ
runs c early [] = 0
runs c early (Stay ∷ ss) = runs c early ss
runs c early (Run d e ∷ ss) = cond ((d == c) && cond early e (not e)) 1 0 + runs c early ss

-- How many pages of the class start early in a transmission.
unfoldable pub early_in : End → List Kind → ℕ → ℕ
early_in end T c = runs c true (arcs end 0 T)
