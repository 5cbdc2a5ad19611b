-- The codewords of a tour's steps, in order.
use Rattle.std.specs.Prelude.{ℕ, ◌==◌, cond, List, [], ◌∷◌, ◌++◌}
use Rattle.pocsag_words.specs.declared.codeword.Kind.{Kind}
use Rattle.pocsag_words.specs.declared.codeword.Kind.TheVariants.{Idle}
use Rattle.pocsag_words.specs.declared.ending.End.{End}
use Rattle.pocsag_pages.specs.declared.page.Page.{Page}
use Rattle.pocsag_pages.specs.Reading.{page_words}
use Rattle.pocsag_slots.specs.declared.step.Step.{Step}
use Rattle.pocsag_slots.specs.declared.step.Step.TheVariants.{Idle as Stay, Run}
use Rattle.pocsag_slots.specs.Classes.{class_of_page}

-- The first page of the class, and the other pages of the list in order.
abbrev pub first_of : End → ℕ → List Page → Page
first_of end c [] = record { address = 0; function = 0; payload = [] }
first_of end c (p ∷ ps) = cond (class_of_page end p == c) p (first_of end c ps)

abbrev pub without_first : End → ℕ → List Page → List Page
without_first end c [] = []
without_first end c (p ∷ ps) = cond (class_of_page end p == c) ps (p ∷ without_first end c ps)

-- Each run is the first page of its class that is left.
abbrev pub laid : End → List Page → List Step → List Kind
laid end R [] = []
laid end R (Stay ∷ ss) = Idle ∷ laid end R ss
laid end R (Run c early ∷ ss) = page_words (first_of end c R) ++ laid end (without_first end c R) ss
