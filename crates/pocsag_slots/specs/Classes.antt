-- Classes of pages, this project's own numbering: the pages of a class start and end alike.
use Rattle.std.specs.Prelude.{ℕ, ◌+◌, ◌-◌, ◌*◌, ◌/◌, ◌%◌, ◌==◌, nat_lt, Bool, cond, List, count_by}
use Rattle.std.specs.Prelude.{sum_by}
use Rattle.pocsag_words.specs.declared.ending.End.{End}
use Rattle.pocsag_words.specs.declared.ending.End.TheVariants as ends
use Rattle.pocsag_pages.specs.declared.page.Page.{Page}
use Rattle.pocsag_pages.specs.Reading.{batch_length, page_length}

-- How many slots a batch has, and so many boundaries: a slot is the place of a codeword in its batch.
abbrev pub slot_count : ℕ
slot_count = batch_length

-- How many classes there are: for each of eight frames one for each rest of a length, and then, from the
-- first bare one on, one for an address codeword alone, which only the closed end has.
abbrev pub first_bare : ℕ
first_bare = 128

abbrev pub class_count : ℕ
class_count = 136

-- The class with which a transmission with the closed end may end, and the last slot of a batch.
abbrev pub last_class : ℕ
last_class = 135

abbrev pub last_slot : ℕ
last_slot = 15

-- The class of a page of this frame and length. With the closed end an address codeword alone, which
-- may end a transmission, is in a class of its own.
unfoldable pub class_of : End → ℕ → ℕ → ℕ
class_of ends.Open frame len = frame * slot_count + len % slot_count
class_of ends.Closed frame len = cond (len == 1) (first_bare + frame) (frame * slot_count + len % slot_count)
class_of ends.Idle frame len = frame * slot_count + len % slot_count

abbrev pub class_of_page : End → Page → ℕ
class_of_page end p = class_of end (p.address % 8) (page_length p)

-- The frame of a class, and how many slots its runs cover beside their whole turns.
unfoldable pub class_frame : ℕ → ℕ
class_frame c = cond (nat_lt c first_bare) (c / slot_count) (c - first_bare)

unfoldable pub class_rest : ℕ → ℕ
class_rest c = cond (nat_lt c first_bare) (c % slot_count) 1

-- The boundary where a run of the class starts, early or late, and the one where it ends.
unfoldable pub start_of : ℕ → Bool → ℕ
start_of c early = 2 * class_frame c + cond early 0 1

unfoldable pub finish_of : ℕ → Bool → ℕ
finish_of c early = (start_of c early + class_rest c) % slot_count

-- How many pages of a list are in the class, and how many whole turns they take together.
abbrev pub count_of : End → List Page → ℕ → ℕ
count_of end R c = count_by (λ p. class_of_page end p == c) R

abbrev pub turns_of : End → List Page → ℕ → ℕ
turns_of end R c = sum_by (λ p. cond (class_of_page end p == c) (page_length p / slot_count) 0) R
