-- *Oversized*: a page that alone needs more batches than are allowed, and the pages of a queue that are set aside for it (this
-- project's own).
use Rattle.std.specs.Prelude.{◌==◌, ◌&&◌, ℕ, ◌+◌, ◌*◌, ◌%◌, Bool, List, filter, length, not, nat_le, if◌then◌else◌}
use Rattle.std.specs.List.{list_any}
use Rattle.pocsag_words.specs.declared.ending.End.{End}
use Rattle.pocsag_words.specs.declared.ending.End.TheVariants as ends
use Rattle.pocsag_pages.specs.declared.page.Page.{Page}
use Rattle.pocsag_pages.specs.Reading.{batch_length, page_length}
use Rattle.pocsag_plan.specs.Frames.{frame_count}
use Rattle.pocsag_centre.specs.declared.front.FrontAsked.{FrontAsked}

-- How many idle codewords the end asks for behind a page that is sent alone.
abbrev pub idles_behind : End → Page → ℕ
idles_behind ends.Open p = 0
idles_behind ends.Closed p = if length p.payload == 0 then 0 else 1
idles_behind ends.Idle p = 1

-- How many codewords a transmission of the page alone has at least: two idle ones in each frame before the one in which it
-- starts, its own, and those that the end asks for.
abbrev pub least_alone : End → Page → ℕ
least_alone end p = 2 * (p.address % frame_count) + page_length p + idles_behind end p

-- The page alone is sent in so many batches.
abbrev pub fits_alone : End → (batches : ℕ) → Page → Bool
fits_alone end batches p = nat_le (least_alone end p) (batch_length * batches)

-- Pages of a queue are set aside: that is asked for, and some page fits alone.
abbrev pub is_parted : FrontAsked → (queue : List Page) → Bool
is_parted asked queue = asked.sets_aside && list_any (fits_alone asked.search.end asked.batches) queue

-- This page of it is one of them: it does not fit alone.
abbrev pub is_aside : FrontAsked → (queue : List Page) → Page → Bool
is_aside asked queue p = is_parted asked queue && not (fits_alone asked.search.end asked.batches p)

-- The pages of a queue that are set aside, and those that are planned, in order.
abbrev pub aside_of : FrontAsked → List Page → List Page
aside_of asked queue = filter (is_aside asked queue) queue

abbrev pub planned_of : FrontAsked → List Page → List Page
planned_of asked queue = filter (λ p. not (is_aside asked queue p)) queue
