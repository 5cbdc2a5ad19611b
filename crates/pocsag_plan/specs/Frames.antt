-- The frames of a plan: the pages that start in each, and the room that the plan leaves in it (this project's own).
use Rattle.std.specs.Prelude.{◌≡◌, ℕ, ◌+◌, ◌*◌, ◌%◌, ◌≤◌, ◌==◌, Bool, cond, List, map, count_by, sum_by}
use Rattle.std.specs.List.{range_with_len}
use Rattle.pocsag_pages.specs.declared.page.Page.{Page}
use Rattle.pocsag_pages.specs.Reading.{page_length}
use Rattle.pocsag_slots.specs.declared.step.Step.{Step}
use Rattle.pocsag_slots.specs.Arcs.{runs}
use Rattle.pocsag_slots.specs.Classes.{class_count}
use Rattle.pocsag_slots.specs.Tours.{idles}
use Rattle.pocsag_plan.specs.declared.frames.FrameRoom.{FrameRoom}

-- How many frames a batch has: the three low bits of an address name the one where its page starts (rules of Annex 1).
abbrev pub frame_count : ℕ
frame_count = 8

abbrev pub starts_in : ℕ → Page → Bool
starts_in frame p = p.address % frame_count == frame

-- How many pages start in the frame, and how many codewords these pages have.
abbrev pub frame_pages : ℕ → List Page → ℕ
frame_pages frame R = count_by (starts_in frame) R

abbrev pub frame_codewords : ℕ → List Page → ℕ
frame_codewords frame R = sum_by (λ p. cond (starts_in frame p) (page_length p) 0) R

-- How many idles stand in the two slots of the frame, where the steps start at boundary 0.
abbrev pub frame_idles : ℕ → List Step → ℕ
frame_idles frame steps = idles (2 * frame) 0 steps + idles (2 * frame + 1) 0 steps

-- The four numbers of a frame.
abbrev pub frame_row : List Page → List Step → ℕ → FrameRoom
frame_row R steps frame = record {
  frame = frame;
  pages = frame_pages frame R;
  codewords = frame_codewords frame R;
  room = frame_idles frame steps;
}

-- The numbers of the eight frames, in the order of the frames: of each how many pages of the round start in it, how many
-- codewords these pages have, and how many idles stand in its two slots.
abbrev pub frames_of : List Page → List Step → List FrameRoom
frames_of R steps = map (frame_row R steps) (range_with_len 0 frame_count)

-- Each run among the steps is one of a class that there is.
abbrev pub HasClasses : List Step → Type 0
HasClasses steps = (c : ℕ) (early : Bool) → class_count ≤ c → runs c early steps ≡ 0
