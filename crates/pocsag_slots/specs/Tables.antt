-- What the class tables of a round keep: it has at most 20,000 pages of at most 1,401 codewords each
-- (this project's own limits).
use Rattle.std.specs.Prelude.{◌≡◌, ℕ, ◌*◌, ◌<◌, ◌≤◌, List, length, slice_index}
use Rattle.pocsag_pages.specs.Pages.{page_limit}
use Rattle.pocsag_slots.specs.Classes.{first_bare, class_count, class_rest}
use Rattle.pocsag_slots.specs.Sums.{sum_below}

-- The most whole turns of a page.
abbrev pub turn_limit : ℕ
turn_limit = 87

-- One count and one number of whole turns for each of 136 classes. A page without a rest has at least
-- one whole turn, and an address codeword alone, in the classes from 128 on, has none.
pub record AreTables (count turns : List ℕ) : Type 0 where
  pub counts : length count ≡ class_count
  pub totals : length turns ≡ class_count
  pub few : sum_below class_count (slice_index count) ≤ page_limit
  pub short : (c : ℕ) → c < class_count → slice_index turns c ≤ turn_limit * slice_index count c
  pub whole : (c : ℕ) → c < class_count → class_rest c ≡ 0 → slice_index count c ≤ slice_index turns c
  pub bare : (c : ℕ) → first_bare ≤ c → c < class_count → slice_index turns c ≡ 0
