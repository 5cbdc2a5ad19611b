-- The numbers of pages by their addresses, as they are kept.
use Rattle.std.specs.Prelude.{◌≡◌, ℕ, ◌^◌, ◌<◌, nat_lt, List, map, slice_index}
use Rattle.std.specs.List.{count_by}
use Rattle.pocsag_words.specs.Kinds.{kind_of}
use Rattle.pocsag_pages.specs.Bytes.{codewords_in}
use Rattle.pocsag_pages.specs.Plain.{pages_from}
use Rattle.pocsag_pages.specs.declared.page.Page.{Page}
use Rattle.pocsag_show.specs.declared.page_numbers.PageNumbers.{PageNumbers}
use Rattle.pocsag_show.specs.declared.page_numbers.PageNumbers.TheVariants.{Sorted, Table}
use Rattle.pocsag_show.specs.Numbers.{pages_below}

-- The pages that the codewords of these bytes begin.
abbrev pub pages_begun : List ℕ → List Page
pages_begun X = pages_from 0 (map kind_of (codewords_in X))

-- How many of these addresses are smaller than one.
abbrev pub smaller_in : List ℕ → ℕ → ℕ
smaller_in addresses address = count_by (λ other. nat_lt other address) addresses

-- The number that is kept for an address,
abbrev pub number_below : PageNumbers → ℕ → ℕ
number_below (Sorted sorted) address = smaller_in sorted.addresses.items address
number_below (Table table) address = slice_index table.items address

-- and whether it is how many of these pages have a smaller one, for each address of 21 bits.
abbrev pub NumbersPages : List Page → PageNumbers → Type 0
NumbersPages ps numbers = (a : ℕ) → a < 2 ^ 21 → number_below numbers a ≡ pages_below ps a
