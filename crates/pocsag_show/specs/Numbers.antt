-- The number of a page, and by it its letter and its label (this project's own). They are functions of the
-- addresses in the transmission alone and not of where a page stands, so two transmissions of one round agree in them.
use Rattle.std.specs.Prelude.{ℕ, ◌+◌, ◌/◌, ◌%◌, nat_lt, if◌then◌else◌, List, [], ◌∷◌, map}
use Rattle.std.specs.List.{count_by}
use Rattle.std.specs.Fmt.{decimal}
use Rattle.pocsag_pages.specs.declared.page.Page.{Page}

-- How many pages have a smaller address: the pages of a round are numbered from 0 in order of their addresses.
abbrev pub pages_below : List Page → ℕ → ℕ
pages_below ps address = count_by (λ p. nat_lt p.address address) ps

abbrev pub numbers_in : List Page → List ℕ
numbers_in ps = map (λ p. pages_below ps p.address) ps

-- The letters from A to Z, and from a to z, again and again.
abbrev pub capital : ℕ → ℕ
capital number = 65 + number % 26

abbrev pub small : ℕ → ℕ
small number = 97 + number % 26

-- The first 26 numbers have their letter alone; from then on the letter is followed by how many times it came: A2 to
-- Z2, then A3 to Z3. So no two numbers have the same label.
unfoldable pub turn : ℕ → List ℕ
turn number = if nat_lt number 26 then [] else decimal (number / 26 + 1)

abbrev pub label : ℕ → List ℕ
label number = capital number ∷ turn number
