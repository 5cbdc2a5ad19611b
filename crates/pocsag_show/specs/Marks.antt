-- What is drawn of a page in a cell and behind it (this project's own).
use Rattle.std.specs.Prelude.{ℕ, ◌+◌, ◌%◌, List, ◌∷◌, ◌++◌, codes}
use Rattle.std.specs.Fmt.{decimal}
use Rattle.pocsag_show.specs.Numbers.{label, small, turn}

-- A rectangle over codewords.
unfoldable pub rectangle : (x y width : ℕ) → List ℕ
rectangle x y width =
    codes "<rect x='" ++ (decimal x ++ (codes "' y='" ++ (decimal y ++ (codes "' width='" ++ (decimal width ++ codes "' height='18'/>")))))

-- The address codeword: a darker rectangle over all of it but 4 at its right, where the page's tint is seen, and the
-- label. The baseline of a text is 13 below the upper side of its row.
unfoldable pub head : (x y number : ℕ) → List ℕ
head x y number =
    codes "<rect class='k' x='" ++ (decimal x ++ (codes "' y='" ++ (decimal y ++ (codes "' width='24' height='18'/><text class='l' x='"
    ++ (decimal (x + 12) ++ (codes "' y='" ++ (decimal (y + 13)
    ++ (codes "'>" ++ (label number ++ codes "</text>")))))))))

-- The first codeword of a page's further row, with its label in small.
unfoldable pub tail : (x y number : ℕ) → List ℕ
tail x y number =
    codes "<text class='m' x='" ++ (decimal (x + 12) ++ (codes "' y='" ++ (decimal (y + 13) ++ (codes "'>"
    ++ (small number ∷ turn number ++ codes "</text>")))))

-- What is of a page stands in a group of its hue: one of twelve in turn, of which each is far from the next.
unfoldable pub opened : ℕ → List ℕ
opened number = codes "<g class='p" ++ (decimal (number % 12) ++ codes "'>")
