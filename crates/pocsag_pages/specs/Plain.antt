-- A reading in one pass, equal to *Reading* (by the law that readings are plain).
use Rattle.std.specs.Prelude.{ℕ, ◌+◌, ◌*◌, List, [], ◌∷◌, Bool, true, false, IsTrue}
use Rattle.pocsag_words.specs.declared.codeword.Kind.{Kind}
use Rattle.pocsag_words.specs.declared.codeword.Kind.TheVariants.{Idle, Address, Message}
use Rattle.pocsag_pages.specs.declared.page.Page.{Page}
use Rattle.pocsag_pages.specs.Reading.{frame_at}

-- The bits of the message codewords that stand first.
abbrev pub items_of : List Kind → List ℕ
items_of [] = []
items_of (Idle ∷ ws) = []
items_of (Address high function ∷ ws) = []
items_of (Message bits ∷ ws) = bits ∷ items_of ws

-- The pages of the address codewords in order, the first codeword being at this index.
abbrev pub pages_from : ℕ → List Kind → List Page
pages_from i [] = []
pages_from i (Idle ∷ ws) = pages_from (i + 1) ws
pages_from i (Address high function ∷ ws) =
    record { address = 8 * high + frame_at i; function = function; payload = items_of ws } ∷ pages_from (i + 1) ws
pages_from i (Message bits ∷ ws) = pages_from (i + 1) ws

-- Each message codeword continues a page; whether one may stand first is reported.
abbrev pub HasNoOrphan : Bool → List Kind → Type 0
HasNoOrphan in_page [] = Unit {0}
HasNoOrphan in_page (Idle ∷ ws) = HasNoOrphan false ws
HasNoOrphan in_page (Address high function ∷ ws) = HasNoOrphan true ws
HasNoOrphan in_page (Message bits ∷ ws) = IsTrue in_page × HasNoOrphan true ws
