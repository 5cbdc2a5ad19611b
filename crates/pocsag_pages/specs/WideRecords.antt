-- Records of more fields than a page has.
use Rattle.std.specs.Prelude.{List, [], ◌∷◌, ◌++◌, Bool, true, false, if◌then◌else◌, length, nat_lt, take}
use Rattle.pocsag_pages.specs.PageFile.{Row}

-- The records up to the first of more than three fields, of which these three are left and an empty one.
unfoldable pub up_to_wide : List Row → List Row
up_to_wide [] = []
up_to_wide (r ∷ rows) = if nat_lt 3 (length r) then (take 3 r ++ [] ∷ []) ∷ [] else r ∷ up_to_wide rows

-- Whether a record has more than three fields.
unfoldable pub has_wide : List Row → Bool
has_wide [] = false
has_wide (r ∷ rows) = if nat_lt 3 (length r) then true else has_wide rows
