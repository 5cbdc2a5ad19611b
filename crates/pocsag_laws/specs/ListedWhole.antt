-- Pages that a capture lists as whole (this project's own).
use Rattle.std.specs.Prelude.{◌≡◌, Bool, false, List, ◌∷◌, ◌++◌, length, replicate}
use Rattle.pocsag_pages.specs.declared.page.Page.{Page}
use Rattle.pocsag_capture.specs.PageEnds.{CapturedTransmission}

-- *Listed as whole*: these pages stand, one behind the other, among those of one of the transmissions, and none of them is cut.
pub record AreListedWhole (ps : List Page) (cs : List CapturedTransmission) : Type 0 where
  pub earlier : List CapturedTransmission
  pub transmission : CapturedTransmission
  pub later : List CapturedTransmission
  pub among : cs ≡ earlier ++ (transmission ∷ later)
  pub pages_before : List Page
  pub pages_after : List Page
  pub pages : transmission.pages ≡ pages_before ++ (ps ++ pages_after)
  pub cuts_before : List Bool
  pub cuts_after : List Bool
  pub as_many : length cuts_before ≡ length pages_before
  pub cuts : transmission.cuts ≡ cuts_before ++ (replicate (length ps) false ++ cuts_after)
