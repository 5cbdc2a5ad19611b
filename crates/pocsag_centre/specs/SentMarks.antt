-- Which pages of a round were sent.
use Rattle.std.specs.Prelude.{◌≡◌, ◌↔◌, ℕ, ◌<◌, Bool, false, List, length, slice_index_or, All, Contains, IsTrue}
use Rattle.std.specs.List.Sorted.{IsNonDecreasingBy}
use Rattle.pocsag_pages.specs.declared.page.Page.{Page}
use Rattle.pocsag_centre.specs.declared.sent_marks.AddressPlace.{AddressPlace}

-- The place is one of the round, where the page has the address beside it.
pub record IsPlaceIn (round : List Page) (it : AddressPlace) : Type 0 where
  pub within : it.place < length round
  pub same : (d : Page) → (slice_index_or round it.place d).address ≡ it.address

-- The address stands beside one of the places.
pub record HasAddress (places : List AddressPlace) (address : ℕ) : Type 0 where
  pub one : AddressPlace
  pub there : Contains places one
  pub same : one.address ≡ address

-- Places of the round, among them those of so many first pages.
pub record HoldPlaces (round : List Page) (count : ℕ) (places : List AddressPlace) : Type 0 where
  pub each : All (IsPlaceIn round) places
  pub all : (k : ℕ) (d : Page) → k < count → HasAddress places (slice_index_or round k d).address

-- The places of all pages of the round, in order of their addresses.
pub record ArePlacesOf (round : List Page) (places : List AddressPlace) : Type 0 where
  pub hold : HoldPlaces round (length round) places
  pub order : IsNonDecreasingBy (λ it. it.address) places

-- A mark for each page of the round, which says whether the page was sent.
pub record AreSentMarks (round sent : List Page) (marks : List Bool) : Type 0 where
  pub as_many : length marks ≡ length round
  pub each : (k : ℕ) (d : Page) → k < length round → IsTrue (slice_index_or marks k false) ↔ Contains sent (slice_index_or round k d)
