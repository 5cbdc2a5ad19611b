-- The forms in which pages are listed: the listing, the listing that reads more messages as text, and lines of JSON. A page of a
-- capture has a mark: it is listed with its state, in JSON also with its transmission (all but the listing is this project's own).
use Rattle.std.specs.Prelude.{ℕ, ◌+◌, Bool, false, if◌then◌else◌, get_or, List, [], ◌∷◌, ◌++◌, map, Option, Some, None, codes}
use Rattle.std.specs.List.{flat_map}
use Rattle.std.specs.Fmt.{decimal}
use Rattle.csv.specs.Writing.{default_writer, row_text}
use Rattle.json.specs.Json.{Json, Members, boolean, member, no_members, number, object, string}
use Rattle.json.specs.Print.{print}
use Rattle.json.specs.Tree.{json_tokens}
use Rattle.pocsag_text.specs.Text.{alpha_text}
use Rattle.pocsag_pages.specs.declared.page.Page.{Page}
use Rattle.pocsag_decode.specs.Listing.{header, kind_field, listing, message_field}
use Rattle.pocsag_receiver.specs.declared.captured.PageOrigin.{PageOrigin}
use Rattle.pocsag_receiver.specs.declared.form.ListForm.{ListForm}
use Rattle.pocsag_receiver.specs.declared.form.ListForm.TheVariants as form
use Rattle.pocsag_receiver.specs.declared.form.Row.{Row}

-- Whether the messages of a function below 3 are read as alphanumeric text.
abbrev pub is_text : List Bool → ℕ → Bool
is_text texts function = get_or texts function false

-- The kind of a page of this function and payload: that of the listing, or text0 to text2.
unfoldable pub kind_read : List Bool → ℕ → List ℕ → List ℕ
kind_read texts function [] = kind_field function []
kind_read texts function (item ∷ items) =
    if is_text texts function then codes "text" ++ (48 + function) ∷ [] else kind_field function (item ∷ items)

-- Its message: that of the listing, or the alphanumeric text of its payload.
unfoldable pub message_read : List Bool → ℕ → List ℕ → List ℕ
message_read texts function [] = []
message_read texts function (item ∷ items) =
    if is_text texts function then alpha_text (item ∷ items) else message_field function (item ∷ items)

-- The fields of a page without a mark.
abbrev pub record_read : List Bool → Page → List (List ℕ)
record_read texts p =
    decimal p.address ∷ kind_read texts p.function p.payload ∷ message_read texts p.function p.payload ∷ []

-- The members that the JSON object of a page has in each form, in front of others.
abbrev pub page_members : List Bool → Page → Members → Members
page_members texts p others =
    member (codes "address") (number (decimal p.address))
    (member (codes "function") (number (decimal p.function))
    (member (codes "kind") (string (kind_read texts p.function p.payload))
    (member (codes "message") (string (message_read texts p.function p.payload)) others)))

-- The JSON object of a page without a mark.
abbrev pub page_object : List Bool → Page → Json
page_object texts p = object (page_members texts p no_members)

-- The state of a page.
abbrev pub state_field : (is_cut : Bool) → List ℕ
state_field is_cut = if is_cut then codes "cut" else codes "whole"

-- The field of a mark, where a page has one: its state.
abbrev pub state_fields : Option PageOrigin → List (List ℕ)
state_fields None = []
state_fields (Some m) = state_field m.is_cut ∷ []

-- The members of a mark: the state, and of the transmission the number, whether each bit was received as the other, and the bit
-- at which it begins.
abbrev pub members_of : Option PageOrigin → Members
members_of None = no_members
members_of (Some m) =
    member (codes "state") (string (state_field m.is_cut))
    (member (codes "transmission") (number (decimal m.transmission))
    (member (codes "inverted") (boolean m.is_inverted)
    (member (codes "bit") (number (decimal m.bit)) no_members)))

-- The record of a page, and its line of JSON: the text of its object, without spaces, and a line feed.
abbrev pub row_record : List Bool → Row → List ℕ
row_record texts r = row_text default_writer (record_read texts r.page ++ state_fields r.mark)

abbrev pub row_line : List Bool → Row → List ℕ
row_line texts r = print (json_tokens (object (page_members texts r.page (members_of r.mark)))) ++ 10 ∷ []

-- The text of a page in a form.
abbrev pub row_in : ListForm → Row → List ℕ
row_in form.Listing r = row_record (false ∷ false ∷ false ∷ []) r
row_in (form.Texts texts) r = row_record texts r
row_in (form.Json texts) r = row_line texts r

-- What stands in front of the pages: in CSV the record of these names.
abbrev pub names_in : ListForm → (names : List ℕ) → List ℕ
names_in (form.Json texts) names = []
names_in _ names = names

-- The rows of pages that have no mark.
abbrev pub unmarked : List Page → List Row
unmarked ps = map (λ p. record { page = p; mark = None }) ps

-- Pages without marks in a form.
abbrev pub listed_in : ListForm → List Page → List ℕ
listed_in form.Listing ps = listing ps
listed_in f ps = names_in f (row_text default_writer header) ++ flat_map (row_in f) (unmarked ps)
