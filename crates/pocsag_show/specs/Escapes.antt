-- What is reported of a page, as text of XML (this project's own).
use Rattle.std.specs.Prelude.{ℕ, ◌+◌, ◌==◌, nat_lt, if◌then◌else◌, List, [], ◌∷◌, ◌++◌, codes}
use Rattle.std.specs.List.{flat_map}
use Rattle.std.specs.Fmt.{decimal}
use Rattle.pocsag_decode.specs.Listing.{kind_field, message_field}
use Rattle.pocsag_show.specs.declared.placed.Placed.{Placed}
use Rattle.pocsag_show.specs.Numbers.{label}

-- A character of a message so that it stands for itself: what XML takes for its own by its name, and a control
-- character, which XML does not take, as the picture that Unicode has of it.
unfoldable pub escaped : ℕ → List ℕ
escaped c =
    if c == 38 then codes "&amp;"
    else if c == 60 then codes "&lt;"
    else if c == 62 then codes "&gt;"
    else if nat_lt c 32 then codes "&#" ++ (decimal (9216 + c) ++ codes ";")
    else if nat_lt c 127 then c ∷ []
    else codes "&#9249;"

-- The message of a page, where it has one.
unfoldable pub told_message : ℕ → List ℕ → List ℕ
told_message function [] = []
told_message function (item ∷ items) = codes ": " ++ flat_map escaped (message_field function (item ∷ items))

-- A page's label, address, kind and message.
unfoldable pub told : Placed → List ℕ
told pl =
    label pl.number
    ++ (codes ": address " ++ (decimal pl.page.address
    ++ (codes ", " ++ (kind_field pl.page.function pl.page.payload ++ told_message pl.page.function pl.page.payload))))
