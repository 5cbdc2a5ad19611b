-- Listings that are written as the codewords are read.
use Rattle.std.specs.Prelude.{ℕ, List, ◌++◌, All}
use Rattle.std.specs.List.{flat_map}
use Rattle.csv.specs.Writing.{default_writer, row_text}
use Rattle.pocsag_words.specs.declared.codeword.Kind.{Kind}
use Rattle.pocsag_pages.specs.declared.page.Page.{Page}
use Rattle.pocsag_pages.specs.Listable.{IsListable}
use Rattle.pocsag_decode.specs.declared.lister.Lister.{Lister}
use Rattle.pocsag_decode.specs.OpenPages.{closed, resumed}
use Rattle.pocsag_decode.specs.Lines.{IsReady, text_in}
use Rattle.pocsag_decode.specs.Listing.{record_of}

-- The records of pages, one behind the other.
abbrev pub rows_of_pages : List Page → List ℕ
rows_of_pages ps = flat_map (λ p. row_text default_writer (record_of p)) ps

-- It stands before a record, and its open page may be listed.
pub record CanList (l : Lister) : Type 0 where
  pub ready : IsReady l.records
  pub listable : All IsListable (closed l.current)

-- What is listed in the end: the records that wait, and then those of its open page with what comes of its message and of
-- the pages of these codewords, the first of them at this index.
abbrev pub still_listed : Lister → ℕ → List Kind → List ℕ
still_listed l i ks = text_in l.records ++ rows_of_pages (resumed i l.current ks)
