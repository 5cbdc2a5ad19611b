-- What `pocsag_lay_in_order` promises.
use Rattle.std.specs.Prelude.{◌≡◌, ℕ, List, Ok, map}
use Rattle.pocsag_words.specs.Kinds.{kind_of}
use Rattle.pocsag_words.specs.declared.ending.End.TheVariants.{Open}
use Rattle.pocsag_pages.specs.Bytes.{bytes_of}
use Rattle.pocsag_pages.specs.PageFile.{verdict}
use Rattle.pocsag_pages.specs.Reading.{IsLegalList}
use Rattle.pocsag_pages.specs.declared.page.Page.{Page}
use Rattle.pocsag_batch.specs.FileOrder.{IsFileOrder}

-- The bytes are the transmission of the page file's round in file order, which is legal with the open end.
pub record IsInFileOrder (file sent : List ℕ) : Type 0 where
  pub round : List Page
  pub read : verdict file ≡ Ok round
  pub words : List ℕ
  pub order : IsFileOrder round (map kind_of words)
  pub batches : ℕ
  pub legal : IsLegalList Open words batches round
  pub bytes : sent ≡ bytes_of words
