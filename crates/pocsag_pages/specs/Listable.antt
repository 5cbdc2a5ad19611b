-- Which pages may be listed (this project's own).
use Rattle.std.specs.Prelude.{◌<◌}
use Rattle.pocsag_text.specs.Bits.{AreItems}
use Rattle.pocsag_pages.specs.declared.page.Page.{Page}

-- The function has two bits, and each item of the message has twenty.
pub record IsListable (p : Page) : Type 0 where
  pub function : p.function < 4
  pub items : AreItems p.payload
