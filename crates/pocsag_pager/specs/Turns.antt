-- What one word changes.
use Rattle.std.specs.Prelude.{◌≡◌, ℕ, if◌then◌else◌, [], ◌∷◌, ◌++◌, Option, Some, None}
use Rattle.pocsag_words.specs.declared.codeword.Kind.{Kind}
use Rattle.pocsag_words.specs.declared.codeword.Kind.TheVariants.{Idle, Address, Message}
use Rattle.pocsag_pages.specs.declared.page.Page.{Page}
use Rattle.pocsag_pager.specs.Shown.{IsMended, is_ours, page_called, said}

-- The word says this once it is mended.
pub record IsHeardAs (w : ℕ) (heard : Option Kind) : Type 0 where
  pub mended : Option ℕ
  pub is_mended : IsMended w mended
  pub is : said mended ≡ heard

-- The open page with the bits of one more message codeword.
abbrev pub longer : ℕ → Option Page → Option Page
longer bits None = None
longer bits (Some p) = Some (record p { payload = p.payload ++ bits ∷ [] })

-- The page that is open after a word at an index, where this one was open before it.
abbrev pub next_open : ℕ → ℕ → Option Page → Option Kind → Option Page
next_open a i before None = None
next_open a i before (Some Idle) = None
next_open a i before (Some (Address high function)) = if is_ours a i high then Some (page_called a function []) else None
next_open a i before (Some (Message bits)) = longer bits before

-- The page that ends at a word, where this one was open before it.
abbrev pub ending : Option Page → Option Kind → Option Page
ending before None = before
ending before (Some Idle) = before
ending before (Some (Address high function)) = before
ending before (Some (Message bits)) = None
