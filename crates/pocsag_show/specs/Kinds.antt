-- Codewords that are read one after the other.
use Rattle.std.specs.Prelude.{ℕ, ◌+◌, ◌/◌, List}
use Rattle.pocsag_words.specs.declared.codeword.Kind.{Kind}
use Rattle.pocsag_pages.specs.Pages.{addresses_of}
use Rattle.pocsag_pages.specs.Plain.{pages_from}
use Rattle.pocsag_decode.specs.PageReaders.{kinds_left}
use Rattle.pocsag_show.specs.declared.kind_reader.KindReader.{KindReader}
use Rattle.pocsag_show.specs.Grid.{starts_from}

-- What the codewords say that are left.
abbrev pub kinds_ahead : KindReader → List Kind
kinds_ahead r = kinds_left (r.index + r.index / 16 + 1) r.words.now

-- The indices at which pages begin in them.
abbrev pub starts_ahead : KindReader → List ℕ
starts_ahead r = starts_from r.index (kinds_ahead r)

-- The addresses of these pages.
abbrev pub addresses_ahead : KindReader → List ℕ
addresses_ahead r = addresses_of (pages_from r.index (kinds_ahead r))
