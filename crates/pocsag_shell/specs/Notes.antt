-- The lines on standard error, and texts with numbers (this project's own).
use Rattle.std.specs.Prelude.{◌≡◌, ◌≢◌, ◌⊎◌, ◌<◌, get_or, ◌==◌, ◌||◌, ℕ, if◌then◌else◌, nat_lt, List, [], ◌∷◌, ◌++◌, length, map, codes}
use Rattle.std.specs.Fmt.{decimal}
use Rattle.pocsag_words.specs.Devices.{HasFailed, TookPrefix}
use Rattle.pocsag_words.specs.declared.device.Sink.{Ghosts as Writer}

-- A byte of a note: the given one, or a question mark for one that ends a line or steers a terminal.
unfoldable pub plain : ℕ → ℕ
plain byte = if nat_lt byte 32 || (byte == 127) then 63 else byte

-- The line of a text: `pocsag: `, the text, and a line feed.
abbrev pub error_line : List ℕ → List ℕ
error_line text = codes "pocsag: " ++ (text ++ (10 ∷ []))

-- No line feed stands in it.
abbrev pub IsOneLine : List ℕ → Type 0
IsOneLine text = (i : ℕ) → i < length text → get_or text i 0 ≢ 10

-- One error line was written: whole, or behind a prefix of it the writer failed.
abbrev pub TookLine : {S : Type 0} → Writer S → (before after : S) → Type 0
TookLine Err before after = Err.is_known → (text : List ℕ) × IsOneLine text
    × ((Err.taken after ≡ Err.taken before ++ error_line text)
    ⊎ (HasFailed (Err.failures before) (Err.failures after) × TookPrefix (Err.taken before) (Err.taken after) (error_line text)))

-- The line of a note of `--verbose`, in which the line feed at its end is the only one.
unfoldable pub note_text : List ℕ → List ℕ
note_text text = error_line (map plain text)

-- Each text with its number behind it in decimal, and then the last text.
abbrev pub numbered_text : List (List ℕ × ℕ) → (last : List ℕ) → List ℕ
numbered_text [] last = last
numbered_text (pair ∷ more) last = pair.0 ++ (decimal pair.1 ++ numbered_text more last)
