-- Bytes among which no line feed is found.
use Rattle.pocsag_journal.proofs.Prelude.{◌≡◌, ◌≢◌, ℕ, true, false, List, [], ◌∷◌, refl, sym, ◌∙◌, or_parts, list_any, line_feed, HasNoLineFeed}
use Rattle.std.specs.Prelude.{◌==◌}

other_byte : (b : ℕ) → (b == line_feed) ≡ false → b ≢ line_feed
other_byte b n e = let t : (b == line_feed) ≡ true = rw e refl in cc (sym t ∙ n)

pub none_found : (bytes : List ℕ) → list_any (λ b. b == line_feed) bytes ≡ false → HasNoLineFeed bytes
none_found [] e = tt
none_found (b ∷ bytes) e =
    let h = or_parts (b == line_feed) (list_any (λ c. c == line_feed) bytes) e in
    (other_byte b h.0, none_found bytes h.1)
