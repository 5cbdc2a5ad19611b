use Rattle.pocsag_text.proofs.Prelude.{◌≡◌, ◌<◌, List, ℕ, IsSome, All, take, map, refl, sym, ap, ◌∙◌, All-map, All-take, All-weaker, item_bits, numeric_text, trim_end, codes_of, character_of, code_of}
use Rattle.pocsag_text.proofs.Codes.{code_of-character_of}
use Rattle.pocsag_text.proofs.RoundTrips.{numeric_text-back}
use Rattle.pocsag_text.proofs.unpack.unpack_numeric.Goals as goal

whole : (text now made codes items : List ℕ) (len : ℕ) → text ≡ take len made → now ≡ made → take len now ≡ trim_end 32 now →
    made ≡ map character_of codes → codes ≡ codes_of 4 (item_bits items) → text ≡ numeric_text items
unfolding numeric_text
whole text now made codes items len t n e m c =
    t ∙ ap (take len) (sym n) ∙ e ∙ ap (trim_end 32) (n ∙ m ∙ ap (map character_of) c)

allowed : (k : ℕ) → k < 16 → IsSome (code_of (character_of k))
allowed k h = rw (code_of-character_of k h) refl

all_allowed : (text made codes : List ℕ) (len : ℕ) → text ≡ take len made → made ≡ map character_of codes →
    All (λ k. k < 16) codes → All (λ c. IsSome (code_of c)) text
all_allowed text made codes len t m h =
    let some : All (λ k. IsSome (code_of (character_of k))) codes =
    All-weaker (λ k. k < 16) (λ k. IsSome (code_of (character_of k))) allowed codes h in
    rw (t, m)
    (All-take (λ c. IsSome (code_of c)) len (map character_of codes) (All-map (λ c. IsSome (code_of c)) character_of codes some))

pub returns-clause-text : goal.returns-clause-text
returns-clause-text c =
    whole _ _ _ _ c.args.items.now c.trimmed_len-len.result c.truncate.ensures.items c.deref.ensures.value
    c.trimmed_len-len.ensures.trimmed c.characters_of-text.ensures (rw c.new.ensures.items at c.in_ok-codes.ensures.codes)

pub returns-clause-back : goal.returns-clause-back
returns-clause-back c = λ t h.
    whole _ _ _ _ c.args.items.now c.trimmed_len-len.result c.truncate.ensures.items c.deref.ensures.value
    c.trimmed_len-len.ensures.trimmed c.characters_of-text.ensures (rw c.new.ensures.items at c.in_ok-codes.ensures.codes)
    ∙ numeric_text-back t c.args.items.now h

pub returns-clause-allowed : goal.returns-clause-allowed
returns-clause-allowed c =
    all_allowed _ _ _ c.trimmed_len-len.result c.truncate.ensures.items c.characters_of-text.ensures
    c.in_ok-codes.ensures.small
