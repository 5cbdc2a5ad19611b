-- A text without a quote is well quoted.
use Rattle.pocsag_pages.proofs.Prelude.{◌≡◌, ◌⊎◌, inl, inr, ℕ, suc, ◌<◌, ◌==◌, true, false, List, [], ◌∷◌, ◌++◌, length, refl, sym, subst, append_assoc, arith, Option, None, Some, is_some, slice_index, append-nil, cases_Bool, false_from_ne_true, QuotePlace, QuoteState, IsWellQuoted, ends_line, HasSeen, MayGoOn, bare_after, quote_state_after}
use Rattle.memchr.specs.Find.{IsFirstByte, is_byte}
use Rattle.pocsag_pages.specs.declared.quote_state.QuoteState.TheVariants as at
use Rattle.pocsag_pages.proofs.QuoteWalks.{ended, gone_on, nothing_seen, well_quoted}

-- no byte of it is a quote
abbrev HasNoQuote : List ℕ → Type 0
HasNoQuote xs = (k : ℕ) → k < length xs → (slice_index xs k == 34) ≡ true → ⊥

-- where no quote was seen in the record
abbrev IsUnquoted : QuoteState → Type 0
IsUnquoted q = (q ≡ at.Start) ⊎ (q ≡ at.Bare)

unquoted_shut : (q : QuoteState) → IsUnquoted q → q ≡ at.Open → ⊥
unquoted_shut q (inl start) opened = cc (start, opened)
unquoted_shut q (inr bare) opened = cc (bare, opened)

unquoted_goes : (q : QuoteState) → IsUnquoted q → MayGoOn q
unquoted_goes q (inl start) = rw start tt
unquoted_goes q (inr bare) = rw bare tt

after_as_bare : (q : QuoteState) (b : ℕ) → IsUnquoted q → (b == 34) ≡ false → quote_state_after q b ≡ bare_after b
after_as_bare q b (inl start) other = rw (start, other) refl
after_as_bare q b (inr bare) other = rw bare refl

unquoted_step : (b : ℕ) → (b == 34) ≡ false → (ends_line b ≡ true) ⊎ IsUnquoted (bare_after b)
unquoted_step b other = elim (cases_Bool (b == 44)) [
  | inl comma ↦ inr (inl (rw comma refl))
  | inr inside ↦ elim (cases_Bool (ends_line b)) [ inl e ↦ inl e | inr no_end ↦ inr (inr (rw (inside, other, no_end) refl)) ]
]

unquoted_rest : (xs seen : List ℕ) (p : QuotePlace) → HasSeen p seen → IsUnquoted p.state → HasNoQuote xs → IsWellQuoted (seen ++ xs)
unquoted_rest [] seen p h q free = rw append-nil (well_quoted p seen h (unquoted_shut p.state q))
unquoted_rest (b ∷ xs) seen p h q free =
    let other = false_from_ne_true (b == 34) (free 0 (omega arith)) in
    let more : HasNoQuote xs = λ k low. free (suc k) (omega arith) in
    subst IsWellQuoted (append_assoc seen (b ∷ []) xs) (elim (unquoted_step b other) [
      | inl end ↦ unquoted_rest xs (seen ++ b ∷ []) _ (ended p b _ _ seen h end (unquoted_shut p.state q) refl refl) (inl refl) more
      | inr unquoted ↦
          let after = after_as_bare p.state b q other in
          unquoted_rest xs (seen ++ b ∷ []) _ (gone_on p _ b _ _ seen h (sym after) (unquoted_goes (bare_after b) unquoted) refl refl) unquoted more
    ])

pub no_quote_found : (text : List ℕ) (found : Option ℕ) → is_some found ≡ false → IsFirstByte (is_byte 34) text found → IsWellQuoted text
no_quote_found text None e h = unquoted_rest text [] _ nothing_seen (inl refl) (λ k low is. h k (omega arith) low is)
no_quote_found text (Some k) e h = cc e
