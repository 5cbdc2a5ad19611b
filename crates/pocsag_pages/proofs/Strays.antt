-- Where a text is lost: at a quote, or at another byte.
use Rattle.pocsag_pages.proofs.Prelude.{◌≡◌, ◌≢◌, ◌⊎◌, inl, inr, ℕ, ◌==◌, List, [], ◌∷◌, ◌++◌, refl, sym, ap, ◌∙◌, subst, append_assoc, eqb-true, default_writer, escaped, needs_byte, QuoteState, IsRecordFront, at_start, closed, opened, unquoted, MayEnd, MayGoOn, bare_after, quote_state_after, quote_state_from, unquoted_after, HasStrayByte, HasStrayQuote, IsAtQuote, IsLostAt}
use Rattle.pocsag_pages.specs.declared.quote_state.QuoteState.TheVariants as at
use Rattle.pocsag_pages.proofs.QuoteStates.{at_the_end, behind, chosen, front_on, front_text, lost_behind, may_go, next, one_more}
use Rattle.pocsag_pages.proofs.RowTexts.{no_row, row_place}

pub turn : (r : QuoteState) → (r ≡ at.Broken) ⊎ ((r ≡ at.Ended) ⊎ MayGoOn r)
turn at.Start = inr (inr tt)
turn at.Bare = inr (inr tt)
turn at.Open = inr (inr tt)
turn at.Closed = inr (inr tt)
turn at.Broken = inl refl
turn at.Ended = inr (inl refl)

-- which byte it was
abbrev IsBy : QuoteState → ℕ → QuoteState → Type 0
IsBy q b at.Broken = (b ≡ 34) ⊎ (q ≡ at.Closed)
IsBy q b at.Ended = (b ≢ 34) × (q ≢ at.Closed)
IsBy q b _ = Unit {0}

bare_by : (q : QuoteState) (b : ℕ) → q ≢ at.Closed → IsBy q b (bare_after b)
bare_by q b other =
    chosen (IsBy q b) (b == 44) at.Start _ (λ comma. tt)
    (λ inside. chosen (IsBy q b) (needs_byte default_writer b) (unquoted_after b) at.Bare
    (λ bad. chosen (IsBy q b) (b == 34) at.Broken at.Ended (λ quote. inl (eqb-true b 34 quote)) (λ no_quote. (λ e. cc (rw e at no_quote), other)))
    (λ plain. tt))

lost_by : (q : QuoteState) (start front : List ℕ) (b : ℕ) → IsRecordFront q start front → IsBy q b (quote_state_after q b)
lost_by q start front b (at_start begins) = chosen (IsBy at.Start b) (b == 34) at.Open (bare_after b) (λ quote. tt) (λ other. bare_by at.Start b (λ e. cc e))
lost_by q start front b (unquoted held begins plain) = bare_by at.Bare b (λ e. cc e)
lost_by q start front b (opened held begins) = chosen (IsBy at.Open b) (b == 34) at.Closed at.Open (λ quote. tt) (λ other. tt)
lost_by q start front b (closed held begins) =
    chosen (IsBy at.Closed b) (b == 34) at.Open _ (λ quote. tt) (λ other. chosen (IsBy at.Closed b) (b == 44) at.Start at.Broken (λ comma. tt) (λ inside. inr refl))

-- behind a quote a record ends only where the quote ends a field
after_quote : (q : QuoteState) → MayEnd (quote_state_after q 34) → quote_state_after q 34 ≡ at.Closed
after_quote at.Start m = absurd m
after_quote at.Bare m = absurd m
after_quote at.Open m = refl
after_quote at.Closed m = absurd m
after_quote at.Broken m = absurd m
after_quote at.Ended m = absurd m

not_at_quote : (q : QuoteState) (front : List ℕ) (b : ℕ) → quote_state_from at.Start front ≡ q → MayEnd q → (b ≢ 34) × (q ≢ at.Closed) → IsAtQuote front b → ⊥
not_at_quote q front b e may by (inl h) = by.0 h
not_at_quote q front b e may by (inr h) =
    let stands : q ≡ quote_state_after (quote_state_from at.Start h.0) 34 =
    sym e ∙ ap (quote_state_from at.Start) h.1 ∙ one_more (quote_state_from at.Start h.0) h.0 34 refl in
    by.1 (stands ∙ after_quote (quote_state_from at.Start h.0) (subst MayEnd stands may))

pub lost_here : (q : QuoteState) (start front rest : List ℕ) (b : ℕ) → quote_state_from at.Start front ≡ q → IsRecordFront q start front →
    (MayGoOn (quote_state_after q b) → ⊥) → IsLostAt (front ++ b ∷ rest) front b
unfolding quote_state_from
lost_here q start front rest b e field dead =
    let text = front_text q start front field (lost_behind q b dead) in
    record {
      rest = rest;
      parts = refl;
      fields = text.0;
      begun = text.1;
      lost = λ more. no_row (front ++ b ∷ more) (λ m. dead (may_go (quote_state_after q b) more (subst MayEnd (behind q front (b ∷ more) e) m)));
    }

at_quote : (q : QuoteState) (start front : List ℕ) (b : ℕ) → IsRecordFront q start front → (b ≡ 34) ⊎ (q ≡ at.Closed) → IsAtQuote front b
at_quote q start front b field (inl h) = inl h
at_quote q start front b (at_start begins) (inr h) = cc h
at_quote q start front b (unquoted held begins plain) (inr h) = cc h
at_quote q start front b (opened held begins) (inr h) = cc h
at_quote q start front b (closed held begins) (inr h) =
    inr (start ++ 34 ∷ escaped default_writer held, sym (append_assoc start (34 ∷ escaped default_writer held) (34 ∷ [])))

broken_stays : (xs : List ℕ) → quote_state_from at.Broken xs ≡ at.Ended → ⊥
unfolding quote_state_from
broken_stays [] e = cc e
broken_stays (b ∷ xs) e = broken_stays xs e

ended_stays : (xs : List ℕ) → quote_state_from at.Ended xs ≡ at.Broken → ⊥
unfolding quote_state_from
ended_stays [] e = cc e
ended_stays (b ∷ xs) e = ended_stays xs e

abbrev IsLostBy : QuoteState → List ℕ → List ℕ → Type 0
IsLostBy q xs text = (quote_state_from q xs ≡ at.Broken → HasStrayQuote text) × (quote_state_from q xs ≡ at.Ended → HasStrayByte text)

strays : (q : QuoteState) (start front xs : List ℕ) → quote_state_from at.Start front ≡ q → IsRecordFront q start front → IsLostBy q xs (front ++ xs)
unfolding quote_state_from
strays q start front [] e field =
    let on = front_on q start front field in (λ h. absurd (subst MayGoOn h on), λ h. absurd (subst MayGoOn h on))
strays q start front (b ∷ xs) e field =
    let by = lost_by q start front b field in
    let lost : (MayGoOn (quote_state_after q b) → ⊥) → IsLostAt (front ++ b ∷ xs) front b = lost_here q start front xs b e field in
    elim (turn (quote_state_after q b)) [
      | inl broken ↦ (
        λ h. (front, (b, lost (λ on. subst MayGoOn broken on), at_quote q start front b field (subst (IsBy q b) broken by))),
        λ h. absurd (broken_stays xs (subst (λ (s : QuoteState). quote_state_from s xs ≡ at.Ended) broken h)),
      )
      | inr rest ↦ elim rest [
        | inl over ↦ (
          λ h. absurd (ended_stays xs (subst (λ (s : QuoteState). quote_state_from s xs ≡ at.Broken) over h)),
          λ h. (front, (b, lost (λ on. subst MayGoOn over on), not_at_quote q front b e (subst MayEnd e (row_place _ front (lost (λ on. subst MayGoOn over on)).begun)) (subst (IsBy q b) over by))),
        )
        | inr on ↦
            subst (IsLostBy (quote_state_after q b) xs) (append_assoc front (b ∷ []) xs)
            (strays (quote_state_after q b) _ _ xs (one_more q front b e) (next q start front b field on))
      ]
    ]

pub stray_quote : (text : List ℕ) → quote_state_from at.Start text ≡ at.Broken → HasStrayQuote text
stray_quote text e = (strays at.Start [] [] text (at_the_end at.Start) (at_start (inl refl))).0 e

pub stray_byte : (text : List ℕ) → quote_state_from at.Start text ≡ at.Ended → HasStrayByte text
stray_byte text e = (strays at.Start [] [] text (at_the_end at.Start) (at_start (inl refl))).1 e
