-- A text that is well quoted has no fault of quotes.
use Rattle.pocsag_pages.proofs.Prelude.{◌≡◌, ◌⊎◌, inl, inr, ℕ, ◌==◌, true, false, cond, List, [], ◌∷◌, ◌++◌, map, refl, sym, ap, ◌∙◌, subst, cases_Bool, eqb-true, QuotePlace, QuoteState, IsRowText, AreRecords, IsWellQuoted, ends_line, none, blank, more, HasSeen, MayEnd, MayGoOn, quote_state_after, quote_state_from}
use Rattle.pocsag_pages.specs.declared.quote_state.QuoteState.TheVariants as at
use Rattle.pocsag_pages.proofs.QuoteStates.{behind_comma, front_on, goes_on, may_go}
use Rattle.pocsag_pages.proofs.RowTexts.{row_place}

-- a file stands as one record would that has a comma for each end of a line
abbrev levelled : ℕ → ℕ
levelled b = cond (ends_line b) 44 b

abbrev run : QuoteState → List ℕ → QuoteState
run q bytes = quote_state_from q (map levelled bytes)

levelled_on : (q : QuoteState) (xs ys : List ℕ) → run q (xs ++ ys) ≡ run (run q xs) ys
unfolding quote_state_from
levelled_on q [] ys = refl
levelled_on q (b ∷ xs) ys = levelled_on (quote_state_after q (levelled b)) xs ys

end_is : (b : ℕ) → ends_line b ≡ true → (b ≡ 13) ⊎ (b ≡ 10)
end_is b e = elim (cases_Bool (b == 13)) [
  | inl return ↦ inl (eqb-true b 13 return)
  | inr other ↦ elim (cases_Bool (b == 10)) [ inl feed ↦ inr (eqb-true b 10 feed) | inr another ↦ cc (rw (other, another) at e) ]
]

-- inside a record it stands as the record does
same_end : (q : QuoteState) (b : ℕ) → (b ≡ 13) ⊎ (b ≡ 10) → MayGoOn (quote_state_after q b) → quote_state_after q 44 ≡ quote_state_after q b
same_end at.Start b (inl e) on = absurd (rw e at on)
same_end at.Start b (inr e) on = absurd (rw e at on)
same_end at.Bare b (inl e) on = absurd (rw e at on)
same_end at.Bare b (inr e) on = absurd (rw e at on)
same_end at.Open b (inl e) on = rw e refl
same_end at.Open b (inr e) on = rw e refl
same_end at.Closed b (inl e) on = absurd (rw e at on)
same_end at.Closed b (inr e) on = absurd (rw e at on)
same_end at.Broken b e on = absurd on
same_end at.Ended b e on = absurd on

same_step : (q : QuoteState) (b : ℕ) → MayGoOn (quote_state_after q b) → quote_state_after q (levelled b) ≡ quote_state_after q b
same_step q b on = elim (cases_Bool (ends_line b)) [ inl e ↦ rw e (same_end q b (end_is b e) on) | inr e ↦ rw e refl ]

same_run : (q : QuoteState) (xs : List ℕ) → MayGoOn (quote_state_from q xs) → run q xs ≡ quote_state_from q xs
unfolding quote_state_from
same_run q [] on = refl
same_run q (b ∷ xs) on =
    ap (λ (s : QuoteState). run s xs) (same_step q b (goes_on MayGoOn (λ m. m) (λ m. m) (quote_state_after q b) xs on))
    ∙ same_run (quote_state_after q b) xs on

row_run : (fields : List (List ℕ)) (text : List ℕ) → IsRowText fields text → MayEnd (run at.Start text)
unfolding quote_state_from
row_run fields text row =
    let may = row_place fields text row in
    subst MayEnd (sym (same_run at.Start text (may_go (quote_state_from at.Start text) [] may))) may

end_step : (q : QuoteState) (b : ℕ) → MayEnd q → ends_line b ≡ true → quote_state_after q (levelled b) ≡ at.Start
end_step q b may e = rw e (behind_comma q may)

records_run : (n : ℕ) (bytes : List ℕ) → AreRecords n bytes → run at.Start bytes ≡ at.Start
unfolding quote_state_from
records_run n bytes none = refl
records_run n whole (blank bytes b records e) =
    levelled_on at.Start bytes (b ∷ []) ∙ ap (λ (q : QuoteState). quote_state_after q (levelled b)) (records_run n bytes records) ∙ end_step at.Start b tt e
records_run n whole (more count bytes text b fields records row some e) =
    levelled_on at.Start bytes (text ++ b ∷ []) ∙ ap (λ (q : QuoteState). run q (text ++ b ∷ [])) (records_run count bytes records)
    ∙ levelled_on at.Start text (b ∷ []) ∙ end_step (run at.Start text) b (row_run fields text row) e

behind_records : (n : ℕ) (bytes rest : List ℕ) → AreRecords n bytes → run at.Start (bytes ++ rest) ≡ run at.Start rest
behind_records n bytes rest records = levelled_on at.Start bytes rest ∙ ap (λ (q : QuoteState). run q rest) (records_run n bytes records)

well_run : (text : List ℕ) → IsWellQuoted text → MayEnd (run at.Start text)
well_run text w = subst MayEnd (sym (ap (run at.Start) w.parts ∙ behind_records w.number w.before w.last w.records)) (row_run w.fields w.last w.ends)

seen_run : (p : QuotePlace) (seen : List ℕ) → HasSeen p seen → run at.Start seen ≡ p.state
seen_run p seen h =
    ap (run at.Start) h.parts ∙ behind_records p.number h.before h.front h.records
    ∙ same_run at.Start h.front (subst MayGoOn (sym h.state) (front_on p.state h.start h.front h.field)) ∙ h.state

-- nothing well quoted ends with a field open in quotes
pub open_is_not : (p : QuotePlace) (seen : List ℕ) → HasSeen p seen → p.state ≡ at.Open → IsWellQuoted seen → ⊥
open_is_not p seen h is w = subst MayEnd (seen_run p seen h ∙ is) (well_run seen w)

-- nothing well quoted goes on where the text is lost
pub lost_is_not : (p : QuotePlace) (b : ℕ) (seen rest : List ℕ) → HasSeen p seen → ends_line b ≡ false → (MayGoOn (quote_state_after p.state b) → ⊥) →
    IsWellQuoted (seen ++ b ∷ rest) → ⊥
unfolding quote_state_from
lost_is_not p b seen rest h no_end dead w =
    let ends = subst MayEnd (levelled_on at.Start seen (b ∷ rest)
    ∙ ap (λ (q : QuoteState). run q (b ∷ rest)) (seen_run p seen h)) (well_run (seen ++ b ∷ rest) w) in
    let on = may_go (quote_state_after p.state (levelled b)) (map levelled rest) ends in
    dead (rw no_end at on)
