-- Codewords that are read one after the other.
use Rattle.pocsag_show.proofs.Prelude.{◌≡◌, ◌≢◌, ℕ, ◌+◌, ◌/◌, ◌%◌, ◌<◌, ◌≤◌, List, [], ◌∷◌, length, get_or, map, refl, ap, sym, inl, inr, ◌∙◌, arith, from_be_bytes, w32, cases_eq, cases_lt, eq-eqb, ne_eqb, drop_all, drop_more, kind_of, Kind, unsynced, kinds_left}

module _ (words : List (List ℕ)) where
  pub none_left : (j : ℕ) → length words ≤ j → kinds_left j words ≡ []
  none_left j h = ap (λ (ws : List (List ℕ)). map kind_of (unsynced j (map (from_be_bytes w32) ws))) (drop_all j words h)

  -- a synchronisation codeword says nothing
  pub sync_skipped : (j : ℕ) → j % 17 ≡ 0 → kinds_left j words ≡ kinds_left (j + 1) words
  sync_skipped j s =
      elim (cases_lt j (length words)) [
        | inl h ↦
            ap (λ (ws : List (List ℕ)). map kind_of (unsynced j (map (from_be_bytes w32) ws))) (drop_more words j [] h) ∙ rw (eq-eqb _ _ s) refl
        | inr h ↦ none_left j h ∙ sym (none_left (j + 1) (omega arith))
      ]

  next_kind : (j : ℕ) → j % 17 ≢ 0 → j < length words
      → kinds_left j words ≡ kind_of (from_be_bytes w32 (get_or words j [])) ∷ kinds_left (j + 1) words
  next_kind j n h =
      ap (λ (ws : List (List ℕ)). map kind_of (unsynced j (map (from_be_bytes w32) ws))) (drop_more words j [] h) ∙ rw (ne_eqb _ _ n) refl

  -- the codeword at an index, and those behind it
  pub kind_read : (i j : ℕ) → j ≡ i + i / 16 + 1 → j < length words
      → kinds_left j words ≡ kind_of (from_be_bytes w32 (get_or words j [])) ∷ kinds_left (i + 1 + (i + 1) / 16 + 1) words
  kind_read i j at h =
      let here = kind_of (from_be_bytes w32 (get_or words j [])) in
      next_kind j (omega arith) h
      ∙ (elim (cases_eq ((i + 1) % 16) 0) [
        | inl e ↦
            let next : i + 1 + (i + 1) / 16 + 1 ≡ j + 1 + 1 = omega arith in
            ap (λ (ks : List Kind). here ∷ ks) (sync_skipped (j + 1) (omega arith) ∙ ap (λ (n : ℕ). kinds_left n words) (sym next))
        | inr n ↦
            let next : i + 1 + (i + 1) / 16 + 1 ≡ j + 1 = omega arith in
            ap (λ (ks : List Kind). here ∷ ks) (ap (λ (n : ℕ). kinds_left n words) (sym next))
      ])
