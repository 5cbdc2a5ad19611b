-- The bytes AA that stand first, and what follows them, as the bytes go on.
use Rattle.pocsag_decode.proofs.Prelude.{◌≡◌, ◌≢◌, ◌⊎◌, ℕ, zero, suc, ◌+◌, List, [], ◌∷◌, ◌++◌, length, drop, replicate, refl, sym, ap, ap₂, ◌∙◌, inl, inr, arith, append_assoc, cases_eq, eq-eqb, ne_eqb, append-nil, length-append, length-replicate, replicate-append-replicate, leading, after_preamble}

-- no byte AA stands first
abbrev pub BeginsOther : List ℕ → Type 0
BeginsOther [] = Unit {0}
BeginsOther (x ∷ xs) = x ≢ 0xaa

-- so many bytes AA, and then these bytes, of which none AA stands first
pub record Parts (X : List ℕ) (k : ℕ) (Y : List ℕ) : Type 0 where
  pub whole : X ≡ replicate k 0xaa ++ Y
  pub other : BeginsOther Y

leads : (k : ℕ) (Y : List ℕ) → BeginsOther Y → leading (replicate k 0xaa ++ Y) ≡ k
leads zero [] o = refl
leads zero (y ∷ Y) o = rw (ne_eqb _ _ o) refl
leads (suc k) Y o = ap (λ (n : ℕ). n + 1) (leads k Y o) ∙ omega arith

left : (k : ℕ) (Y : List ℕ) → drop k (replicate k 0xaa ++ Y) ≡ Y
left zero Y = refl
left (suc k) Y = left k Y

pub parts : (X : List ℕ) → Parts X (leading X) (after_preamble X)
parts [] = record { whole = refl; other = tt }
parts (x ∷ X) =
    elim (cases_eq x 0xaa) [
      | inl e ↦
          let p = parts X in
          let n : leading X + 1 ≡ suc (leading X) = omega arith in
          rw (eq-eqb _ _ e, n) (record {
            whole = ap (λ (y : ℕ). y ∷ X) e ∙ ap (λ (l : List ℕ). 0xaa ∷ l) p.whole;
            other = p.other;
          })
      | inr n ↦ rw (ne_eqb _ _ n) (record { whole = refl; other = n })
    ]

pub leading_is : (X : List ℕ) (k : ℕ) (Y : List ℕ) → Parts X k Y → leading X ≡ k
leading_is X k Y p = ap leading p.whole ∙ leads k Y p.other

pub after_is : (X : List ℕ) (k : ℕ) (Y : List ℕ) → Parts X k Y → after_preamble X ≡ Y
after_is X k Y p = ap (λ (n : ℕ). drop n X) (leading_is X k Y p) ∙ (ap (drop k) p.whole ∙ left k Y)

-- how the bytes X go on with Z
begins_on : (Y Z : List ℕ) → Y ≢ [] → BeginsOther Y → BeginsOther (Y ++ Z)
begins_on [] Z n o = absurd (n refl)
begins_on (y ∷ Y) Z n o = o

module _ (X Z : List ℕ) where
  pub count_is : length X ≡ leading X + length (after_preamble X)
  count_is =
      ap length (parts X).whole
      ∙ (length-append (replicate (leading X) 0xaa) (after_preamble X)
      ∙ ap (λ (n : ℕ). n + length (after_preamble X)) (length-replicate (leading X) 0xaa))

  -- another byte than AA came: Z follows it
  begun : after_preamble X ≢ [] → Parts (X ++ Z) (leading X) (after_preamble X ++ Z)
  begun n = record {
    whole = ap (λ (l : List ℕ). l ++ Z) (parts X).whole ∙ append_assoc (replicate (leading X) 0xaa) (after_preamble X) Z;
    other = begins_on (after_preamble X) Z n (parts X).other;
  }

  pub begun_leading : after_preamble X ≢ [] → leading (X ++ Z) ≡ leading X
  begun_leading n = leading_is (X ++ Z) (leading X) (after_preamble X ++ Z) (begun n)

  pub begun_after : after_preamble X ≢ [] → after_preamble (X ++ Z) ≡ after_preamble X ++ Z
  begun_after n = after_is (X ++ Z) (leading X) (after_preamble X ++ Z) (begun n)

  -- none came: the bytes AA of Z are counted too
  alone : after_preamble X ≡ [] → Parts (X ++ Z) (leading X + leading Z) (after_preamble Z)
  alone e = record {
    whole =
        let only : X ≡ replicate (leading X) 0xaa =
        (parts X).whole ∙ (ap (λ (l : List ℕ). replicate (leading X) 0xaa ++ l) e ∙ append-nil (replicate (leading X) 0xaa)) in
        ap₂ (λ (x z : List ℕ). x ++ z) only (parts Z).whole
        ∙ (sym (append_assoc (replicate (leading X) 0xaa) (replicate (leading Z) 0xaa) (after_preamble Z))
        ∙ ap (λ (l : List ℕ). l ++ after_preamble Z) (replicate-append-replicate (leading X) (leading Z) 0xaa));
    other = (parts Z).other;
  }

  pub alone_leading : after_preamble X ≡ [] → leading (X ++ Z) ≡ leading X + leading Z
  alone_leading e = leading_is (X ++ Z) (leading X + leading Z) (after_preamble Z) (alone e)

  pub alone_after : after_preamble X ≡ [] → after_preamble (X ++ Z) ≡ after_preamble X ++ after_preamble Z
  alone_after e =
      after_is (X ++ Z) (leading X + leading Z) (after_preamble Z) (alone e) ∙ sym (ap (λ (l : List ℕ). l ++ after_preamble Z) e)

pub nil_or : (l : List ℕ) → (l ≡ []) ⊎ (l ≢ [])
nil_or [] = inl refl
nil_or (x ∷ l) = inr (λ e. cc)
