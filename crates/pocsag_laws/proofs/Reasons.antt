-- A text is no record for one reason at most, want of memory aside.
use Rattle.pocsag_laws.proofs.Prelude.{◌≡◌, ◌≢◌, ◌⊎◌, inl, inr, ℕ, List, [], ◌∷◌, ◌++◌, refl, sym, ap, ◌∙◌, subst, append_assoc, EndsInQuotes, HasNoRecord, HasStrayByte, HasStrayQuote, IsAtQuote, IsLostAt, IsRowText, IsUnread, Refusal, UndoneFault}
use Rattle.pocsag_pages.specs.RecordTexts.IsFieldText.{bare}
use Rattle.pocsag_pages.specs.RecordTexts.IsRowText.{last}
use Rattle.pocsag_journal.specs.declared.refusal.Refusal.TheVariants as refusal
use Rattle.pocsag_journal.specs.declared.refusal.UndoneFault.TheVariants as undone

-- of two fronts of a text one is the other, or goes on with the byte behind it
abbrev GoesOn : (front : List ℕ) (byte : ℕ) (longer : List ℕ) → Type 0
GoesOn front byte longer = (more : List ℕ) × (longer ≡ front ++ byte ∷ more)

two_fronts : (f g r s : List ℕ) (b c : ℕ) → f ++ b ∷ r ≡ g ++ c ∷ s → ((f ≡ g) × (b ≡ c)) ⊎ (GoesOn f b g ⊎ GoesOn g c f)
two_fronts [] [] r s b c e = inl (refl, cc e)
two_fronts [] (y ∷ g) r s b c e = let same : y ≡ b = cc e in inr (inl (g, ap (λ (n : ℕ). n ∷ g) same))
two_fronts (x ∷ f) [] r s b c e = let same : x ≡ c = cc e in inr (inr (f, ap (λ (n : ℕ). n ∷ f) same))
two_fronts (x ∷ f) (y ∷ g) r s b c e =
    let same : x ≡ y = cc e in
    elim (two_fronts f g r s b c (cc e)) [
      | inl h ↦ inl (ap (λ (n : ℕ). n ∷ f) same ∙ ap (λ (l : List ℕ). y ∷ l) h.0, h.1)
      | inr rest ↦ elim rest [
        | inl h ↦ inr (inl (h.0, ap (λ (l : List ℕ). y ∷ l) h.1 ∙ ap (λ (n : ℕ). n ∷ (f ++ b ∷ h.0)) (sym same)))
        | inr h ↦ inr (inr (h.0, ap (λ (n : ℕ). n ∷ f) same ∙ ap (λ (l : List ℕ). y ∷ l) h.1))
      ]
    ]

-- a text is lost at one byte
lost_once : (text f g : List ℕ) (b c : ℕ) → IsLostAt text f b → IsLostAt text g c → (f ≡ g) × (b ≡ c)
lost_once text f g b c p q = elim (two_fronts f g p.rest q.rest b c (sym p.parts ∙ q.parts)) [
  | inl h ↦ h
  | inr rest ↦ elim rest [
    | inl h ↦ absurd (p.lost h.0 q.fields (subst (λ (t : List ℕ). IsRowText q.fields t) h.1 q.begun))
    | inr h ↦ absurd (q.lost h.0 p.fields (subst (λ (t : List ℕ). IsRowText p.fields t) h.1 p.begun))
  ]
]

never_open : (text front : List ℕ) (byte : ℕ) → IsLostAt text front byte → EndsInQuotes text → ⊥
never_open text front byte p q =
    let longer : text ++ 34 ∷ [] ≡ front ++ byte ∷ (p.rest ++ 34 ∷ []) =
    ap (λ (t : List ℕ). t ++ 34 ∷ []) p.parts ∙ append_assoc front (byte ∷ p.rest) (34 ∷ []) in
    p.lost (p.rest ++ 34 ∷ []) q.0 (subst (λ (t : List ℕ). IsRowText q.0 t) longer q.1)

never_empty : (front rest : List ℕ) (byte : ℕ) → [] ≡ front ++ byte ∷ rest → ⊥
never_empty [] rest byte e = cc e
never_empty (x ∷ front) rest byte e = cc e

lost_not_empty : (text front : List ℕ) (byte : ℕ) → IsLostAt text front byte → text ≡ [] → ⊥
lost_not_empty text front byte p e = never_empty front p.rest byte (sym e ∙ p.parts)

open_not_empty : (text : List ℕ) → HasNoRecord text → text ≡ [] → ⊥
open_not_empty text none e = none ([] ∷ []) (subst (λ (t : List ℕ). IsRowText ([] ∷ []) t) (sym e) (last (bare refl)))

quote_or_byte : (text : List ℕ) → HasStrayQuote text → HasStrayByte text → ⊥
quote_or_byte text (f, (b, p, at)) (g, (c, q, other)) =
    let same = lost_once text f g b c p q in
    other (subst (λ (n : ℕ). IsAtQuote g n) same.1 (subst (λ (t : List ℕ). IsAtQuote t b) same.0 at))

-- want of memory
abbrev pub wanted : Refusal
wanted = refusal.Undone undone.OutOfMemory

-- one of the other reasons, each of which excludes the others
abbrev IsReason : (text : List ℕ) → Refusal → Type 0
IsReason text why =
    ((why ≡ refusal.InQuotes) × (HasNoRecord text × EndsInQuotes text))
    ⊎ (((why ≡ refusal.StrayQuote) × HasStrayQuote text) ⊎ ((why ≡ refusal.Unknown) × (HasStrayByte text ⊎ (text ≡ []))))

other_reasons : (text : List ℕ) (why : Refusal) → IsUnread text why → why ≢ wanted → IsReason text why
other_reasons text refusal.InQuotes h n = inl (refl, h)
other_reasons text refusal.StrayQuote h n = inr (inl (refl, h))
other_reasons text refusal.Unknown h n = inr (inr (refl, h))
other_reasons text (refusal.Undone f) h n = absurd (n (ap (λ (g : UndoneFault). refusal.Undone g) h.0))
other_reasons text (refusal.Field f) h n = absurd h
other_reasons text (refusal.Add f) h n = absurd h
other_reasons text (refusal.Cancel f) h n = absurd h

open_or_byte : (text : List ℕ) → HasNoRecord text × EndsInQuotes text → HasStrayByte text ⊎ (text ≡ []) → ⊥
open_or_byte text opened (inl lost) = never_open text lost.0 lost.1.0 lost.1.1 opened.1
open_or_byte text opened (inr empty) = open_not_empty text opened.0 empty

quote_or_unknown : (text : List ℕ) → HasStrayQuote text → HasStrayByte text ⊎ (text ≡ []) → ⊥
quote_or_unknown text quote (inl lost) = quote_or_byte text quote lost
quote_or_unknown text quote (inr empty) = lost_not_empty text quote.0 quote.1.0 quote.1.1 empty

same_reason : (text : List ℕ) (why other : Refusal) → IsReason text why → IsReason text other → why ≡ other
same_reason text why other (inl a) (inl b) = a.0 ∙ sym b.0
same_reason text why other (inl a) (inr (inl b)) = absurd (never_open text b.1.0 b.1.1.0 b.1.1.1 a.1.1)
same_reason text why other (inl a) (inr (inr b)) = absurd (open_or_byte text a.1 b.1)
same_reason text why other (inr (inl a)) (inl b) = absurd (never_open text a.1.0 a.1.1.0 a.1.1.1 b.1.1)
same_reason text why other (inr (inl a)) (inr (inl b)) = a.0 ∙ sym b.0
same_reason text why other (inr (inl a)) (inr (inr b)) = absurd (quote_or_unknown text a.1 b.1)
same_reason text why other (inr (inr a)) (inl b) = absurd (open_or_byte text b.1 a.1)
same_reason text why other (inr (inr a)) (inr (inl b)) = absurd (quote_or_unknown text b.1 a.1)
same_reason text why other (inr (inr a)) (inr (inr b)) = a.0 ∙ sym b.0

pub one_reason : (text : List ℕ) (why other : Refusal) → IsUnread text why → IsUnread text other → why ≢ wanted → other ≢ wanted → why ≡ other
one_reason text why other p q m n = same_reason text why other (other_reasons text why p m) (other_reasons text other q n)
