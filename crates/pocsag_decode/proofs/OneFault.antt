-- Bytes have one fault, which stays however they go on, and is never want of memory.
use Rattle.pocsag_decode.proofs.Prelude.{◌≡◌, ◌≢◌, ℕ, List, [], ◌++◌, length, refl, sym, ap, ◌∙◌, subst, inl, inr, arith, Ok, Err, length-append, nil_from_length, cases_order, true≢false, words_of, after_preamble, DecodeFault, words, HasFaultThere, HasFaultOfEnd, HasFault, RefusesPiece, WantsMemory, IsBad, bad_word, orphan, MayStandAt, AllMayStand, HasBadWord}
use Rattle.std.specs.Prelude.{Result}
use Rattle.std.specs.Result.{IsErrAnd}
use Rattle.pocsag_decode.specs.declared.fault.DecodeFault.TheVariants as fault
use Rattle.pocsag_decode.specs.Places.{no_sync}
use Rattle.pocsag_decode.proofs.Preambles.{begun_leading, begun_after}
use Rattle.pocsag_decode.proofs.Words.{bad_on}

-- a word is good or bad, and bad in one way
good_not_bad : (ws : List ℕ) (j : ℕ) (f : DecodeFault) → MayStandAt ws j → IsBad ws j f → ⊥
good_not_bad ws j f g (no_sync a b) = b (g.sync a)
good_not_bad ws j f g (bad_word a b) = b (g.codeword a)
good_not_bad ws j f g (orphan a b c d) = true≢false (sym (g.follows a c) ∙ d)

one_way : (ws : List ℕ) (j : ℕ) (f g : DecodeFault) → IsBad ws j f → IsBad ws j g → f ≡ g
one_way ws j f g (no_sync a b) (no_sync p q) = refl
one_way ws j f g (no_sync a b) (bad_word p q) = absurd (p a)
one_way ws j f g (no_sync a b) (orphan p q r s) = absurd (p a)
one_way ws j f g (bad_word a b) (no_sync p q) = absurd (a p)
one_way ws j f g (bad_word a b) (bad_word p q) = refl
one_way ws j f g (bad_word a b) (orphan p q r s) = absurd (b q)
one_way ws j f g (orphan a b c d) (no_sync p q) = absurd (a p)
one_way ws j f g (orphan a b c d) (bad_word p q) = absurd (q b)
one_way ws j f g (orphan a b c d) (orphan p q r s) = refl

one_bad_word : (ws : List ℕ) (f g : DecodeFault) → HasBadWord ws f → HasBadWord ws g → f ≡ g
one_bad_word ws f g b d =
    elim (cases_order b.place d.place) [
      | inl e ↦ one_way ws d.place f g (subst (λ (j : ℕ). IsBad ws j f) e b.bad) d.bad
      | inr (inl p) ↦ absurd (good_not_bad ws b.place f (d.least b.place p) b.bad)
      | inr (inr p) ↦ absurd (good_not_bad ws d.place g (b.least d.place p) d.bad)
    ]

pub all_good : (ws : List ℕ) (f : DecodeFault) → AllMayStand ws → HasBadWord ws f → ⊥
all_good ws f good b = good_not_bad ws b.place f (good b.place b.there) b.bad

none_bad : (Y : List ℕ) (f : DecodeFault) → Y ≡ [] → HasBadWord (words_of Y) f → ⊥
none_bad Y f e b = let t = b.there in let n = ap (λ (l : List ℕ). length (words_of l)) e in omega arith

there_there : (X : List ℕ) (f g : DecodeFault) → HasFaultThere X f → HasFaultThere X g → f ≡ g
there_there X f g (HasFaultThere.short a b) (HasFaultThere.short p q) = refl
there_there X f g (HasFaultThere.short a b) (HasFaultThere.bad p q) = absurd (omega arith)
there_there X f g (HasFaultThere.bad a b) (HasFaultThere.short p q) = absurd (omega arith)
there_there X f g (HasFaultThere.bad a b) (HasFaultThere.bad p q) = one_bad_word (words X) f g b q

there_end : (X : List ℕ) (f g : DecodeFault) → HasFaultThere X f → HasFaultOfEnd X g → f ≡ g
there_end X f g (HasFaultThere.short a b) (HasFaultOfEnd.short p q) = refl
there_end X f g (HasFaultThere.short a b) (HasFaultOfEnd.no_batch p q) = absurd (omega arith)
there_end X f g (HasFaultThere.short a b) (HasFaultOfEnd.cut p q r) = absurd (omega arith)
there_end X f g (HasFaultThere.bad a b) (HasFaultOfEnd.short p q) = absurd (omega arith)
there_end X f g (HasFaultThere.bad a b) (HasFaultOfEnd.no_batch p q) = absurd (none_bad (after_preamble X) f q b)
there_end X f g (HasFaultThere.bad a b) (HasFaultOfEnd.cut p q r) = absurd (all_good (words X) f q b)

end_end : (X : List ℕ) (f g : DecodeFault) → HasFaultOfEnd X f → HasFaultOfEnd X g → f ≡ g
end_end X f g (HasFaultOfEnd.short a b) (HasFaultOfEnd.short p q) = refl
end_end X f g (HasFaultOfEnd.short a b) (HasFaultOfEnd.no_batch p q) = absurd (omega arith)
end_end X f g (HasFaultOfEnd.short a b) (HasFaultOfEnd.cut p q r) = absurd (omega arith)
end_end X f g (HasFaultOfEnd.no_batch a b) (HasFaultOfEnd.short p q) = absurd (omega arith)
end_end X f g (HasFaultOfEnd.no_batch a b) (HasFaultOfEnd.no_batch p q) = refl
end_end X f g (HasFaultOfEnd.no_batch a b) (HasFaultOfEnd.cut p q r) = absurd (let n = ap length b in omega arith)
end_end X f g (HasFaultOfEnd.cut a b c) (HasFaultOfEnd.short p q) = absurd (omega arith)
end_end X f g (HasFaultOfEnd.cut a b c) (HasFaultOfEnd.no_batch p q) = absurd (let n = ap length q in omega arith)
end_end X f g (HasFaultOfEnd.cut a b c) (HasFaultOfEnd.cut p q r) = refl

pub one_fault : (X : List ℕ) (f g : DecodeFault) → HasFault X f → HasFault X g → f ≡ g
one_fault X f g (inl a) (inl b) = there_there X f g a b
one_fault X f g (inl a) (inr b) = there_end X f g a b
one_fault X f g (inr a) (inl b) = sym (there_end X g f b a)
one_fault X f g (inr a) (inr b) = end_end X f g a b

append_nil_left : (xs ys : List ℕ) → xs ++ ys ≡ [] → xs ≡ []
append_nil_left xs ys e = nil_from_length xs (let l = ap length e in omega (arith, length-append xs ys))

pub there_stays : (X Z : List ℕ) (f : DecodeFault) → HasFaultThere X f → HasFaultThere (X ++ Z) f
there_stays X Z f (HasFaultThere.short a b) =
    HasFaultThere.short (let l = begun_leading X Z b in omega arith)
    (λ e. b (append_nil_left (after_preamble X) Z (sym (begun_after X Z b) ∙ e)))
there_stays X Z f (HasFaultThere.bad a b) =
    let n : after_preamble X ≢ [] = λ e. none_bad (after_preamble X) f e b in
    HasFaultThere.bad (let l = begun_leading X Z n in omega arith) (rw (begun_after X Z n) (bad_on (after_preamble X) Z f b))

-- no fault of the end is want of memory
pub never_memory : (X : List ℕ) (f : DecodeFault) → HasFaultOfEnd X f → f ≡ fault.OutOfMemory → ⊥
never_memory X f (HasFaultOfEnd.short a b) e = cc
never_memory X f (HasFaultOfEnd.no_batch a b) e = cc
never_memory X f (HasFaultOfEnd.cut a b g) e = cc

never_at : (ws : List ℕ) (j : ℕ) (f : DecodeFault) → IsBad ws j f → f ≡ fault.OutOfMemory → ⊥
never_at ws j f (IsBad.no_sync a b) e = cc
never_at ws j f (IsBad.bad_word a b) e = cc
never_at ws j f (IsBad.orphan a b g h) e = cc

never_there : (X : List ℕ) (f : DecodeFault) → HasFaultThere X f → f ≡ fault.OutOfMemory → ⊥
never_there X f (HasFaultThere.short a b) e = cc
never_there X f (HasFaultThere.bad a b) e = never_at (words X) b.place f b.bad e

-- bytes that are refused for want of memory have a word that has to be kept
pub wanting_word : (X : List ℕ) (f : DecodeFault) → RefusesPiece [] X f → f ≡ fault.OutOfMemory → WantsMemory X
wanting_word X f (RefusesPiece.too_much a) e = absurd (cc)
wanting_word X f (RefusesPiece.no_memory a b k) e = WantsMemory.at_word b k
wanting_word X f (RefusesPiece.fault_there a t) e = absurd (never_there X f t e)

-- the fault that is answered is the one that was met
pub answered : {T : Type 0} (r : Result T DecodeFault) (f g : DecodeFault) → r ≡ Err f → IsErrAnd r (λ e. e ≡ g) → g ≡ f
answered (Ok x) f g e is = absurd (cc)
answered (Err x) f g e is = cc
