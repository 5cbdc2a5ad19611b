-- Each word can be judged, and bytes with no fault are whole batches of good words.
use Rattle.pocsag_decode.proofs.Prelude.{◌≡◌, ◌≢◌, ◌⊎◌, ℕ, ◌/◌, ◌%◌, ◌^◌, ◌<◌, ◌≤◌, Bool, true, false, List, [], ◌∷◌, ◌++◌, length, All, refl, sym, ap, ◌∙◌, subst, inl, inr, arith, append_assoc, cases_eq, cases_lt, true≢false, append-nil, nil_from_length, IsCodeword, kind_of, sync_word, leading, after_preamble, DecodeFault, words, HasFaultThere, HasFaultOfEnd, IsFaultless, is_message, index_at, may_follow, AllMayStand, HasBadWord}
use Rattle.pocsag_words.specs.Columns.{syndrome_of}
use Rattle.pocsag_words.proofs.ErrorLemmas.{IsCodeword-from_syndrome, syndrome_of-codeword}
use Rattle.pocsag_decode.specs.declared.fault.DecodeFault.TheVariants as fault
use Rattle.pocsag_decode.proofs.Preambles.{nil_or}
use Rattle.pocsag_decode.proofs.Transmissions.{IsWhole}
use Rattle.pocsag_decode.proofs.WordByWord.{good_sync, bad_sync, good_codeword, bad_codeword, bad_orphan, bad_stays}
use Rattle.pocsag_decode.proofs.OneFault.{all_good}

-- each word can be judged
codeword_or : (w : ℕ) → IsCodeword w ⊎ ¬ IsCodeword w
codeword_or w =
    elim (cases_lt w (2 ^ 32)) [
      | inl p ↦ elim (cases_eq (syndrome_of w) 0) [
        | inl e ↦ inl (IsCodeword-from_syndrome w p e)
        | inr n ↦ inr (λ c. n (syndrome_of-codeword w c))
      ]
      | inr p ↦ inr (λ c. let f = c.fits in omega arith)
    ]

-- all the words are good, or the least bad one is bad in this way
abbrev AreJudged : List ℕ → Type 0
AreJudged ws = AllMayStand ws ⊎ ((f : DecodeFault) × HasBadWord ws f)

module _ (before : List ℕ) (w : ℕ) (good : AllMayStand before) (n : length before % 17 ≢ 0) (c : IsCodeword w) where
  follows_or : (m p : Bool) → is_message (kind_of w) ≡ m → may_follow before (length before) ≡ p → AreJudged (before ++ w ∷ [])
  follows_or true true e g = inl (good_codeword before w good n c (λ _. g))
  follows_or true false e g = inr (fault.Orphan (index_at (length before)), bad_orphan before w good n c e g)
  follows_or false p e g = inl (good_codeword before w good n c (λ m. absurd (true≢false (sym m ∙ e))))

judged_more : (before : List ℕ) (w : ℕ) → AllMayStand before → AreJudged (before ++ w ∷ [])
judged_more before w good =
    elim (cases_eq (length before % 17) 0) [
      | inl e ↦ elim (cases_eq w sync_word) [
        | inl s ↦ inl (good_sync before w good e s)
        | inr s ↦ inr (fault.NoSync (length before / 17), bad_sync before w good e s)
      ]
      | inr n ↦ elim (codeword_or w) [
        | inl c ↦ follows_or before w good n c _ _ refl refl
        | inr c ↦ inr (fault.BadWord (index_at (length before)), bad_codeword before w good n c)
      ]
    ]

pub judged : (before ws : List ℕ) → AllMayStand before → AreJudged (before ++ ws)
judged before [] good = inl (rw (append-nil before) good)
judged before (w ∷ ws) good =
    elim (judged_more before w good) [
      | inl g ↦ subst AreJudged (append_assoc before (w ∷ []) ws) (judged (before ++ w ∷ []) ws g)
      | inr b ↦
          let stays = bad_stays (before ++ w ∷ []) ws b.0 b.1 in
          inr (b.0, subst (λ (l : List ℕ). HasBadWord l b.0) (append_assoc before (w ∷ []) ws) stays)
    ]

pub none_good : AllMayStand []
none_good = λ j h. absurd (omega arith)

-- bytes with no fault are whole
pub no_fault_whole : (X : List ℕ) → All (λ b. b < 256) X → IsFaultless X → IsWhole X
no_fault_whole X small none = record { small = small; long = long; some = some; good = good; batches = batches } where
  long : 72 ≤ leading X
  long = elim (cases_lt (leading X) 72) [
    | inl p ↦ elim (nil_or (after_preamble X)) [
      | inl e ↦ absurd (none fault.ShortPreamble (inr (HasFaultOfEnd.short p e)))
      | inr n ↦ absurd (none fault.ShortPreamble (inl (HasFaultThere.short p n)))
    ]
    | inr p ↦ p
  ]

  some : 0 < length (after_preamble X)
  some = elim (cases_eq (length (after_preamble X)) 0) [
    | inl e ↦ absurd (none fault.NoBatch (inr (HasFaultOfEnd.no_batch long (nil_from_length (after_preamble X) e))))
    | inr n ↦ omega arith
  ]

  good : AllMayStand (words X)
  good = elim (judged [] (words X) none_good) [
    | inl g ↦ g
    | inr b ↦ absurd (none b.0 (inl (HasFaultThere.bad long b.1)))
  ]

  batches : length (after_preamble X) % 68 ≡ 0
  batches = elim (cases_eq (length (after_preamble X) % 68) 0) [
    | inl e ↦ e
    | inr n ↦ absurd (none fault.Truncated (inr (HasFaultOfEnd.cut long good n)))
  ]

pub whole_no_fault : (X : List ℕ) → IsWhole X → IsFaultless X
whole_no_fault X h = λ f d. elim d [ inl t ↦ not_there f t | inr t ↦ not_end f t ] where
  not_there : (f : DecodeFault) → HasFaultThere X f → ⊥
  not_there f (HasFaultThere.short a b) = let l = h.long in omega arith
  not_there f (HasFaultThere.bad a b) = all_good (words X) f h.good b

  not_end : (f : DecodeFault) → HasFaultOfEnd X f → ⊥
  not_end f (HasFaultOfEnd.short a b) = let l = h.long in omega arith
  not_end f (HasFaultOfEnd.no_batch a b) = let s = h.some in let n = ap length b in omega arith
  not_end f (HasFaultOfEnd.cut a b c) = c h.batches
