-- The pages of a queue that are set aside, and the others.
use Rattle.pocsag_centre.proofs.Prelude.{◌≡◌, ℕ, ◌<◌, ◌≤◌, Bool, true, false, not, ◌&&◌, inl, inr, List, [], ◌∷◌, All, length, nat_eq, filter, refl, sym, ap, subst, ◌∙◌, arith, None, AllByRecursion, list_any, cases_Bool, All-filter, Page, AreGood, addresses_of, page_fault_of, page_limit, IsQueue, IsSpellable, page_file, IsPageFileOf, FrontAsked, aside_of, fits_alone, is_aside, is_parted, planned_of}
use Rattle.std.specs.List.{IsDistinct}
use Rattle.std.proofs.lemmas.List.Sums.{count_by-le-length, length-filter}
use Rattle.pocsag_centre.proofs.QueueRounds.{AreReadBack, held_back}

-- pages that a test takes out of others
module _ (f : Page → Bool) where
  none_taken : ((p : Page) → f p ≡ false) → (ps : List Page) → filter f ps ≡ []
  none_taken h [] = refl
  none_taken h (p ∷ ps) = rw (h p) (none_taken h ps)

  all_kept : ((p : Page) → f p ≡ false) → (ps : List Page) → filter (λ p. not (f p)) ps ≡ ps
  all_kept h [] = refl
  all_kept h (p ∷ ps) = rw (h p) (ap (λ (v : List Page). p ∷ v) (all_kept h ps))

  taken_apart : (P : ℕ → Type 0) (ps : List Page) → AllByRecursion P (addresses_of ps) → AllByRecursion P (addresses_of (filter f ps))
  taken_apart P [] all = tt
  taken_apart P (p ∷ ps) all =
      let later = taken_apart P ps all.1 in
      elim (cases_Bool (f p)) [
        | inl e ↦ rw e (all.0, later)
        | inr n ↦ rw n later
      ]

  pub taken_distinct : (ps : List Page) → IsDistinct nat_eq (addresses_of ps) → IsDistinct nat_eq (addresses_of (filter f ps)) × (length (filter f ps) ≤ length ps)
  unfolding IsDistinct
  taken_distinct [] apart = (tt, omega arith)
  taken_distinct (p ∷ ps) apart =
      let later = taken_distinct ps apart.1 in
      elim (cases_Bool (f p)) [
        | inl e ↦ rw e ((taken_apart (λ y. nat_eq p.address y ≡ false) ps apart.0, later.0), omega (arith, later.1))
        | inr n ↦ rw n (later.0, omega (arith, later.1))
      ]

-- nothing is set aside of pages of which none is to be
module _ (asked : FrontAsked) (Q : List Page) (off : is_parted asked Q ≡ false) where
  none_is : (p : Page) → is_aside asked Q p ≡ false
  none_is p = rw off refl

  pub nothing_aside : aside_of asked Q ≡ []
  nothing_aside = none_taken (is_aside asked Q) none_is Q

  pub all_planned : planned_of asked Q ≡ Q
  all_planned = all_kept (is_aside asked Q) none_is Q

flips : (s f : Bool) → s ≡ true → (s && not f) ≡ not f
flips true f h = refl
flips false f h = absurd (cc)

twice : (f : Bool) → not (not f) ≡ f
twice true = refl
twice false = refl

some_kept : (f g : Page → Bool) → ((p : Page) → g p ≡ f p) → (ps : List Page) → list_any f ps ≡ true → 0 < length (filter g ps)
some_kept f g same [] any = absurd (cc)
some_kept f g same (p ∷ ps) any =
    elim (cases_Bool (f p)) [
      | inl e ↦ rw (same p, e) (omega arith)
      | inr n ↦ rw (same p, n) (some_kept f g same ps (rw n at any))
    ]

-- where pages are set aside, those that do not fit are
module _ (asked : FrontAsked) (Q : List Page) (on : is_parted asked Q ≡ true) where
  abbrev fits : Page → Bool
  fits = fits_alone asked.search.end asked.batches

  pub aside_is : (p : Page) → is_aside asked Q p ≡ not (fits_alone asked.search.end asked.batches p)
  aside_is p = flips _ (fits_alone asked.search.end asked.batches p) on

  pub planned_is : (p : Page) → not (is_aside asked Q p) ≡ fits_alone asked.search.end asked.batches p
  planned_is p = ap not (aside_is p) ∙ twice (fits_alone asked.search.end asked.batches p)

  some_fits : (b : Bool) → (b && list_any fits Q) ≡ true → list_any fits Q ≡ true
  some_fits true h = h
  some_fits false h = absurd (cc)

  some_planned : 0 < length (planned_of asked Q)
  some_planned = some_kept fits (λ p. not (is_aside asked Q p)) planned_is Q (some_fits asked.sets_aside on)

-- what is planned of a queue is one, and of a round is one
module _ (asked : FrontAsked) (Q : List Page) where
  pub planned_queue : IsQueue Q → IsQueue (planned_of asked Q)
  planned_queue queue =
      let f : Page → Bool = λ p. not (is_aside asked Q p) in
      elim (cases_Bool (is_parted asked Q)) [
        | inl on ↦
            record {
              some = some_planned asked Q on;
              few = omega (arith, length-filter f Q, count_by-le-length f Q, queue.few);
              each = All-filter f (λ p. page_fault_of p ≡ None) Q queue.each;
            }
        | inr off ↦ subst IsQueue (sym (all_planned asked Q off)) queue
      ]

  pub planned_good : AreGood Q → AreGood (planned_of asked Q)
  planned_good good =
      let f : Page → Bool = λ p. not (is_aside asked Q p) in
      record { each = All-filter f (λ p. page_fault_of p ≡ None) Q good.each; apart = (taken_distinct f Q good.apart).0 }

-- what is written of a part of a queue holds it
pub part_back : AreReadBack → (f : Page → Bool) (may_wait : Bool) (Q : List Page) → IsQueue Q → (may_wait ≡ false → AreGood Q) → All IsSpellable Q
    → (S : List Page) → S ≡ filter f Q → IsPageFileOf may_wait S (page_file S)
part_back back f may_wait Q queue apart texts S is =
    let few : length (filter f Q) ≤ page_limit = omega (arith, length-filter f Q, count_by-le-length f Q, queue.few) in
    subst (λ (ps : List Page). IsPageFileOf may_wait ps (page_file ps)) (sym is)
    (held_back back may_wait (filter f Q) (All-filter f (λ p. page_fault_of p ≡ None) Q queue.each)
    (λ off. (taken_distinct f Q (apart off).apart).0) few (All-filter f IsSpellable Q texts))
