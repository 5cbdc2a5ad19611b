-- The page of an address, in a list that has each page of a round and no more pages.
use Rattle.pocsag_pager.proofs.Prelude.{◌≡◌, ◌≢◌, ℕ, zero, suc, ◌+◌, ◌<◌, Bool, true, false, cond, nat_eq, List, [], ◌∷◌, ◌++◌, length, get_or, filter, All, refl, sym, ap, subst, ◌∙◌, inl, inr, arith, eqb-true, ne_eqb, All-head, All-tail, Page, AreApart, Contains, length-append, cases_Bool}
use Rattle.pocsag_pages.proofs.PageLists.{apart_rest}

-- whether the page is for the address
abbrev pub calls : ℕ → Page → Bool
calls a p = nat_eq p.address a

record Split (ps : List Page) (r : Page) : Type 0 where
  before : List Page
  after : List Page
  is : ps ≡ before ++ r ∷ after

split_at : (ps : List Page) (k : ℕ) (r : Page) → k < length ps → get_or ps k r ≡ r → Split ps r
split_at [] k r within e = absurd (omega arith)
split_at (p ∷ ps) zero r within e = record { before = []; after = ps; is = ap (λ x. x ∷ ps) e }
split_at (p ∷ ps) (suc k) r within e =
    let s = split_at ps k r (omega arith) e in
    record { before = p ∷ s.before; after = s.after; is = ap (λ xs. p ∷ xs) s.is }

-- another page is still there when one is taken out
still_there : (xs ys : List Page) (r q : Page) (k : ℕ) → r ≢ q → k < length (xs ++ r ∷ ys) → get_or (xs ++ r ∷ ys) k q ≡ q
    → Contains (xs ++ ys) q
still_there [] ys r q zero other within e = absurd (other e)
still_there [] ys r q (suc k) other within e = (k, omega arith, e)
still_there (x ∷ xs) ys r q zero other within e = (0, omega arith, e)
still_there (x ∷ xs) ys r q (suc k) other within e =
    let c = still_there xs ys r q k other (omega arith) e in
    (suc (c.0), omega arith, c.2)

left_out : (a : ℕ) (xs ys : List Page) (r : Page) → calls a r ≡ false → filter (calls a) (xs ++ r ∷ ys) ≡ filter (calls a) (xs ++ ys)
left_out a [] ys r e = rw e refl
left_out a (x ∷ xs) ys r e = ap (λ zs. cond (calls a x) (x ∷ zs) zs) (left_out a xs ys r e)

only_case : (b : Bool) (x r : Page) (zs ws : List Page) → cond b (x ∷ zs) zs ≡ [] → (zs ≡ [] → ws ≡ r ∷ []) → cond b (x ∷ ws) ws ≡ r ∷ []
only_case true x r zs ws e f = absurd (cc)
only_case false x r zs ws e f = f e

only : (a : ℕ) (xs ys : List Page) (r : Page) → calls a r ≡ true → filter (calls a) (xs ++ ys) ≡ []
    → filter (calls a) (xs ++ r ∷ ys) ≡ r ∷ []
only a [] ys r e none = rw e (ap (λ zs. r ∷ zs) none)
only a (x ∷ xs) ys r e none =
    only_case (calls a x) x r (filter (calls a) (xs ++ ys)) (filter (calls a) (xs ++ r ∷ ys)) none (only a xs ys r e)

nothing : (a : ℕ) (ps : List Page) → All (λ p. p.address ≢ a) ps → filter (calls a) ps ≡ []
nothing a [] far = refl
nothing a (p ∷ ps) far = rw (ne_eqb _ _ (All-head (λ q. q.address ≢ a) p ps far)) (nothing a ps (All-tail (λ q. q.address ≢ a) p ps far))

apart_first : (r : Page) (R : List Page) → AreApart (r ∷ R) → All (λ q. r.address ≢ q.address) R
apart_first r R apart = λ k d within. apart 0 (suc k) d (omega arith) (omega arith)

pub chosen : (a : ℕ) (R ps : List Page) → AreApart R → length ps ≡ length R → All (Contains ps) R → filter (calls a) ps ≡ filter (calls a) R
chosen a [] [] apart long each = refl
chosen a [] (p ∷ ps) apart long each = absurd (omega arith)
chosen a (r ∷ R) ps apart long each =
    let here = All-head (Contains ps) r R each in
    let s = split_at ps (here.0) r (here.1) (here.2) in
    let first = apart_first r R apart in
    let total : length ps ≡ length s.before + length (r ∷ s.after) = ap length s.is ∙ length-append s.before (r ∷ s.after) in
    let shorter : length (s.before ++ s.after) ≡ length R = omega (arith, length-append s.before s.after) in
    let others : All (Contains (s.before ++ s.after)) R = λ k d within.
    let q = get_or R k d in
    let there : Contains (s.before ++ r ∷ s.after) q =
    subst (λ (xs : List Page). Contains xs q) s.is (All-tail (Contains ps) r R each k d within) in
    still_there s.before s.after r q (there.0) (λ e. first k d within (ap (λ (p : Page). p.address) e)) (there.1) (there.2) in
    let rest = chosen a R (s.before ++ s.after) (apart_rest r R apart) shorter others in
    ap (filter (calls a)) s.is
    ∙ (elim (cases_Bool (calls a r)) [
      | inl ours ↦
          let same : r.address ≡ a = eqb-true _ _ ours in
          let none : filter (calls a) R ≡ [] = nothing a R (λ k d within e. first k d within (same ∙ sym e)) in
          only a s.before s.after r ours (rest ∙ none) ∙ (rw (ours, none) refl)
      | inr other ↦ left_out a s.before s.after r other ∙ rest ∙ (rw other refl)
    ])
