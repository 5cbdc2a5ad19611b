-- The entries of a book: pages under their addresses.
use Rattle.pocsag_plan.proofs.Prelude.{◌≡◌, ℕ, Bool, true, false, cond, not, List, [], ◌∷◌, ◌++◌, nat_eq, refl, sym, ap, ◌∙◌, subst, arith, Some, is_some, IsDistinct, keys_of, values_of, lookup, remove_entry, nat_tests, All-from_recursion, IsDistinct-head, IsDistinct-tail, or_parts, Page, addresses_of, has_address, without}
use Rattle.std.proofs.lemmas.Option.{same_Some}
use Rattle.std.proofs.lemmas.List.Folds.{list_any_none}
use Rattle.std.proofs.lemmas.Map.Made.{is_some-lookup}

-- each page stands under its address
abbrev pub AreKeyed : List (ℕ × Page) → Type 0
AreKeyed es = keys_of es ≡ addresses_of (values_of es)

key_head : (d : ℕ × Page) (es : List (ℕ × Page)) → AreKeyed (d ∷ es) → d.0 ≡ d.1.address
key_head d es h = cc

key_tail : (d : ℕ × Page) (es : List (ℕ × Page)) → AreKeyed (d ∷ es) → AreKeyed es
key_tail d es h = cc

keyed_cons : (d : ℕ × Page) (es : List (ℕ × Page)) → d.0 ≡ d.1.address → AreKeyed es → AreKeyed (d ∷ es)
keyed_cons d es h t = λ i. h i ∷ t i

same_from : (a b : ℕ) → nat_eq a b ≡ true → a ≡ b
same_from a b h = grind (arith, nat_tests)

-- a look-up finds what one of the pages has as its address
pub found_is : (a : ℕ) (es : List (ℕ × Page)) → AreKeyed es → is_some (lookup (nat_eq a) es) ≡ has_address (values_of es) a
found_is a es keyed = rw (← keyed) (is_some-lookup (nat_eq a) es)

-- what a removal takes out and leaves
pub record TakesOut (a : ℕ) (es : List (ℕ × Page)) (p : Page) : Type 0 where
  pub before : List Page
  pub after : List Page
  pub was : values_of es ≡ before ++ p ∷ after
  pub left : values_of (remove_entry (nat_eq a) es) ≡ before ++ after
  pub its : p.address ≡ a
  pub keyed : AreKeyed (remove_entry (nat_eq a) es)

rest_here : (a : ℕ) (d : ℕ × Page) (es : List (ℕ × Page)) → nat_eq a d.0 ≡ true → remove_entry (nat_eq a) (d ∷ es) ≡ es
rest_here a d es t = ap (λ (b : Bool). cond b es (d ∷ remove_entry (nat_eq a) es)) t

rest_later : (a : ℕ) (d : ℕ × Page) (es : List (ℕ × Page)) → nat_eq a d.0 ≡ false
    → remove_entry (nat_eq a) (d ∷ es) ≡ d ∷ remove_entry (nat_eq a) es
rest_later a d es f = ap (λ (b : Bool). cond b es (d ∷ remove_entry (nat_eq a) es)) f

found_here : (a : ℕ) (d : ℕ × Page) (es : List (ℕ × Page)) → nat_eq a d.0 ≡ true → lookup (nat_eq a) (d ∷ es) ≡ Some d.1
found_here a d es t = ap (λ (b : Bool). cond b (Some d.1) (lookup (nat_eq a) es)) t

found_later : (a : ℕ) (d : ℕ × Page) (es : List (ℕ × Page)) → nat_eq a d.0 ≡ false → lookup (nat_eq a) (d ∷ es) ≡ lookup (nat_eq a) es
found_later a d es f = ap (λ (b : Bool). cond b (Some d.1) (lookup (nat_eq a) es)) f

pub takes_out : (a : ℕ) (es : List (ℕ × Page)) (p : Page) → AreKeyed es → lookup (nat_eq a) es ≡ Some p → TakesOut a es p
takes_out a [] p keyed e = absurd (cc)
takes_out a (d ∷ es) p keyed e = by (nat_eq a d.0) refl (λ later. takes_out a es p (key_tail d es keyed) later)
  where
    by : (b : Bool) → nat_eq a d.0 ≡ b → (lookup (nat_eq a) es ≡ Some p → TakesOut a es p) → TakesOut a (d ∷ es) p
    by true t rest =
        let same : d.1 ≡ p = same_Some d.1 p (sym (found_here a d es t) ∙ e) in
        record {
          before = [];
          after = values_of es;
          was = ap (λ (q : Page). q ∷ values_of es) same;
          left = ap values_of (rest_here a d es t);
          its = sym (ap (λ (q : Page). q.address) same) ∙ (sym (key_head d es keyed) ∙ sym (same_from a d.0 t));
          keyed = subst AreKeyed (sym (rest_here a d es t)) (key_tail d es keyed);
        }
    by false f rest =
        let out = rest (sym (found_later a d es f) ∙ e) in
        record {
          before = d.1 ∷ out.before;
          after = out.after;
          was = ap (λ (ps : List Page). d.1 ∷ ps) out.was;
          left = ap values_of (rest_later a d es f) ∙ ap (λ (ps : List Page). d.1 ∷ ps) out.left;
          its = out.its;
          keyed = subst AreKeyed (sym (rest_later a d es f)) (keyed_cons d (remove_entry (nat_eq a) es) (key_head d es keyed) out.keyed);
        }

-- the first page is left out, or kept
out_here : (a : ℕ) (p : Page) (ps : List Page) → nat_eq a p.address ≡ true → without (p ∷ ps) a ≡ without ps a
out_here a p ps t = ap (λ (b : Bool). cond (not b) (p ∷ without ps a) (without ps a)) t

kept_here : (a : ℕ) (p : Page) (ps : List Page) → nat_eq a p.address ≡ false → without (p ∷ ps) a ≡ p ∷ without ps a
kept_here a p ps f = ap (λ (b : Bool). cond (not b) (p ∷ without ps a) (without ps a)) f

-- where no page has the address, none is left out
pub nothing_out : (a : ℕ) (ps : List Page) → has_address ps a ≡ false → without ps a ≡ ps
nothing_out a [] e = refl
nothing_out a (p ∷ ps) e =
    let apart = or_parts (nat_eq a p.address) (has_address ps a) e in
    kept_here a p ps apart.0 ∙ ap (λ (rest : List Page). p ∷ rest) (nothing_out a ps apart.1)

-- with distinct addresses the removal of the first page of an address is that of all
pub without_is : (a : ℕ) (es : List (ℕ × Page)) → AreKeyed es → IsDistinct nat_eq (addresses_of (values_of es)) →
    values_of (remove_entry (nat_eq a) es) ≡ without (values_of es) a
without_is a [] keyed apart = refl
without_is a (d ∷ es) keyed apart =
    by (nat_eq a d.0) refl (without_is a es (key_tail d es keyed) (IsDistinct-tail nat_eq d.1.address (addresses_of (values_of es)) apart))
  where
    key : d.0 ≡ d.1.address
    key = key_head d es keyed

    others : a ≡ d.1.address → has_address (values_of es) a ≡ false
    others same =
        subst (λ (n : ℕ). has_address (values_of es) n ≡ false) (sym same)
        (list_any_none (nat_eq d.1.address) (addresses_of (values_of es))
        (All-from_recursion (λ y. nat_eq d.1.address y ≡ false) (addresses_of (values_of es))
        (IsDistinct-head nat_eq d.1.address (addresses_of (values_of es)) apart)))

    by : (b : Bool) → nat_eq a d.0 ≡ b → values_of (remove_entry (nat_eq a) es) ≡ without (values_of es) a →
        values_of (remove_entry (nat_eq a) (d ∷ es)) ≡ without (d.1 ∷ values_of es) a
    by true t rest =
        ap values_of (rest_here a d es t)
        ∙ (sym (nothing_out a (values_of es) (others (same_from a d.0 t ∙ key))) ∙ sym
        (out_here a d.1 (values_of es) (ap (nat_eq a) (sym key) ∙ t)))
    by false f rest =
        ap values_of (rest_later a d es f)
        ∙ (ap (λ (ps : List Page). d.1 ∷ ps) rest ∙ sym (kept_here a d.1 (values_of es) (ap (nat_eq a) (sym key) ∙ f)))
