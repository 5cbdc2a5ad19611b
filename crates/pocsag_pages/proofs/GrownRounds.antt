-- A round that grows by one page.
use Rattle.pocsag_pages.proofs.Prelude.{◌≡◌, ℕ, Bool, true, false, not, cond, ◌||◌, List, [], ◌∷◌, ◌++◌, nat_eq, refl, sym, ap, ◌∙◌, arith, BTreeSet, contains, Updates, nat_cmp, map-append, All-nil, All-push, list_any-append, nat_tests, IsDistinct-push, Page, AreGood, addresses_of, has_address, page_fault_of, IsRoundBuilder, None, not-false, not-true, or_false}
use Rattle.std.specs.BTreeMap.{is_at}
use Rattle.std.proofs.lemmas.Cmp.{nat_eq_equiv}
use Rattle.std.proofs.lemmas.Map.Made.{IsDistinct-from_count}

pub either : (b c : Bool) → cond b true c ≡ (c || b)
either true true = refl
either true false = refl
either false true = refl
either false false = refl

pub good_none : AreGood []
good_none = record { each = All-nil _; apart = IsDistinct-from_count nat_eq_equiv [] refl }

pub addresses_push : (ps : List Page) (p : Page) → addresses_of (ps ++ p ∷ []) ≡ addresses_of ps ++ p.address ∷ []
addresses_push ps p = map-append (λ (q : Page). q.address) ps (p ∷ [])

pub has_push : (ps : List Page) (p : Page) (a : ℕ) → has_address (ps ++ p ∷ []) a ≡ (has_address ps a || nat_eq a p.address)
has_push ps p a =
    rw addresses_push (list_any-append (nat_eq a) (addresses_of ps) (p.address ∷ [])
    ∙ ap (λ b. has_address ps a || b) (or_false (nat_eq a p.address)))

pub good_push : (ps : List Page) (p : Page) → AreGood ps → page_fault_of p ≡ None → has_address ps p.address ≡ false →
    AreGood (ps ++ p ∷ [])
good_push ps p good fine another = record {
  each = All-push (λ q. page_fault_of q ≡ None) ps p good.each fine;
  apart = rw addresses_push (IsDistinct-push nat_eq_equiv (addresses_of ps) p.address good.apart another);
}

pub same_test : (a b : ℕ) → is_at (nat_cmp a) b ≡ nat_eq b a
same_test a b = grind (arith, nat_tests)

-- what the answer of `insert` says of the pages so far
module _ (ps : List Page) (seen : BTreeSet ℕ) (a : ℕ) (added : Bool) (d : IsRoundBuilder ps seen) (e : added ≡ not (contains nat_cmp seen a)) where
  pub was_new : added ≡ true → has_address ps a ≡ false
  was_new h = sym (d.addresses a) ∙ not-true (contains nat_cmp seen a) (sym e ∙ h)

  pub was_there : added ≡ false → has_address ps a ≡ true
  was_there h = sym (d.addresses a) ∙ not-false (contains nat_cmp seen a) (sym e ∙ h)

pub builder_none : (seen : BTreeSet ℕ) → seen.keys ≡ [] → IsRoundBuilder [] seen
builder_none seen e = record { good = good_none; addresses = λ a. rw e refl }

pub builder_push : (ps : List Page) (seen more : BTreeSet ℕ) (p : Page) → IsRoundBuilder ps seen → page_fault_of p ≡ None →
    has_address ps p.address ≡ false → Updates nat_cmp seen more p.address true → IsRoundBuilder (ps ++ p ∷ []) more
builder_push ps seen more p d fine another u = record {
  good = good_push ps p d.good fine another;
  addresses = λ a. u.0 a ∙ (rw (same_test p.address a, d.addresses a, has_push ps p a) (either (nat_eq a p.address) (has_address ps a)));
}
