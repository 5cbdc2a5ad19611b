-- A book that gains a page, and one that gives some up.
use Rattle.pocsag_plan.proofs.Prelude.{◌≡◌, ℕ, ◌≤◌, Bool, false, List, [], ◌∷◌, ◌++◌, All, Contains, drop, length, nat_eq, refl, sym, ap, ◌∙◌, subst, arith, length-append, Option, Some, None, is_some, IsDistinct, keys_of, values_of, lookup, remove_entry, nat_tests, append-nil, drop-map, length-drop, map-append, All-weaker, Contains-append_right, Contains-get_or, IsPermutation-middle, IsDistinct-IsPermutation, IsDistinct-tail, End, Open, Closed, Page, page_limit, addresses_of, has_address, page_fault_of, AreGood, IsGoodPage, good_last, good_page, good_pages, Classes, AreClassesOf, without, CanGain, CanLose}
use Rattle.pocsag_pages.specs.Listable.{IsListable}
use Rattle.pocsag_pages.proofs.GrownRounds.{addresses_push, good_push}
use Rattle.pocsag_plan.specs.Books.{IsBook}
use Rattle.pocsag_plan.proofs.Entries.{AreKeyed, TakesOut, found_is, without_is}
use Rattle.pocsag_plan.proofs.Refusals.{MayFollow}
use Rattle.pocsag_plan.proofs.Tallies.{All-amid}

-- what a search in the map says of the pages
pub there_is : (a : ℕ) (es : List (ℕ × Page)) (ps : List Page) (found : Bool) → AreKeyed es → values_of es ≡ ps
    → found ≡ is_some (lookup (nat_eq a) es) →
    has_address ps a ≡ found
there_is a es ps found keyed view e = ap (λ (qs : List Page). has_address qs a) (sym view) ∙ (sym (found_is a es keyed) ∙ sym e)

none_from : (o : Option Page) → is_some o ≡ false → o ≡ None
none_from (Some p) e = absurd (cc)
none_from None e = refl

pub not_found : (a : ℕ) (es : List (ℕ × Page)) → AreKeyed es → has_address (values_of es) a ≡ false → lookup (nat_eq a) es ≡ None
not_found a es keyed e = none_from (lookup (nat_eq a) es) (found_is a es keyed ∙ e)

-- the entries with one more
pub values_push : (es : List (ℕ × Page)) (a : ℕ) (p : Page) → values_of (es ++ (a, p) ∷ []) ≡ values_of es ++ p ∷ []
values_push es a p = map-append (λ (e : ℕ × Page). e.1) es ((a, p) ∷ [])

keys_push : (es : List (ℕ × Page)) (a : ℕ) (p : Page) → keys_of (es ++ (a, p) ∷ []) ≡ keys_of es ++ a ∷ []
keys_push es a p = map-append (λ (e : ℕ × Page). e.0) es ((a, p) ∷ [])

-- a table of the pages can gain a page that may follow them
pub can_gain : (k : Classes) (end : End) (ps : List Page) (p : Page) → AreClassesOf k end ps → AreGood ps → MayFollow ps p → CanGain k end p
can_gain k end ps p of good may =
    record { pages = ps; counted = of; room = may.room; good = good_pages ps good; good_page = good_page p may.good }

-- and lose one that is taken out
pub can_lose : (k : Classes) (end : End) (a : ℕ) (es : List (ℕ × Page)) (p : Page) → AreClassesOf k end (values_of es)
    → length (values_of es) ≤ page_limit →
    AreGood (values_of es) → TakesOut a es p → CanLose k end p
can_lose k end a es p of few good out =
    record {
      before = out.before;
      after = out.after;
      counted = subst (λ (ps : List Page). AreClassesOf k end ps) out.was of;
      few = subst (λ (ps : List Page). length ps ≤ page_limit) out.was few;
      good = subst (λ (ps : List Page). All IsGoodPage ps) out.was (good_pages (values_of es) good);
    }

-- a table gains the page wherever it is put, and loses it wherever it stood
abbrev pub Gains : Classes → Classes → End → Page → Type 0
Gains k n end p = (before after : List Page) → AreClassesOf k end (before ++ after) → AreClassesOf n end (before ++ p ∷ after)

abbrev pub Loses : Classes → Classes → End → Page → Type 0
Loses k n end p = (before after : List Page) → AreClassesOf k end (before ++ p ∷ after) → AreClassesOf n end (before ++ after)

last_gained : (k n : Classes) (end : End) (p : Page) (ps : List Page) → AreClassesOf k end ps → Gains k n end p
    → AreClassesOf n end (ps ++ p ∷ [])
last_gained k n end p ps of gains = gains ps [] (subst (λ (qs : List Page). AreClassesOf k end qs) (sym (append-nil ps)) of)

pub grown_book : (es new : List (ℕ × Page)) (o c o' c' : Classes) (p : Page) → IsBook es o c → MayFollow (values_of es) p
    → new ≡ es ++ (p.address, p) ∷ [] →
    Gains o o' Open p → Gains c c' Closed p → IsBook new o' c'
grown_book es new o c o' c' p book may grown gains gains_closed =
    let values : values_of new ≡ values_of es ++ p ∷ [] = ap values_of grown ∙ values_push es p.address p in
    record {
      keyed =
          ap keys_of grown
          ∙ (keys_push es p.address p
          ∙ (ap (λ (ks : List ℕ). ks ++ p.address ∷ []) book.keyed ∙
          (sym (addresses_push (values_of es) p) ∙ ap addresses_of (sym values))));
      few = rw values (omega (arith, may.room, length-append (values_of es) (p ∷ [])));
      good = subst AreGood (sym values) (good_push (values_of es) p book.good may.good may.another);
      counted = subst (λ (ps : List Page). AreClassesOf o' Open ps) (sym values)
          (last_gained o o' Open p (values_of es) book.counted gains);
      counted_closed = subst (λ (ps : List Page). AreClassesOf c' Closed ps) (sym values)
          (last_gained c c' Closed p (values_of es) book.counted_closed gains_closed);
    }

flips : (a b : ℕ) → nat_eq a b ≡ nat_eq b a
flips a b = grind (arith, nat_tests)

addresses_amid : (S R : List Page) (p : Page) → addresses_of (S ++ p ∷ R) ≡ addresses_of S ++ p.address ∷ addresses_of R
addresses_amid S R p = map-append (λ (q : Page). q.address) S (p ∷ R)

addresses_append : (S R : List Page) → addresses_of (S ++ R) ≡ addresses_of S ++ addresses_of R
addresses_append S R = map-append (λ (q : Page). q.address) S R

-- good pages without one of them
good_less : (S R : List Page) (p : Page) → AreGood (S ++ p ∷ R) → AreGood (S ++ R)
good_less S R p good =
    let apart : IsDistinct nat_eq (addresses_of S ++ p.address ∷ addresses_of R) =
    subst (IsDistinct nat_eq) (addresses_amid S R p) good.apart in
    let front = IsDistinct-IsPermutation nat_eq flips _ _ (IsPermutation-middle (addresses_of S) p.address (addresses_of R)) apart in
    record {
      each = All-amid (λ q. page_fault_of q ≡ None) S R p good.each;
      apart = subst (IsDistinct nat_eq) (sym (addresses_append S R))
          (IsDistinct-tail nat_eq p.address (addresses_of S ++ addresses_of R) front);
    }

pub shrunk_book : (es new : List (ℕ × Page)) (o c o' c' : Classes) (a : ℕ) (p : Page) → IsBook es o c → TakesOut a es p
    → new ≡ remove_entry (nat_eq a) es →
    Loses o o' Open p → Loses c c' Closed p → IsBook new o' c'
shrunk_book es new o c o' c' a p book out shrunk loses loses_closed =
    let values : values_of new ≡ out.before ++ out.after = ap values_of shrunk ∙ out.left in
    let few : length (out.before ++ p ∷ out.after) ≤ page_limit = subst (λ (ps : List Page). length ps ≤ page_limit) out.was book.few in
    record {
      keyed = subst AreKeyed (sym shrunk) out.keyed;
      few = rw values (omega (arith, few, length-append out.before (p ∷ out.after), length-append out.before out.after));
      good = subst AreGood (sym values) (good_less out.before out.after p (subst AreGood out.was book.good));
      counted = subst (λ (ps : List Page). AreClassesOf o' Open ps) (sym values)
          (loses out.before out.after (subst (λ (ps : List Page). AreClassesOf o Open ps) out.was book.counted));
      counted_closed = subst (λ (ps : List Page). AreClassesOf c' Closed ps) (sym values)
          (loses_closed out.before out.after (subst (λ (ps : List Page). AreClassesOf c Closed ps) out.was book.counted_closed));
    }

-- the pages that a removal leaves
pub rest_is : (es new : List (ℕ × Page)) (ps : List Page) (a : ℕ) → AreKeyed es → AreGood (values_of es) → values_of es ≡ ps
    → new ≡ remove_entry (nat_eq a) es →
    values_of new ≡ without ps a
rest_is es new ps a keyed good view shrunk =
    ap values_of shrunk ∙ (without_is a es keyed good.apart ∙ ap (λ (qs : List Page). without qs a) view)

-- the page that is taken out was there
pub was_there : (S R : List Page) (p : Page) → Contains (S ++ p ∷ R) p
was_there S R p = Contains-append_right S (p ∷ R) p (Contains-get_or (p ∷ R) 0 p (omega arith))

-- the pages of a book may be listed
pub listable_pages : (es : List (ℕ × Page)) (ps : List Page) → values_of es ≡ ps → AreGood (values_of es) → All IsListable ps
listable_pages es ps view good =
    subst (λ (qs : List Page). All IsListable qs) view
    (All-weaker IsGoodPage IsListable (λ p g. record { function = g.function; items = g.small }) (values_of es)
    (good_pages (values_of es) good))

-- the pages without the first of them
pub dropped_values : (es new : List (ℕ × Page)) (n : ℕ) (ps : List Page) → values_of es ≡ ps → new ≡ drop n es → values_of new ≡ drop n ps
dropped_values es new n ps view dropped =
    ap values_of dropped ∙ (sym (drop-map (λ (e : ℕ × Page). e.1) n es) ∙ ap (drop n) view)

-- and a book without them
pub dropped_book : (es new : List (ℕ × Page)) (o c o' c' : Classes) (n : ℕ) (ps : List Page) → IsBook es o c → values_of es ≡ ps →
    new ≡ drop n es → AreClassesOf o' Open (drop n ps) → AreClassesOf c' Closed (drop n ps) → IsBook new o' c'
dropped_book es new o c o' c' n ps book view dropped counted counted_closed =
    let values : values_of new ≡ drop n ps = dropped_values es new n ps view dropped in
    record {
      keyed =
          ap keys_of dropped
          ∙ (sym (drop-map (λ (e : ℕ × Page). e.0) n es)
          ∙ (ap (drop n) book.keyed
          ∙ (drop-map (λ (p : Page). p.address) n (values_of es) ∙ ap addresses_of (ap (drop n) view ∙ sym values))));
      few = rw values (omega (arith, length-drop n ps, book.few, ap length view));
      good = subst AreGood (ap (drop n) view ∙ sym values) (good_last n (values_of es) book.good);
      counted = subst (λ (qs : List Page). AreClassesOf o' Open qs) (sym values) counted;
      counted_closed = subst (λ (qs : List Page). AreClassesOf c' Closed qs) (sym values) counted_closed;
    }
