-- A draft that gains a page, and one that gives some up.
use Rattle.pocsag_journal.proofs.Prelude.{◌≡◌, ℕ, ◌<◌, ◌-◌, Bool, true, false, cond, List, [], ◌∷◌, ◌++◌, arith, drop, length, nat_eq, refl, sym, ap, ◌∙◌, subst, Option, Some, None, option_map, slice_get, keys_of, values_of, lookup, lookup_entry, remove_entry, same_Some, drop-map, length-drop, map-append, take_all, demoted, lru_cache, put_entries, AreGood, addresses_of, page_fault_of, page_limit, Page, good_last, addresses_push, good_push, add_fault, fault_beside, not_found, values_push, AreKeyed, without_is, MayFollow, IsDraft}
use Rattle.std.proofs.Common.{length-append}
use Rattle.std.proofs.lemmas.Map.Entries.{length-values_of}
use Rattle.lru.proofs.Pairs.{lookup-lookup_entry}
use Rattle.pocsag_pages.specs.declared.fault.PageFault.{PageFault}
use Rattle.pocsag_plan.specs.declared.refusal.AddFault.TheVariants as fault
use Rattle.pocsag_journal.proofs.EditedPages.{left_stand, none_stand}
use Rattle.pocsag_journal.proofs.Refusals.{same_nat}

-- no entry has a key that no look-up finds
no_entry : (o : Option (ℕ × Page)) → option_map (λ (e : ℕ × Page). e.1) o ≡ None → o ≡ None
no_entry None e = refl
no_entry (Some d) e = absurd (cc e)

-- an entry that is put where there is room stands first
put_first : (es : List (ℕ × Page)) (room a : ℕ) (p : Page) → lookup (nat_eq a) es ≡ None → length es < room →
    put_entries nat_eq (lru_cache es room) a p ≡ (a, p) ∷ es
put_first es room a p absent fits =
    rw (no_entry (lookup_entry (nat_eq a) es) (lookup-lookup_entry (nat_eq a) es ∙ absent), take_all (room - 1) es (omega arith)) refl

-- and then behind the others
put_last : (es : List (ℕ × Page)) (a : ℕ) (p : Page) → demoted (nat_eq a) ((a, p) ∷ es) ≡ es ++ (a, p) ∷ []
put_last es a p = rw (same_nat a) refl

pub put_behind : (es : List (ℕ × Page)) (room a : ℕ) (p : Page) → lookup (nat_eq a) es ≡ None → length es < room →
    demoted (nat_eq a) (put_entries nat_eq (lru_cache es room) a p) ≡ es ++ (a, p) ∷ []
put_behind es room a p absent fits = ap (demoted (nat_eq a)) (put_first es room a p absent fits) ∙ put_last es a p

pub length_as : (es : List (ℕ × Page)) (ps : List Page) → values_of es ≡ ps → length es ≡ length ps
length_as es ps view = sym (length-values_of es) ∙ ap length view

-- a draft with one page more
pub grown_entries : (es : List (ℕ × Page)) (room : ℕ) (p : Page) → IsDraft es room → MayFollow (values_of es) p →
    demoted (nat_eq p.address) (put_entries nat_eq (lru_cache es room) p.address p) ≡ es ++ (p.address, p) ∷ []
grown_entries es room p draft may =
    put_behind es room p.address p (not_found p.address es draft.keyed may.another)
    (omega (arith, may.room, length-values_of es, draft.roomy))

pub grown_draft : (es new : List (ℕ × Page)) (room : ℕ) (p : Page) → IsDraft es room → MayFollow (values_of es) p →
    new ≡ es ++ (p.address, p) ∷ [] → IsDraft new room
grown_draft es new room p draft may grown =
    let values : values_of new ≡ values_of es ++ p ∷ [] = ap values_of grown ∙ values_push es p.address p in
    record {
      keyed =
          ap keys_of grown
          ∙ (map-append (λ (e : ℕ × Page). e.0) es ((p.address, p) ∷ [])
          ∙ (ap (λ (ks : List ℕ). ks ++ p.address ∷ []) draft.keyed ∙
          (sym (addresses_push (values_of es) p) ∙ ap addresses_of (sym values))));
      few = rw values (omega (arith, may.room, length-append (values_of es) (p ∷ [])));
      good = subst AreGood (sym values) (good_push (values_of es) p draft.good may.good may.another);
      roomy = draft.roomy;
    }

-- a draft without the page of an address
kept_keyed : (test : ℕ → Bool) (es : List (ℕ × Page)) → AreKeyed es → AreKeyed (remove_entry test es)
kept_keyed test [] keyed = keyed
kept_keyed test (e ∷ es) keyed =
    let head : e.0 ≡ e.1.address = cc keyed in
    let rest : AreKeyed es = cc keyed in
    elim (test e.0) as (λ b. AreKeyed (cond b es (e ∷ remove_entry test es))) [
      | true ↦ rest
      | false ↦ λ i. head i ∷ kept_keyed test es rest i
    ]

pub shrunk_draft : (es : List (ℕ × Page)) (room a : ℕ) → IsDraft es room → IsDraft (remove_entry (nat_eq a) es) room
shrunk_draft es room a draft =
    let left = left_stand (values_of es) a (record { few = draft.few; good = draft.good }) in
    let is = without_is a es draft.keyed draft.good.apart in
    record { keyed = kept_keyed (nat_eq a) es draft.keyed; few = rw is left.few; good = rw is left.good; roomy = draft.roomy }

-- and one without its first pages
pub dropped_draft : (es : List (ℕ × Page)) (room n : ℕ) → IsDraft es room → IsDraft (drop n es) room
dropped_draft es room n draft =
    let values : values_of (drop n es) ≡ drop n (values_of es) = sym (drop-map (λ (e : ℕ × Page). e.1) n es) in
    record {
      keyed =
          sym (drop-map (λ (e : ℕ × Page). e.0) n es)
          ∙ (ap (drop n) draft.keyed
          ∙ (drop-map (λ (p : Page). p.address) n (values_of es) ∙ ap addresses_of (sym values)));
      few = rw values (omega (arith, length-drop n (values_of es), draft.few));
      good = subst AreGood (sym values) (good_last n (values_of es) draft.good);
      roomy = draft.roomy;
    }

-- and one of no pages
pub no_draft : (room : ℕ) → page_limit < room → IsDraft [] room
no_draft room roomy = record { keyed = refl; few = none_stand.few; good = none_stand.good; roomy = roomy }

-- the page of the first entry is the first page
pub first_page : (es : List (ℕ × Page)) (ps : List Page) (o : Option (ℕ × Page)) → values_of es ≡ ps → o ≡ slice_get es 0 →
    option_map (λ (e : ℕ × Page). e.1) o ≡ slice_get ps 0
first_page [] ps o view e = rw (e, ← view) refl
first_page (d ∷ es) ps o view e = rw (e, ← view) refl

pub some_first : (ps : List Page) (p : Page) → Some p ≡ slice_get ps 0 → ps ≡ p ∷ drop 1 ps
some_first [] p e = absurd (cc e)
some_first (q ∷ ps) p e = ap (λ (r : Page). r ∷ ps) (sym (same_Some p q e))

-- a page that may stand in no round is refused first
pub broken_fault : (ps : List Page) (p : Page) (broken : PageFault) → page_fault_of p ≡ Some broken → Some (fault.Page broken) ≡ add_fault ps p
unfolding add_fault
broken_fault ps p broken e = sym (ap (fault_beside ps p) e)
