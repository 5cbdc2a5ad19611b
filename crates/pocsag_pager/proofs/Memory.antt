-- Where memory is wanting, a page is shown.
use Rattle.pocsag_pager.proofs.Prelude.{◌≡◌, ◌⊎◌, ◌≤◌, ◌*◌, inl, inr, ℕ, ◌+◌, Bool, true, false, cond, List, [], ◌∷◌, ◌++◌, length, map, take, drop, refl, sym, ap, subst, ◌∙◌, append_assoc, Option, Some, None, option_to_list, AllZip, map-append, from_be_bytes, w32, Kind, Page, unsynced, words_of, IsMended, AreShown, HaveEnded, is_ours, page_called, said, shown_from, ended_from, open_from, pager_address, IsSome, take-append-drop, Idle, Address, Message, unsynced_more, HoldsOnceMended, ShowsSome, Continues, IsOver, HasFollowed}
use Rattle.pocsag_pager.specs.declared.fault.PagerFault.{PagerFault}
use Rattle.pocsag_pager.specs.declared.fault.PagerFault.TheVariants as fault
use Rattle.pocsag_pager.specs.declared.pager.Pager.{Pager}
use Rattle.pocsag_pager.proofs.Mended.{all_mended_same}
use Rattle.pocsag_pager.proofs.Places.{shown_is}
use Rattle.pocsag_pager.proofs.ShownPages.{one_list}
use Rattle.pocsag_pager.proofs.WholeWords.{words_split}

-- ---- of more words no fewer pages are shown

none_cond : {X : Type 0} (b : Bool) (x y : X) (xs ys : List X) → (xs ≡ [] → ys ≡ []) → cond b (x ∷ xs) xs ≡ [] → cond b (y ∷ ys) ys ≡ []
none_cond true x y xs ys f e = absurd (cc)
none_cond false x y xs ys f e = f e

none_before : (a i : ℕ) (ms more : List (Option Kind)) → shown_from a i (ms ++ more) ≡ [] → shown_from a i ms ≡ []
none_before a i [] more e = refl
none_before a i (None ∷ ms) more e = none_before a (i + 1) ms more e
none_before a i (Some Idle ∷ ms) more e = none_before a (i + 1) ms more e
none_before a i (Some (Address high function) ∷ ms) more e =
    none_cond (is_ours a i high) (page_called a function (ms ++ more)) (page_called a function ms) (shown_from a (i + 1) (ms ++ more))
    (shown_from a (i + 1) ms) (none_before a (i + 1) ms more) e
none_before a i (Some (Message bits) ∷ ms) more e = none_before a (i + 1) ms more e

front_zip : {A B : Type 0} (R : A → B → Type 0) (xs ys : List A) (zs : List B) → AllZip R (xs ++ ys) zs →
    (front : List B) × ((back : List B) × ((zs ≡ front ++ back) × AllZip R xs front))
front_zip R [] ys zs all = ([], (zs, (refl, tt)))
front_zip R (x ∷ xs) ys [] all = absurd all
front_zip R (x ∷ xs) ys (z ∷ zs) all =
    let p = front_zip R xs ys zs all.1 in (z ∷ p.0, (p.1.0, (ap (λ v. z ∷ v) p.1.1.0, (all.0, p.1.1.1))))

pub shows_more : (words more : List ℕ) (a : ℕ) → ShowsSome words a → ShowsSome (words ++ more) a
shows_more words more a some ps shown none =
    let p = front_zip IsMended (unsynced 0 words) (unsynced (0 + length words) more) shown.mended
    (subst (λ (ws : List ℕ). AllZip IsMended ws shown.mended) (unsynced_more 0 words more) shown.each) in
    let front = p.0 in
    let back = p.1.0 in
    let all : shown_from a 0 (map said front ++ map said back) ≡ [] =
    ap (shown_from a 0) (sym (ap (map said) p.1.1.0 ∙ map-append said front back)) ∙ (sym shown.holds ∙ none) in
    some [] (record { mended = front; each = p.1.1.1; holds = sym (none_before a 0 (map said front) (map said back) all) }) refl

-- of all chunks no fewer than of the first
pub shows_all : (words : List ℕ) (i : ℕ) (chunks : List (List ℕ)) (a : ℕ) → ShowsSome (words ++ map (from_be_bytes w32) (take i chunks)) a →
    ShowsSome (words ++ map (from_be_bytes w32) chunks) a
shows_all words i chunks a some =
    let word : List ℕ → ℕ = from_be_bytes w32 in
    subst (λ (ws : List ℕ). ShowsSome ws a)
    (append_assoc words (map word (take i chunks)) (map word (drop i chunks))
    ∙ ap (λ ws. words ++ ws) (sym (map-append word (take i chunks) (drop i chunks)) ∙ ap (map word) (take-append-drop i chunks)))
    (shows_more (words ++ map word (take i chunks)) (map word (drop i chunks)) a some)

-- ---- which pages are shown

some_there : (ps : List Page) (o : Option Page) → IsSome o → ps ++ option_to_list o ≡ [] → ⊥
some_there ps None some e = absurd (cc)
some_there [] (Some p) some e = cc
some_there (q ∷ ps) (Some p) some e = cc

none_of_both : (ps qs : List Page) → ps ++ qs ≡ [] → ps ≡ []
none_of_both [] qs e = refl
none_of_both (p ∷ ps) qs e = absurd (cc)

-- nothing is ended and nothing is open where nothing is shown
nothing_there : (words : List ℕ) (a : ℕ) (P : List (Option Kind) → Type 0) (h : HoldsOnceMended words P) → AreShown words a [] →
    ended_from a 0 (map said h.mended) ++ option_to_list (open_from a 0 (map said h.mended)) ≡ []
nothing_there words a P h shown =
    let same : shown.mended ≡ h.mended = all_mended_same (unsynced 0 words) shown.mended h.mended shown.each h.each in
    sym (shown_is a 0 (map said h.mended)) ∙ (ap (λ ms. shown_from a 0 (map said ms)) (sym same) ∙ sym shown.holds)

pub shows_open : (words : List ℕ) (a : ℕ) → HoldsOnceMended words (λ ms. IsSome (open_from a 0 ms)) → ShowsSome words a
shows_open words a h ps shown none =
    some_there (ended_from a 0 (map said h.mended)) (open_from a 0 (map said h.mended)) h.holds
    (nothing_there words a (λ ms. IsSome (open_from a 0 ms)) h (subst (AreShown words a) none shown))

pub shows_ended : (words : List ℕ) (a : ℕ) (qs : List Page) (o : Option Page) → IsSome o → HaveEnded words a (qs ++ option_to_list o) →
    ShowsSome words a
shows_ended words a qs o some h ps shown none =
    let ended = ended_from a 0 (map said h.mended) in
    let all = nothing_there words a (λ ms. qs ++ option_to_list o ≡ ended_from a 0 ms) h (subst (AreShown words a) none shown) in
    some_there qs o some (h.holds ∙ none_of_both ended (option_to_list (open_from a 0 (map said h.mended))) all)

pub shows_last : (words : List ℕ) (a : ℕ) (qs : List Page) (o : Option Page) → IsSome o → AreShown words a (qs ++ option_to_list o) →
    ShowsSome words a
shows_last words a qs o some h ps shown none =
    some_there qs o some (one_list words a (qs ++ option_to_list o) ps h shown ∙ none)

not_over : (p : Pager) (words : List ℕ) → HasFollowed p words → IsOver p → ⊥
not_over p words s over = let listens = s.open_page.holds in cc

-- where hearing a word is refused, it continues a page that is open
pub wanted : (p : Pager) (words : List ℕ) (w : ℕ) (e : PagerFault) → HasFollowed p words → (e ≡ fault.OutOfMemory) ⊎ IsOver p →
    (e ≡ fault.OutOfMemory → Continues words (pager_address p) w) → ShowsSome words (pager_address p)
wanted p words w e s (inl memory) f = shows_open words (pager_address p) (f memory).open_page
wanted p words w e s (inr over) f = absurd (not_over p words s over)

-- of all bytes no fewer than of the first
pub shows_whole : (k n : ℕ) (bytes : List ℕ) (a : ℕ) → n ≡ 4 * k → n ≤ length bytes → ShowsSome (words_of (take n bytes)) a →
    ShowsSome (words_of bytes) a
shows_whole k n bytes a e within some =
    subst (λ (ws : List ℕ). ShowsSome ws a) (sym (words_split k n bytes e within))
    (shows_more (words_of (take n bytes)) (words_of (drop n bytes)) a some)
