-- Words that are judged one after the other.
use Rattle.pocsag_decode.proofs.Prelude.{◌≡◌, ◌≢◌, ℕ, zero, suc, ◌+◌, ◌-◌, ◌*◌, ◌/◌, ◌%◌, ◌<◌, ◌≤◌, Bool, false, not, List, [], ◌∷◌, ◌++◌, length, map, take, drop, get_or, replicate, is_some, IsTrue, refl, sym, ap, ◌∙◌, subst, arith, append_assoc, Ok, Err, true≢false, append-nil, length-append, length-drop, length-take, length_push, map-append, drop-drop, drop_all, drop_more, IsCodeword, idle_word, kind_of, Kind, Idle, sync_word, unsynced, words_of, pages_from, unsynced_codeword, unsynced_count, unsynced_more, unsynced_sync, words_long, words_split, DecodeFault, resumed, HasRead, AreFine, JudgesMore, AllMayStand, HasBadWord, KeepsFrom, index_at, is_idle, is_message, may_follow}
use Rattle.std.specs.Prelude.{Result}
use Rattle.pocsag_words.proofs.KindLemmas.{IsCodeword-idle}
use Rattle.pocsag_pages.specs.Reading.{frame_at}
use Rattle.pocsag_decode.specs.declared.fault.DecodeFault.TheVariants as fault
use Rattle.pocsag_decode.specs.declared.open_page.PageCollector.{PageCollector}
use Rattle.pocsag_decode.proofs.Judgements.{none_good}
use Rattle.pocsag_decode.proofs.WordByWord.{bad_codeword, bad_orphan, bad_stays, bad_sync, good_codeword, good_sync, may_codeword, may_last, may_sync}

pub none_fine : AreFine 0 false []
none_fine = record { count = refl; good = none_good; follows = refl }

-- one word more
module _ (place : ℕ) (in_page : Bool) (w : ℕ) where
  pub fine_sync : place % 17 ≡ 0 → w ≡ sync_word → JudgesMore (Ok in_page) place in_page (w ∷ [])
  fine_sync s e ws h =
      let n : place ≡ length ws = h.count in
      let s' : length ws % 17 ≡ 0 = omega arith in
      record {
        count = let l = length_push ws w in omega arith;
        good = good_sync ws w h.good s' e;
        follows = h.follows ∙ sym (may_sync ws w s');
      }

  pub not_sync : place % 17 ≡ 0 → w ≢ sync_word → JudgesMore (Err (fault.NoSync (place / 17))) place in_page (w ∷ [])
  not_sync s e ws h = let n = h.count in rw n (bad_sync ws w h.good (omega arith) e)

  pub not_codeword : 0 < place % 17 → ¬ IsCodeword w → JudgesMore (Err (fault.BadWord (index_at place))) place in_page (w ∷ [])
  not_codeword s c ws h = let n = h.count in rw n (bad_codeword ws w h.good (omega arith) c)

  pub no_page : 0 < place % 17 → IsCodeword w → IsTrue (is_message (kind_of w)) → in_page ≡ false
      → JudgesMore (Err (fault.Orphan (index_at place))) place in_page (w ∷ [])
  no_page s c m f ws h = let n = h.count in rw n (bad_orphan ws w h.good (omega arith) c m (sym h.follows ∙ f))

  pub fine_codeword : 0 < place % 17 → IsCodeword w → (now : Bool) → now ≡ not (is_idle (kind_of w))
      → (IsTrue (is_message (kind_of w)) → IsTrue in_page) → JudgesMore (Ok now) place in_page (w ∷ [])
  fine_codeword s c now e follows ws h =
      let n : place ≡ length ws = h.count in
      let s' : length ws % 17 ≢ 0 = omega arith in
      record {
        count = let l = length_push ws w in omega arith;
        good = good_codeword ws w h.good s' c (λ m. sym h.follows ∙ follows m);
        follows = e ∙ sym (may_codeword ws w s');
      }

  -- the same by its kind
  pub fine_kind : 0 < place % 17 → IsCodeword w → (kind : Kind) → kind ≡ kind_of w → (IsTrue (is_message kind) → IsTrue in_page)
      → JudgesMore (Ok (not (is_idle kind))) place in_page (w ∷ [])
  fine_kind s c kind is follows =
      fine_codeword s c (not (is_idle kind)) (ap (λ (k : Kind). not (is_idle k)) is) (λ m. follows (ap is_message is ∙ m))

-- some more words, and then more
pub fine_then : (place mid : ℕ) (in_page now : Bool) (xs ys : List ℕ) (next : Result Bool DecodeFault) → mid ≡ place + length xs
    → JudgesMore (Ok now) place in_page xs → JudgesMore next mid now ys → JudgesMore next place in_page (xs ++ ys)
fine_then place mid in_page now xs ys (Ok last) at f g ws h =
    let r = g (ws ++ xs) (subst (λ (n : ℕ). AreFine n now (ws ++ xs)) (sym at) (f ws h)) in
    record {
      count = let c = r.count in let l = ap length (append_assoc ws xs ys) in let m = length-append xs ys in omega arith;
      good = subst AllMayStand (append_assoc ws xs ys) r.good;
      follows = subst (λ (l : List ℕ). last ≡ may_follow l (length l)) (append_assoc ws xs ys) r.follows;
    }
fine_then place mid in_page now xs ys (Err e) at f g ws h =
    subst (λ (l : List ℕ). HasBadWord l e) (append_assoc ws xs ys)
    (g (ws ++ xs) (subst (λ (n : ℕ). AreFine n now (ws ++ xs)) (sym at) (f ws h)))

-- a bad word stays, whatever follows
pub bad_then : (place : ℕ) (in_page : Bool) (xs ys : List ℕ) (e : DecodeFault) → JudgesMore (Err e) place in_page xs
    → JudgesMore (Err e) place in_page (xs ++ ys)
bad_then place in_page xs ys e f ws h =
    subst (λ (l : List ℕ). HasBadWord l e) (append_assoc ws xs ys) (bad_stays (ws ++ xs) ys e (f ws h))

-- ---- the words from an index on

fine_none : (place : ℕ) (in_page : Bool) → JudgesMore (Ok in_page) place in_page []
fine_none place in_page ws h = record {
  count = let c = h.count in let l = ap length (append-nil ws) in omega arith;
  good = subst AllMayStand (sym (append-nil ws)) h.good;
  follows = subst (λ (l : List ℕ). in_page ≡ may_follow l (length l)) (sym (append-nil ws)) h.follows;
}

pub none_behind : (place i : ℕ) (in_page : Bool) (ws : List ℕ) → length ws ≤ i → JudgesMore (Ok in_page) place in_page (drop i ws)
none_behind place i in_page ws past = subst (JudgesMore (Ok in_page) place in_page) (sym (drop_all i ws past)) (fine_none place in_page)

module _ (place i : ℕ) (in_page : Bool) (ws : List ℕ) (w : ℕ) (within : i < length ws) (is : w ≡ get_or ws i 0) where
  word_first : w ∷ drop (i + 1) ws ≡ drop i ws
  word_first = ap (λ (v : ℕ). v ∷ drop (i + 1) ws) is ∙ sym (drop_more ws i 0 within)

  pub word_then : (now : Bool) (r : Result Bool DecodeFault) → JudgesMore (Ok now) place in_page (w ∷ [])
      → JudgesMore r (place + 1) now (drop (i + 1) ws) → JudgesMore r place in_page (drop i ws)
  word_then now r step rest =
      subst (JudgesMore r place in_page) word_first (fine_then place (place + 1) in_page now (w ∷ []) (drop (i + 1) ws) r refl step rest)

  pub word_bad : (e : DecodeFault) → JudgesMore (Err e) place in_page (w ∷ []) → JudgesMore (Err e) place in_page (drop i ws)
  word_bad e step = subst (JudgesMore (Err e) place in_page) word_first (bad_then place in_page (w ∷ []) (drop (i + 1) ws) e step)

-- a synchronisation codeword and what follows it
pub fine_after_sync : (place : ℕ) (in_page : Bool) (w : ℕ) (ws all : List ℕ) (next : Result Bool DecodeFault) → place % 17 ≡ 0
    → w ≡ sync_word → all ≡ w ∷ ws → JudgesMore next (place + 1) in_page ws → JudgesMore next place in_page all
fine_after_sync place in_page w ws all next s e is f =
    subst (JudgesMore next place in_page) (sym is)
    (fine_then place (place + 1) in_page in_page (w ∷ []) ws next refl (fine_sync place in_page w s e) f)

-- ---- a batch of idle codewords

idles : (n place : ℕ) (in_page : Bool) → 0 < place % 17 → place % 17 + n < 17 → JudgesMore (Ok false) place in_page (replicate (suc n) idle_word)
idles zero place in_page s h = fine_kind place in_page idle_word s IsCodeword-idle Idle refl (λ m. absurd (true≢false (sym m)))
idles (suc n) place in_page s h =
    fine_then place (place + 1) in_page false (idle_word ∷ []) (replicate (suc n) idle_word) (Ok false) refl
    (fine_kind place in_page idle_word s IsCodeword-idle Idle refl (λ m. absurd (true≢false (sym m))))
    (idles n (place + 1) false (omega arith) (omega arith))

pub fine_idles : (place : ℕ) (in_page : Bool) → place % 17 ≡ 0 → JudgesMore (Ok false) place in_page (sync_word ∷ replicate 16 idle_word)
fine_idles place in_page s =
    fine_then place (place + 1) in_page in_page (sync_word ∷ []) (replicate 16 idle_word) (Ok false) refl (fine_sync place in_page sync_word s refl)
    (idles 15 (place + 1) in_page (omega arith) (omega arith))

-- ---- the words from a batch on

-- the words of a batch
abbrev pub batch_at : ℕ → List ℕ → List ℕ
batch_at i bytes = words_of (take (68 * i + 68 - 68 * i) (drop (68 * i) bytes))

module _ (i : ℕ) (bytes : List ℕ) (within : 68 * i + 68 ≤ length bytes) where
  pub batch_long : length (batch_at i bytes) ≡ 17
  batch_long =
      let long = words_long (take (68 * i + 68 - 68 * i) (drop (68 * i) bytes)) in
      omega (arith, long, length-take (68 * i + 68 - 68 * i) (drop (68 * i) bytes), length-drop (68 * i) bytes)

  pub batch_first : words_of (drop (68 * i) bytes) ≡ batch_at i bytes ++ words_of (drop (68 * (i + 1)) bytes)
  batch_first =
      let next : 68 * i + (68 * i + 68 - 68 * i) ≡ 68 * (i + 1) = omega arith in
      words_split 17 (68 * i + 68 - 68 * i) (drop (68 * i) bytes) (omega arith) (omega (arith, length-drop (68 * i) bytes))
      ∙ ap (λ (l : List ℕ). batch_at i bytes ++ words_of l)
      (drop-drop (68 * i + 68 - 68 * i) (68 * i) bytes ∙ ap (λ (n : ℕ). drop n bytes) next)

  module _ (in_page : Bool) where
    pub batch_then : (now : Bool) (r : Result Bool DecodeFault) → JudgesMore (Ok now) (17 * i) in_page (batch_at i bytes)
        → JudgesMore r (17 * (i + 1)) now (words_of (drop (68 * (i + 1)) bytes)) → JudgesMore r (17 * i) in_page (words_of (drop (68 * i) bytes))
    batch_then now r step rest =
        subst (JudgesMore r (17 * i) in_page) (sym batch_first)
        (fine_then (17 * i) (17 * (i + 1)) in_page now (batch_at i bytes) _ r (let l = batch_long in omega arith) step rest)

    pub batch_bad : (e : DecodeFault) → JudgesMore (Err e) (17 * i) in_page (batch_at i bytes)
        → JudgesMore (Err e) (17 * i) in_page (words_of (drop (68 * i) bytes))
    batch_bad e step = subst (JudgesMore (Err e) (17 * i) in_page) (sym batch_first) (bad_then (17 * i) in_page (batch_at i bytes) _ e step)

-- ---- a word that is judged and read

-- what one codeword more does to growing pages
abbrev Grows : (before after : PageCollector) (frame : ℕ) (kind : Kind) → Type 0
Grows before after frame kind =
    (i : ℕ) (ks : List Kind) → frame ≡ frame_at i
    → before.pages.items ++ resumed i before.current (kind ∷ ks) ≡ after.pages.items ++ resumed (i + 1) after.current ks

module _ (place : ℕ) (growing : PageCollector) (ws : List ℕ) (w : ℕ) (in_page now : Bool) (is_open : in_page ≡ is_some growing.current)
    (judged : JudgesMore (Ok now) place in_page (w ∷ [])) (r : HasRead place growing ws) where
  good : AllMayStand (ws ++ w ∷ [])
  good = (judged ws (record { count = r.count; good = r.good; follows = is_open ∙ r.in_page })).good

  pub kept_word : 0 < place % 17 → IsTrue (is_some growing.current) → KeepsFrom (ws ++ w ∷ []) (length ws)
  kept_word s opened =
      let n = r.count in
      let l = length_push ws w in
      record {
        place = length ws;
        later = omega arith;
        there = omega arith;
        codeword = omega arith;
        follows = may_last ws w ∙ (sym r.in_page ∙ opened);
        good = λ j h. good j (omega arith);
      }

  pub read_sync : place % 17 ≡ 0 → HasRead (place + 1) growing (ws ++ w ∷ [])
  read_sync s =
      let n : place ≡ length ws = r.count in
      let s' : length ws % 17 ≡ 0 = omega arith in
      let same : unsynced 0 (ws ++ w ∷ []) ≡ unsynced 0 ws =
      unsynced_more 0 ws (w ∷ [])
      ∙ (ap (λ (l : List ℕ). unsynced 0 ws ++ l) (unsynced_sync (0 + length ws) w (omega arith)) ∙ append-nil (unsynced 0 ws)) in
      record {
        count = let l = length_push ws w in omega arith;
        good = good;
        in_page = r.in_page ∙ sym (may_sync ws w s');
        pages = λ ks. rw same (r.pages ks);
      }

  pub read_codeword : (frame : ℕ) (after : PageCollector) → 0 < place % 17 → frame ≡ (place % 17 - 1) / 2 → (kind : Kind) → kind ≡ kind_of w
      → is_some after.current ≡ not (is_idle kind) → Grows growing after frame kind → HasRead (place + 1) after (ws ++ w ∷ [])
  read_codeword frame after s at kind is current grows =
      let n : place ≡ length ws = r.count in
      let s' : length ws % 17 ≢ 0 = omega arith in
      let more : unsynced 0 (ws ++ w ∷ []) ≡ unsynced 0 ws ++ w ∷ [] =
      unsynced_more 0 ws (w ∷ []) ∙ ap (λ (l : List ℕ). unsynced 0 ws ++ l) (unsynced_codeword (0 + length ws) w (λ z. s' (omega arith))) in
      let counted = unsynced_count 0 ws in
      let frame_is : frame ≡ frame_at (length (unsynced 0 ws)) = omega arith in
      record {
        count = let l = length_push ws w in omega arith;
        good = good;
        in_page = current ∙ (ap (λ (k : Kind). not (is_idle k)) is ∙ sym (may_codeword ws w s'));
        pages = λ ks.
            rw (
              more,
              map-append kind_of (unsynced 0 ws) (w ∷ []),
              append_assoc (map kind_of (unsynced 0 ws)) (kind_of w ∷ []) ks,
              length-append (unsynced 0 ws) (w ∷ []),
            )
            (subst (λ (k : Kind). pages_from 0 (map kind_of (unsynced 0 ws) ++ k ∷ ks)
            ≡ after.pages.items ++ resumed (length (unsynced 0 ws) + 1) after.current ks) is
            (r.pages (kind ∷ ks) ∙ grows (length (unsynced 0 ws)) ks frame_is));
      }
