-- One word more: the words before it keep their judgement, and the last is judged by them.
use Rattle.pocsag_decode.proofs.Prelude.{◌≡◌, ◌≢◌, ℕ, ◌+◌, ◌-◌, ◌/◌, ◌%◌, ◌<◌, ◌≤◌, ◌==◌, ◌&&◌, false, not, nat_lt, List, [], ◌∷◌, ◌++◌, length, slice_index, IsTrue, refl, sym, ap, ◌∙◌, subst, inl, inr, arith, get_or-append_seam, cases_eq, cases_lt, cond_both, lt-ltb, le-ltb, eq-eqb, ne_eqb, get_or_append_left, length-append, length_push, IsCodeword, kind_of, sync_word, DecodeFault, is_message, is_idle, index_at, before, may_follow, IsBad, bad_word, orphan, MayStandAt, AllMayStand, HasBadWord, KeepsFrom}
use Rattle.pocsag_decode.specs.declared.fault.DecodeFault.TheVariants as fault
use Rattle.pocsag_decode.specs.Places.{no_sync}

before_lt : (j : ℕ) → 1 < j → before j < j
before_lt j h = cond_both (j % 17 == 1) (j - 2) (j - 1) (λ x. x < j) (λ e. omega arith) (λ e. omega arith)

pub may_kept : (ws zs : List ℕ) (j : ℕ) → j ≤ length ws → may_follow (ws ++ zs) j ≡ may_follow ws j
may_kept ws zs j h =
    elim (cases_lt 1 j) [
      | inl p ↦
          let lt : before j < length ws = let b = before_lt j p in omega arith in
          ap (λ (x : ℕ). nat_lt 1 j && not (is_idle (kind_of x))) (get_or_append_left ws zs 0 (before j) lt)
      | inr p ↦ rw (le-ltb 1 j p) refl
    ]

same_good : (ws vs : List ℕ) (j : ℕ) → slice_index vs j ≡ slice_index ws j → may_follow vs j ≡ may_follow ws j → MayStandAt ws j
    → MayStandAt vs j
same_good ws vs j e m g = record {
  sync = λ s. e ∙ g.sync s;
  codeword = λ s. subst IsCodeword (sym e) (g.codeword s);
  follows = λ s t. m ∙ g.follows s (subst (λ (x : ℕ). IsTrue (is_message (kind_of x))) e t);
}

same_bad : (ws vs : List ℕ) (j : ℕ) (f : DecodeFault) → slice_index vs j ≡ slice_index ws j → may_follow vs j ≡ may_follow ws j
    → IsBad ws j f → IsBad vs j f
same_bad ws vs j f e m (no_sync a b) = no_sync a (λ h. b (sym e ∙ h))
same_bad ws vs j f e m (bad_word a b) = bad_word a (λ h. b (subst IsCodeword e h))
same_bad ws vs j f e m (orphan a b c d) =
    orphan a (subst IsCodeword (sym e) b) (subst (λ (x : ℕ). IsTrue (is_message (kind_of x))) (sym e) c) (m ∙ d)

-- a place keeps its judgement however the words go on
pub good_kept : (ws zs : List ℕ) (j : ℕ) → j < length ws → MayStandAt ws j → MayStandAt (ws ++ zs) j
good_kept ws zs j h g = same_good ws (ws ++ zs) j (get_or_append_left ws zs 0 j h) (may_kept ws zs j (omega arith)) g

pub bad_stays : (ws zs : List ℕ) (f : DecodeFault) → HasBadWord ws f → HasBadWord (ws ++ zs) f
bad_stays ws zs f b = record {
  place = b.place;
  there = let t = b.there in let l = length-append ws zs in omega arith;
  bad =
      same_bad ws (ws ++ zs) b.place f (get_or_append_left ws zs 0 b.place b.there)
      (may_kept ws zs b.place (let t = b.there in omega arith)) b.bad;
  least = λ j h. good_kept ws zs j (let t = b.there in omega arith) (b.least j h);
}

-- a place that has to be kept stays so
pub keeps_on : (ws zs : List ℕ) (n m : ℕ) → m ≤ n → KeepsFrom ws n → KeepsFrom (ws ++ zs) m
keeps_on ws zs n m h k = record {
  place = k.place;
  later = let l = k.later in omega arith;
  there = let t = k.there in let l = length-append ws zs in omega arith;
  codeword = k.codeword;
  follows = may_kept ws zs k.place (let t = k.there in omega arith) ∙ k.follows;
  good = λ j p. good_kept ws zs j (let t = k.there in omega arith) (k.good j p);
}

-- the last word
module _ (ws : List ℕ) (w : ℕ) where
  is_last : slice_index (ws ++ w ∷ []) (length ws) ≡ w
  is_last = get_or-append_seam ws w [] 0

  pub may_last : may_follow (ws ++ w ∷ []) (length ws) ≡ may_follow ws (length ws)
  may_last = may_kept ws (w ∷ []) (length ws) (omega arith)

  good_more : AllMayStand ws → MayStandAt (ws ++ w ∷ []) (length ws) → AllMayStand (ws ++ w ∷ [])
  good_more good last = λ j h.
      elim (cases_eq j (length ws)) [
        | inl e ↦ subst (MayStandAt (ws ++ w ∷ [])) (sym e) last
        | inr n ↦ let lt : j < length ws = let l = length_push ws w in omega arith in good_kept ws (w ∷ []) j lt (good j lt)
      ]

  bad_more : (f : DecodeFault) → AllMayStand ws → IsBad (ws ++ w ∷ []) (length ws) f → HasBadWord (ws ++ w ∷ []) f
  bad_more f good last = record {
    place = length ws;
    there = let l = length_push ws w in omega arith;
    bad = last;
    least = λ j h. good_kept ws (w ∷ []) j h (good j h);
  }

  pub good_sync : AllMayStand ws → length ws % 17 ≡ 0 → w ≡ sync_word → AllMayStand (ws ++ w ∷ [])
  good_sync good s e =
      good_more good (record {
        sync = λ _. is_last ∙ e;
        codeword = λ n. absurd (n s);
        follows = λ n. absurd (n s);
      })

  pub bad_sync : AllMayStand ws → length ws % 17 ≡ 0 → w ≢ sync_word → HasBadWord (ws ++ w ∷ []) (fault.NoSync (length ws / 17))
  bad_sync good s e = bad_more _ good (no_sync s (λ h. e (sym is_last ∙ h)))

  pub good_codeword : AllMayStand ws → length ws % 17 ≢ 0 → IsCodeword w
      → (IsTrue (is_message (kind_of w)) → IsTrue (may_follow ws (length ws))) → AllMayStand (ws ++ w ∷ [])
  good_codeword good s c follows =
      good_more good (record {
        sync = λ z. absurd (s z);
        codeword = λ _. subst IsCodeword (sym is_last) c;
        follows = λ _ m. may_last ∙ follows (subst (λ (x : ℕ). IsTrue (is_message (kind_of x))) is_last m);
      })

  pub bad_codeword : AllMayStand ws → length ws % 17 ≢ 0 → ¬ IsCodeword w → HasBadWord (ws ++ w ∷ []) (fault.BadWord (index_at (length ws)))
  bad_codeword good s c = bad_more _ good (bad_word s (λ h. c (subst IsCodeword is_last h)))

  pub bad_orphan : AllMayStand ws → length ws % 17 ≢ 0 → IsCodeword w → IsTrue (is_message (kind_of w)) → may_follow ws (length ws) ≡ false
      → HasBadWord (ws ++ w ∷ []) (fault.Orphan (index_at (length ws)))
  bad_orphan good s c m f =
      bad_more _ good
      (orphan s (subst IsCodeword (sym is_last) c) (subst (λ (x : ℕ). IsTrue (is_message (kind_of x))) (sym is_last) m) (may_last ∙ f))

  -- after a synchronisation codeword a message may follow as before it
  pub may_sync : length ws % 17 ≡ 0 → may_follow (ws ++ w ∷ []) (length (ws ++ w ∷ [])) ≡ may_follow ws (length ws)
  may_sync s =
      rw (length_push ws w) (elim (cases_lt 0 (length ws)) [
        | inl p ↦
            let one : (length ws + 1) % 17 ≡ 1 = omega arith in
            let zero : length ws % 17 ≢ 1 = omega arith in
            let lt : length ws - 1 < length ws = omega arith in
            let place : length ws + 1 - 2 ≡ length ws - 1 = omega arith in
            rw (eq-eqb _ _ one, ne_eqb _ _ zero, lt-ltb 1 (length ws + 1) (omega arith), lt-ltb 1 (length ws) (omega arith), place)
            (ap (λ (x : ℕ). not (is_idle (kind_of x))) (get_or_append_left ws (w ∷ []) 0 (length ws - 1) lt))
        | inr p ↦ rw (le-ltb 1 (length ws + 1) (omega arith), le-ltb 1 (length ws) (omega arith)) refl
      ])

  -- after any other, unless it is idle
  pub may_codeword : length ws % 17 ≢ 0 → may_follow (ws ++ w ∷ []) (length (ws ++ w ∷ [])) ≡ not (is_idle (kind_of w))
  may_codeword s =
      let other : (length ws + 1) % 17 ≢ 1 = omega arith in
      let place : length ws + 1 - 1 ≡ length ws = omega arith in
      rw (length_push ws w, ne_eqb _ _ other, lt-ltb 1 (length ws + 1) (omega arith), place) (ap (λ (x : ℕ). not (is_idle (kind_of x))) is_last)
