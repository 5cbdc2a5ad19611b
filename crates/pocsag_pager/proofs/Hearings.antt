-- What a pager has heard, one word at a time.
use Rattle.pocsag_pager.proofs.Prelude.{◌≡◌, ◌≢◌, ℕ, ◌+◌, ◌-◌, ◌/◌, ◌%◌, ◌<◌, List, [], ◌∷◌, ◌++◌, length, map, sym, ap, ap₂, subst, ◌∙◌, ◌⊎◌, ◌^◌, inl, inr, arith, append_assoc, All, Option, None, option_to_list, AllZip, map-append, length-map, cases_eq, All-head, All-tail, Kind, Page, unsynced, frame_at, IsMended, AreShown, said, shown_from, HaveEnded, IsElsewhere, ended_from, open_from, IsHeardAs, ending, next_open, IsSome, append-nil, State, Listening, HoldsOnceMended, unsynced_codeword, unsynced_count, unsynced_more, unsynced_sync}
use Rattle.std.proofs.lemmas.List.{length-append}
use Rattle.std.proofs.lemmas.Slice.Zip.{AllZip-long}
use Rattle.pocsag_pager.proofs.Mended.{AreRepaired, heard_at, all_mended_same}
use Rattle.pocsag_pager.proofs.Places.{ended_more, ending_none, next_open_elsewhere, next_open_same, open_more, shown_is}

AllZip-push_two : {A B : Type 0} (R : A → B → Type 0) (xs : List A) (ys : List B) (x : A) (y : B) → AllZip R xs ys → R x y
    → AllZip R (xs ++ x ∷ []) (ys ++ y ∷ [])
AllZip-push_two R [] [] x y all here = (here, tt)
AllZip-push_two R [] (v ∷ ys) x y all here = absurd all
AllZip-push_two R (u ∷ xs) [] x y all here = absurd all
AllZip-push_two R (u ∷ xs) (v ∷ ys) x y all here = (all.0, AllZip-push_two R xs ys x y all.1 here)

-- the fact that holds of what was heard gives another
pub heard_then : (words : List ℕ) (P Q : List (Option Kind) → Type 0) → HoldsOnceMended words P → ((ms : List (Option Kind)) → P ms → Q ms)
    → HoldsOnceMended words Q
heard_then words P Q h f = record { mended = h.mended; each = h.each; holds = f (map said h.mended) h.holds }

-- two facts of what was heard hold of the same
pub heard_both : (words : List ℕ) (P Q : List (Option Kind) → Type 0) → HoldsOnceMended words P → HoldsOnceMended words Q
    → HoldsOnceMended words (λ ms. P ms × Q ms)
heard_both words P Q h k =
    let same : k.mended ≡ h.mended = all_mended_same (unsynced 0 words) _ _ k.each h.each in
    record { mended = h.mended; each = h.each; holds = (h.holds, subst (λ (ms : List (Option ℕ)). Q (map said ms)) same k.holds) }

pub heard_skip : (words : List ℕ) (w : ℕ) (P : List (Option Kind) → Type 0) → length words % 17 ≡ 0 → HoldsOnceMended words P
    → HoldsOnceMended (words ++ w ∷ []) P
heard_skip words w P place h =
    let same : unsynced 0 (words ++ w ∷ []) ≡ unsynced 0 words =
    unsynced_more 0 words (w ∷ []) ∙ ap (λ xs. unsynced 0 words ++ xs) (unsynced_sync (0 + length words) w (omega arith))
    ∙ append-nil (unsynced 0 words) in
    record { mended = h.mended; each = subst (λ (ws : List ℕ). AllZip IsMended ws h.mended) (sym same) h.each; holds = h.holds }

pub heard_more : (words : List ℕ) (w : ℕ) (m : Option Kind) (P Q : List (Option Kind) → Type 0) → length words % 17 ≢ 0 → IsHeardAs w m
    → HoldsOnceMended words P
    → ((ms : List (Option Kind)) → length ms ≡ length (unsynced 0 words) → P ms → Q (ms ++ m ∷ [])) → HoldsOnceMended (words ++ w ∷ []) Q
heard_more words w m P Q place is h f =
    let inside : (0 + length words) % 17 ≢ 0 = λ e. place (omega arith) in
    let same : unsynced 0 (words ++ w ∷ []) ≡ unsynced 0 words ++ w ∷ [] =
    unsynced_more 0 words (w ∷ []) ∙ ap (λ xs. unsynced 0 words ++ xs) (unsynced_codeword (0 + length words) w inside) in
    let long : length (map said h.mended) ≡ length (unsynced 0 words) =
    length-map h.mended said ∙ AllZip-long IsMended (unsynced 0 words) h.mended h.each in
    let joined : map said (h.mended ++ is.mended ∷ []) ≡ map said h.mended ++ m ∷ [] =
    map-append said h.mended (is.mended ∷ []) ∙ ap (λ (k : Option Kind). map said h.mended ++ k ∷ []) is.is in
    record {
      mended = h.mended ++ is.mended ∷ [];
      each = subst (λ (ws : List ℕ). AllZip IsMended ws (h.mended ++ is.mended ∷ [])) (sym same)
          (AllZip-push_two IsMended (unsynced 0 words) h.mended w is.mended h.each is.is_mended);
      holds = subst Q (sym joined) (f (map said h.mended) long h.holds);
    }

-- the page that is open, as the code holds it
abbrev pub IsOpen : List ℕ → ℕ → State → Type 0
IsOpen words a state = HoldsOnceMended words (λ ms. state ≡ Listening (open_from a 0 ms))

open_is : (s : State) (before o : Option Page) → s ≡ Listening before → s ≡ Listening o → before ≡ o
open_is s before o e h = cc

pub place_more : (p : ℕ) (words : List ℕ) (w : ℕ) → p ≡ length words % 17 → (p + 1) % 17 ≡ length (words ++ w ∷ []) % 17
place_more p words w e = omega (arith, length-append words (w ∷ []))

-- ---- a word that is not at the place of a synchronisation codeword

module _ (a p w : ℕ) (words : List ℕ) (s : State) (before : Option Page) (m : Option Kind) (place : p ≡ length words % 17) (inside : 0 < p)
    (holds : s ≡ Listening before) (is : IsHeardAs w m) (stands : IsOpen words a s) where
  not_synced : length words % 17 ≢ 0
  not_synced e = absurd (omega arith)

  pub turn_open : (after : Option Page) → after ≡ next_open a (p - 1) before m → IsOpen (words ++ w ∷ []) a (Listening after)
  turn_open after e =
      heard_more words w m (λ ms. s ≡ Listening (open_from a 0 ms))
      (λ ms. Listening after ≡ Listening (open_from a 0 ms)) not_synced is stands
      (λ ms long h.
      let slot : length ms % 16 ≡ (p - 1) % 16 = omega (arith, unsynced_count 0 words) in
      ap Listening (e ∙ next_open_same a (p - 1) (length ms) before m (sym slot)
      ∙ ap (λ (o : Option Page). next_open a (length ms) o m) (open_is s before (open_from a 0 ms) holds h)
      ∙ sym (open_more a 0 (length ms) ms m (omega arith))))

  pub turn_ended : (ps : List Page) (ended : Option Page) → ended ≡ ending before m → HaveEnded words a ps
      → HaveEnded (words ++ w ∷ []) a (ps ++ option_to_list ended)
  turn_ended ps ended e have =
      heard_more words w m (λ ms. (s ≡ Listening (open_from a 0 ms)) × (ps ≡ ended_from a 0 ms))
      (λ ms. ps ++ option_to_list ended ≡ ended_from a 0 ms) not_synced is
      (heard_both words (λ ms. s ≡ Listening (open_from a 0 ms)) (λ ms. ps ≡ ended_from a 0 ms) stands have)
      (λ ms long h.
      ap₂ (λ (xs : List Page) (o : Option Page). xs ++ option_to_list o) h.1
      (e ∙ ap (λ (o : Option Page). ending o m) (open_is s before (open_from a 0 ms) holds h.0))
      ∙ sym (ended_more a 0 ms m))

-- a page that is held is the one that is open
pub open_still : (words : List ℕ) (a : ℕ) (s : State) (held : Option Page) → s ≡ Listening held → IsSome held → IsOpen words a s
    → HoldsOnceMended words (λ ms. IsSome (open_from a 0 ms))
open_still words a s held holds some stands =
    heard_then words (λ ms. s ≡ Listening (open_from a 0 ms)) (λ ms. IsSome (open_from a 0 ms)) stands
    (λ ms h. subst (λ (o : Option Page). IsSome o) (open_is s held (open_from a 0 ms) holds h) some)

-- ---- a word at the place of a synchronisation codeword

module _ (a p w : ℕ) (words : List ℕ) (place : p ≡ length words % 17) (first : p ≡ 0) where
  pub skip_open : (s : State) (before : Option Page) → s ≡ Listening before → IsOpen words a s
      → IsOpen (words ++ w ∷ []) a (Listening before)
  skip_open s before holds stands =
      subst (IsOpen (words ++ w ∷ []) a) holds
      (heard_skip words w (λ ms. s ≡ Listening (open_from a 0 ms)) (sym place ∙ first) stands)

  pub skip_ended : (ps : List Page) → HaveEnded words a ps → HaveEnded (words ++ w ∷ []) a (ps ++ [])
  skip_ended ps have =
      heard_skip words w (λ ms. ps ++ [] ≡ ended_from a 0 ms) (sym place ∙ first)
      (heard_then words (λ ms. ps ≡ ended_from a 0 ms) (λ ms. ps ++ [] ≡ ended_from a 0 ms) have (λ ms h. append-nil ps ∙ h))

-- ---- a word that is passed over

module _ (law : AreRepaired) (a p w : ℕ) (words : List ℕ) (s : State) (small : w < 2 ^ 32) (place : p ≡ length words % 17)
    (holds : s ≡ Listening None) (far : (p ≡ 0) ⊎ ((p - 1) / 2 ≢ a % 8)) (stands : IsOpen words a s) where
  elsewhere : ¬ (p ≡ 0) → frame_at (p - 1) ≢ a % 8
  elsewhere n = elim far [ inl first ↦ absurd (n first) | inr apart ↦ λ e. absurd (apart (omega arith)) ]

  pub pass_open : IsOpen (words ++ w ∷ []) a s
  pass_open =
      let at = heard_at law w small in
      subst (IsOpen (words ++ w ∷ []) a) (sym holds)
      (elim (cases_eq p 0) [
        | inl first ↦ skip_open a p w words place first s None holds stands
        | inr n ↦
            turn_open a p w words s None at.kind place (omega arith) holds at.heard stands None
            (sym (next_open_elsewhere a (p - 1) at.kind (elsewhere n)))
      ])

  pub pass_ended : (ps : List Page) → HaveEnded words a ps → HaveEnded (words ++ w ∷ []) a (ps ++ [])
  pass_ended ps have =
      let at = heard_at law w small in
      elim (cases_eq p 0) [
        | inl first ↦ skip_ended a p w words place first ps have
        | inr n ↦ turn_ended a p w words s None at.kind place (omega arith) holds at.heard stands ps None (sym (ending_none at.kind)) have
      ]

-- ---- words that are passed over

-- what is known after words: the page that is open, and the pages that have ended
pub record Known (words : List ℕ) (a : ℕ) (s : State) (ps : List Page) : Type 0 where
  pub open_page : IsOpen words a s
  pub ended : HaveEnded words a ps

far_place : (a q n : ℕ) → IsElsewhere a q (n + 1) → (q ≡ 0) ⊎ ((q - 1) / 2 ≢ a % 8)
far_place a q n (inl before) =
    elim (cases_eq q 0) [
      | inl first ↦ inl first
      | inr later ↦ inr (λ e. absurd (omega arith))
    ]
far_place a q n (inr after) = inr (λ e. absurd (omega (arith, after.0)))

far_next : (a q n : ℕ) → IsElsewhere a q (n + 1) → IsElsewhere a (q + 1) n
far_next a q n (inl before) = inl (omega arith)
far_next a q n (inr after) = inr (omega (arith, after.0), omega (arith, after.1))

far_within : (a q n : ℕ) → IsElsewhere a q (n + 1) → q < 17
far_within a q n (inl before) = omega arith
far_within a q n (inr after) = omega (arith, after.1)

pub pass_all : AreRepaired → (a q : ℕ) (s : State) (words more : List ℕ) (ps : List Page) → All (λ w. w < 2 ^ 32) more
    → q % 17 ≡ length words % 17
    → s ≡ Listening None → IsElsewhere a q (length more) → Known words a s ps → Known (words ++ more) a s ps
pass_all law a q s words [] ps small place holds far known = subst (λ (ws : List ℕ). Known ws a s ps) (sym (append-nil words)) known
pass_all law a q s words (w ∷ more) ps small place holds far known =
    let away : IsElsewhere a q (length more + 1) = subst (λ (n : ℕ). IsElsewhere a q n) (omega arith) far in
    let within : q < 17 = far_within a q (length more) away in
    let here : q ≡ length words % 17 = omega arith in
    let fits : w < 2 ^ 32 = All-head (λ v. v < 2 ^ 32) w more small in
    let next : Known (words ++ w ∷ []) a s ps = record {
      open_page = pass_open law a q w words s fits here holds (far_place a q (length more) away) known.open_page;
      ended = subst (HaveEnded (words ++ w ∷ []) a) (append-nil ps)
          (pass_ended law a q w words s fits here holds (far_place a q (length more) away) known.open_page ps known.ended);
    } in
    subst (λ (ws : List ℕ). Known ws a s ps) (append_assoc words (w ∷ []) more)
    (pass_all law a (q + 1) s (words ++ w ∷ []) more ps (All-tail (λ v. v < 2 ^ 32) w more small)
    (omega (arith, length-append words (w ∷ []))) holds
    (far_next a q (length more) away) next)

-- ---- the end

pub all_shown : (a : ℕ) (words : List ℕ) (s : State) (before : Option Page) (ps : List Page) → s ≡ Listening before → IsOpen words a s
    → HaveEnded words a ps
    → AreShown words a (ps ++ option_to_list before)
all_shown a words s before ps holds stands have =
    heard_then words (λ ms. (s ≡ Listening (open_from a 0 ms)) × (ps ≡ ended_from a 0 ms))
    (λ ms. ps ++ option_to_list before ≡ shown_from a 0 ms)
    (heard_both words (λ ms. s ≡ Listening (open_from a 0 ms)) (λ ms. ps ≡ ended_from a 0 ms) stands have)
    (λ ms h.
    ap₂ (λ (xs : List Page) (o : Option Page). xs ++ option_to_list o) h.1 (open_is s before (open_from a 0 ms) holds h.0)
    ∙ sym (shown_is a 0 ms))
