-- A transmission on its way to be repaired, and what the repaired bytes are.
use Rattle.pocsag_decode.proofs.Prelude.{◌≡◌, ℕ, suc, lit<, ◌+◌, ◌*◌, ◌^◌, ◌<◌, ◌≤◌, ◌==◌, Bool, true, false, cond, List, [], ◌∷◌, ◌++◌, length, take, drop, replicate, All, bit_xor, count_ones, refl, sym, ap, ap₂, ◌∙◌, subst, arith, append_assoc, to_be_bytes, w32, flat_map, eq-eqb, drop-drop, drop_at, length-append, length-drop, length-replicate, length_push, take-append-drop, take_at, All-append, All-cons, All-drop, All-head, All-nil, All-tail, from_be_bytes-to_be_bytes_4, ones_le_self, after_preamble, leading, words_of, body_length, words_small, unfinished, words, AreRepaired, IsRepairOf, IsRepaired, differing_bits, differing_words, sync, no_sync, codeword, beyond}
use Rattle.std.specs.Int.Bits.{xor_self}
use Rattle.pocsag_decode.proofs.Preambles.{BeginsOther, Parts, after_is, parts}
use Rattle.pocsag_decode.proofs.Words.{bytes_split, each_small, none_in_few, unfinished_short}

-- the bytes of words
abbrev pub bytes_of_words : List ℕ → List ℕ
bytes_of_words ws = flat_map (to_be_bytes w32) ws

-- they fit
abbrev pub AreSmall : List ℕ → Type 0
AreSmall ws = All (λ w. w < 2 ^ 32) ws

-- ---- words and what follows them

words_with : (ws rest : List ℕ) → AreSmall ws → words_of rest ≡ [] → words_of (bytes_of_words ws ++ rest) ≡ ws
words_with [] rest small none = none
words_with (w ∷ ws) rest small none =
    ap₂ (λ (x : ℕ) (l : List ℕ). x ∷ l) (from_be_bytes-to_be_bytes_4 w (All-head (λ x. x < 2 ^ 32) w ws small))
    (words_with ws rest (All-tail (λ x. x < 2 ^ 32) w ws small) none)

left_alone : (rest : List ℕ) → words_of rest ≡ [] → unfinished rest ≡ rest
left_alone [] none = refl
left_alone (a ∷ []) none = refl
left_alone (a ∷ b ∷ []) none = refl
left_alone (a ∷ b ∷ c ∷ []) none = refl
left_alone (a ∷ b ∷ c ∷ d ∷ rest) none = absurd (cc)

left_with : (ws rest : List ℕ) → words_of rest ≡ [] → unfinished (bytes_of_words ws ++ rest) ≡ rest
left_with [] rest none = left_alone rest none
left_with (w ∷ ws) rest none = left_with ws rest none

bytes_push : (ws : List ℕ) (w : ℕ) (rest : List ℕ) → bytes_of_words ws ++ (to_be_bytes w32 w ++ rest) ≡ bytes_of_words (ws ++ w ∷ []) ++ rest
bytes_push [] w rest = refl
bytes_push (x ∷ ws) w rest = ap (λ (l : List ℕ). to_be_bytes w32 x ++ l) (bytes_push ws w rest)

-- ---- repaired words

repaired_small : (j w v : ℕ) → w < 2 ^ 32 → IsRepaired j w v → v < 2 ^ 32
repaired_small j w v h (sync e near) = lit< tt
repaired_small j w v h (no_sync e far) = h
repaired_small j w v h (codeword n only) = only.codeword.fits
repaired_small j w v h (beyond n none) = h

all_repaired_small : (j : ℕ) (ws vs : List ℕ) → AreSmall ws → AreRepaired j ws vs → AreSmall vs
all_repaired_small j [] [] h r = All-nil _
all_repaired_small j [] (v ∷ vs) h r = absurd r
all_repaired_small j (w ∷ ws) [] h r = absurd r
all_repaired_small j (w ∷ ws) (v ∷ vs) h r =
    All-cons (λ x. x < 2 ^ 32) v vs (repaired_small j w v (All-head (λ x. x < 2 ^ 32) w ws h) r.0)
    (all_repaired_small (j + 1) ws vs (All-tail (λ x. x < 2 ^ 32) w ws h) r.1)

repaired_long : (j : ℕ) (ws vs : List ℕ) → AreRepaired j ws vs → length vs ≡ length ws
repaired_long j [] [] r = refl
repaired_long j [] (v ∷ vs) r = absurd r
repaired_long j (w ∷ ws) [] r = absurd r
repaired_long j (w ∷ ws) (v ∷ vs) r = ap (λ (n : ℕ). suc n) (repaired_long (j + 1) ws vs r.1)

repaired_push : (j : ℕ) (ws vs : List ℕ) (w v : ℕ) → AreRepaired j ws vs → IsRepaired (j + length ws) w v
    → AreRepaired j (ws ++ w ∷ []) (vs ++ v ∷ [])
repaired_push j [] [] w v r one = (subst (λ (i : ℕ). IsRepaired i w v) (omega arith) one, tt)
repaired_push j [] (y ∷ vs) w v r one = absurd r
repaired_push j (x ∷ ws) [] w v r one = absurd r
repaired_push j (x ∷ ws) (y ∷ vs) w v r one =
    (r.0, repaired_push (j + 1) ws vs w v r.1 (subst (λ (i : ℕ). IsRepaired i w v) (omega arith) one))

-- no repair makes a byte AA of the first
first_begins : (w v : ℕ) (ws vs rest : List ℕ) → IsRepaired 0 w v → BeginsOther (bytes_of_words (w ∷ ws) ++ rest)
    → BeginsOther (bytes_of_words (v ∷ vs) ++ rest)
first_begins w v ws vs rest (sync e near) o = omega arith
first_begins w v ws vs rest (no_sync e far) o = o
first_begins w v ws vs rest (codeword n only) o = absurd (n refl)
first_begins w v ws vs rest (beyond n none) o = o

repaired_begins : (ws vs rest : List ℕ) → AreRepaired 0 ws vs → BeginsOther (bytes_of_words ws ++ rest) → BeginsOther (bytes_of_words vs ++ rest)
repaired_begins [] [] rest r o = o
repaired_begins [] (v ∷ vs) rest r o = absurd r
repaired_begins (w ∷ ws) [] rest r o = absurd r
repaired_begins (w ∷ ws) (v ∷ vs) rest r o = first_begins w v ws vs rest r.0 o

-- ---- how many words and bits differ

pub none_wrong : (w : ℕ) → count_ones (bit_xor w w) ≡ 0
none_wrong w = ap count_ones (xor_self w) ∙ omega (arith, ones_le_self 0)

pub near_bits : (j w v : ℕ) → IsRepaired j w v → count_ones (bit_xor v w) ≤ 2
near_bits j w v (sync e near) = near
near_bits j w v (no_sync e far) = omega (arith, none_wrong w)
near_bits j w v (codeword n only) = only.near
near_bits j w v (beyond n none) = omega (arith, none_wrong w)

words_push : (ws vs : List ℕ) (w v : ℕ) → length vs ≡ length ws
    → differing_words (ws ++ w ∷ []) (vs ++ v ∷ []) ≡ differing_words ws vs + cond (v == w) 0 1
words_push [] [] w v e = omega arith
words_push [] (y ∷ vs) w v e = absurd (omega arith)
words_push (x ∷ ws) [] w v e = absurd (omega arith)
words_push (x ∷ ws) (y ∷ vs) w v e = let more = words_push ws vs w v (omega arith) in omega arith

bits_push : (ws vs : List ℕ) (w v : ℕ) → length vs ≡ length ws
    → differing_bits (ws ++ w ∷ []) (vs ++ v ∷ []) ≡ differing_bits ws vs + count_ones (bit_xor v w)
bits_push [] [] w v e = omega arith
bits_push [] (y ∷ vs) w v e = absurd (omega arith)
bits_push (x ∷ ws) [] w v e = absurd (omega arith)
bits_push (x ∷ ws) (y ∷ vs) w v e = let more = bits_push ws vs w v (omega arith) in omega arith

one_at_most : (b : Bool) → cond b 0 1 ≤ 1
one_at_most true = omega arith
one_at_most false = omega arith

words_at_most : (ws vs : List ℕ) → differing_words ws vs ≤ length ws
words_at_most [] vs = omega arith
words_at_most (w ∷ ws) [] = omega arith
words_at_most (w ∷ ws) (v ∷ vs) = let one = one_at_most (v == w) in let more = words_at_most ws vs in omega arith

bits_at_most : (j : ℕ) (ws vs : List ℕ) → AreRepaired j ws vs → differing_bits ws vs ≤ 2 * length ws
bits_at_most j [] vs r = omega arith
bits_at_most j (w ∷ ws) [] r = omega arith
bits_at_most j (w ∷ ws) (v ∷ vs) r = let two = near_bits j w v r.0 in let more = bits_at_most (j + 1) ws vs r.1 in omega arith

none_differ : (ws : List ℕ) → (differing_words ws ws ≡ 0) × (differing_bits ws ws ≡ 0)
none_differ [] = (refl, refl)
none_differ (w ∷ ws) =
    let more = none_differ ws in
    (rw (eq-eqb w w refl) (omega arith), omega (arith, none_wrong w))

-- bytes that stay have no word and no bit that differs
pub nothing_differs : (X Y : List ℕ) → Y ≡ X → (differing_words (words X) (words Y) ≡ 0) × (differing_bits (words X) (words Y) ≡ 0)
nothing_differs X Y e =
    subst (λ (Z : List ℕ). (differing_words (words X) (words Z) ≡ 0) × (differing_bits (words X) (words Z) ≡ 0)) (sym e) (none_differ (words X))

-- ---- the repaired bytes

module _ (X Y : List ℕ) (small : AreSmall (words X))
    (whole : bytes_of_words (words X) ++ unfinished (after_preamble X) ≡ after_preamble X) (f : IsRepairOf X Y) where
  repaired_parts : Parts Y (leading X) (bytes_of_words f.repaired ++ unfinished (after_preamble X))
  repaired_parts = record {
    whole = f.bytes;
    other =
        repaired_begins (words X) f.repaired (unfinished (after_preamble X)) f.each (subst BeginsOther (sym whole) (parts X).other);
  }

  words_of_repair : words Y ≡ f.repaired
  words_of_repair =
      ap words_of (after_is Y (leading X) _ repaired_parts)
      ∙ words_with f.repaired (unfinished (after_preamble X)) (all_repaired_small 0 (words X) f.repaired small f.each)
      (none_in_few (unfinished (after_preamble X)) (unfinished_short (after_preamble X)))

pub repaired_words : (X Y : List ℕ) → All (λ b. b < 256) X → (f : IsRepairOf X Y) → words Y ≡ f.repaired
repaired_words X Y bytes f =
    let after : All (λ b. b < 256) (after_preamble X) = All-drop (λ b. b < 256) (leading X) X bytes in
    words_of_repair X Y (words_small (after_preamble X) (each_small (after_preamble X) after)) (bytes_split (after_preamble X) after) f

-- ---- on the way

-- Of the bytes X the words up to an index, at which stands the word of a place, are repaired, and counted.
pub record IsRepairing (X now : List ℕ) (at place in_words in_bits : ℕ) : Type 0 where
  pub before : List ℕ
  pub after : List ℕ
  pub each : AreRepaired 0 before after
  pub small : AreSmall before
  pub counted : place ≡ length before
  pub reached : at ≡ leading X + 4 * length before
  pub within : at ≤ length X
  pub was : after_preamble X ≡ bytes_of_words before ++ drop at X
  pub is : now ≡ replicate (leading X) 0xaa ++ (bytes_of_words after ++ drop at X)
  pub words_differ : in_words ≡ differing_words before after
  pub bits_differ : in_bits ≡ differing_bits before after

pub repairing_first : (X : List ℕ) (at : ℕ) → at ≡ leading X → at ≤ length X → IsRepairing X X at 0 0 0
repairing_first X at e within = record {
  before = [];
  after = [];
  each = tt;
  small = All-nil _;
  counted = refl;
  reached = omega arith;
  within = within;
  was = ap (λ (n : ℕ). drop n X) (sym e);
  is = (parts X).whole ∙ ap (λ (n : ℕ). replicate (leading X) 0xaa ++ drop n X) (sym e);
  words_differ = refl;
  bits_differ = refl;
}

module _ (X now : List ℕ) (at place in_words in_bits : ℕ) (t : IsRepairing X now at place in_words in_bits) where
  pub words_bound : in_words ≤ place
  words_bound = let e = t.words_differ in let p = t.counted in let m = words_at_most t.before t.after in omega arith

  pub bits_bound : in_bits ≤ 2 * place
  bits_bound = let e = t.bits_differ in let p = t.counted in let m = bits_at_most 0 t.before t.after t.each in omega arith

  pub place_bound : 4 * place ≤ length X
  place_bound = let p = t.counted in let r = t.reached in let w = t.within in omega arith

  long_front : length (replicate (leading X) 0xaa ++ bytes_of_words t.after) ≡ at
  long_front =
      let four : length (bytes_of_words t.after) ≡ 4 * length t.after = body_length t.after in
      let same = repaired_long 0 t.before t.after t.each in
      length-append (replicate (leading X) 0xaa) (bytes_of_words t.after)
      ∙ (ap₂ ◌+◌ (length-replicate (leading X) 0xaa) four ∙ (let r = t.reached in omega arith))

  now_is : now ≡ (replicate (leading X) 0xaa ++ bytes_of_words t.after) ++ drop at X
  now_is = t.is ∙ sym (append_assoc (replicate (leading X) 0xaa) (bytes_of_words t.after) (drop at X))

  front_now : take at now ≡ replicate (leading X) 0xaa ++ bytes_of_words t.after
  front_now = ap (take at) now_is ∙ take_at (replicate (leading X) 0xaa ++ bytes_of_words t.after) (drop at X) at long_front

  pub rest_now : drop at now ≡ drop at X
  rest_now = ap (drop at) now_is ∙ drop_at (replicate (leading X) 0xaa ++ bytes_of_words t.after) (drop at X) at long_front

  pub long_now : length now ≡ length X
  long_now =
      let l = ap length now_is in
      let p = length-append (replicate (leading X) 0xaa ++ bytes_of_words t.after) (drop at X) in
      let f = long_front in
      let d = length-drop at X in
      let w = t.within in
      omega arith

  -- one word more
  module _ (w v : ℕ) (next : List ℕ) (room : at + 4 ≤ length X) (fits : w < 2 ^ 32) (read : to_be_bytes w32 w ≡ take 4 (drop at now))
      (one : IsRepaired place w v) (put : next ≡ take at now ++ (to_be_bytes w32 v ++ drop (at + 4) now)) where
    four : to_be_bytes w32 w ≡ take 4 (drop at X)
    four = read ∙ ap (take 4) rest_now

    rest_next : drop at X ≡ to_be_bytes w32 w ++ drop (at + 4) X
    rest_next = sym (take-append-drop 4 (drop at X)) ∙ ap₂ (λ (x y : List ℕ). x ++ y) (sym four) (drop-drop 4 at X)

    rest_put : drop (at + 4) now ≡ drop (at + 4) X
    rest_put = sym (drop-drop 4 at now) ∙ (ap (drop 4) rest_now ∙ drop-drop 4 at X)

    next_is : next ≡ replicate (leading X) 0xaa ++ (bytes_of_words (t.after ++ v ∷ []) ++ drop (at + 4) X)
    next_is =
        put
        ∙ (ap₂ (λ (x y : List ℕ). x ++ (to_be_bytes w32 v ++ y)) front_now rest_put
        ∙ (append_assoc (replicate (leading X) 0xaa) (bytes_of_words t.after) (to_be_bytes w32 v ++ drop (at + 4) X)
        ∙ ap (λ (l : List ℕ). replicate (leading X) 0xaa ++ l) (bytes_push t.after v (drop (at + 4) X))))

    pub repairing_more : (more_words more_bits : ℕ) → more_words ≡ in_words + cond (v == w) 0 1
        → more_bits ≡ in_bits + count_ones (bit_xor v w) → IsRepairing X next (at + 4) (place + 1) more_words more_bits
    repairing_more more_words more_bits e f =
        let long = repaired_long 0 t.before t.after t.each in
        let l = length_push t.before w in
        let at_place : IsRepaired (0 + length t.before) w v = subst (λ (i : ℕ). IsRepaired i w v) (t.counted ∙ omega arith) one in
        record {
          before = t.before ++ w ∷ [];
          after = t.after ++ v ∷ [];
          each = repaired_push 0 t.before t.after w v t.each at_place;
          small = All-append (λ x. x < 2 ^ 32) t.before (w ∷ []) t.small (All-cons (λ x. x < 2 ^ 32) w [] fits (All-nil _));
          counted = let p = t.counted in omega arith;
          reached = let r = t.reached in omega arith;
          within = room;
          was =
              t.was ∙ (ap (λ (l : List ℕ). bytes_of_words t.before ++ l) rest_next
              ∙ bytes_push t.before w (drop (at + 4) X));
          is = next_is;
          words_differ = e ∙ (ap (λ (n : ℕ). n + cond (v == w) 0 1) t.words_differ ∙ sym (words_push t.before t.after w v long));
          bits_differ = f ∙ (ap (λ (n : ℕ). n + count_ones (bit_xor v w)) t.bits_differ ∙ sym (bits_push t.before t.after w v long));
        }

  -- no whole word more
  module _ (short : length now < at + 4) where
    none_over : words_of (drop at X) ≡ []
    none_over = none_in_few (drop at X) (let d = length-drop at X in let w = t.within in let l = long_now in omega arith)

    words_before : words X ≡ t.before
    words_before = ap words_of t.was ∙ words_with t.before (drop at X) t.small none_over

    left_before : unfinished (after_preamble X) ≡ drop at X
    left_before = ap unfinished t.was ∙ left_with t.before (drop at X) none_over

    pub repaired_all : IsRepairOf X now
    repaired_all = record {
      repaired = t.after;
      each = subst (λ (ws : List ℕ). AreRepaired 0 ws t.after) (sym words_before) t.each;
      bytes = t.is ∙ ap (λ (l : List ℕ). replicate (leading X) 0xaa ++ (bytes_of_words t.after ++ l)) (sym left_before);
    }

    words_after : words now ≡ t.after
    unfolding repaired_all
    words_after =
        words_of_repair X now (subst AreSmall (sym words_before) t.small)
        (ap₂ (λ (ws rest : List ℕ). bytes_of_words ws ++ rest) words_before left_before ∙ sym t.was) repaired_all

    pub counted_words : in_words ≡ differing_words (words X) (words now)
    counted_words = t.words_differ ∙ ap₂ differing_words (sym words_before) (sym words_after)

    pub counted_bits : in_bits ≡ differing_bits (words X) (words now)
    counted_bits = t.bits_differ ∙ ap₂ differing_bits (sym words_before) (sym words_after)
