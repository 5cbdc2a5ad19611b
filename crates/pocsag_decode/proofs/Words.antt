-- Bytes that go on: their whole words, and what follows these.
use Rattle.pocsag_decode.proofs.Prelude.{◌≡◌, ◌≢◌, ℕ, lit<, ◌+◌, ◌-◌, ◌*◌, ◌<◌, ◌≤◌, List, [], ◌∷◌, ◌++◌, length, get_or, take, drop, refl, sym, ap, ap₂, ◌∙◌, subst, inl, inr, arith, append_assoc, true, false, ◌==◌, All, cases_lt, eqb-true, false≢true, from_be_bytes, to_be_bytes, w32, flat_map, append-nil, get_or_past, length-append, length-drop, nil_from_length, take-append-drop, take_all, All-drop, All-take, be_bytes_4, words_of, first_word, words_long, DecodeFault, PartialWord, partial_bytes, size_of, unfinished, HasBadWord, KeepsFrom, HasRead, HoldsOf, IsTaking, IsWantingOrBad}
use Rattle.pocsag_decode.specs.declared.body.Body.{Body}
use Rattle.pocsag_decode.proofs.WordByWord.{bad_stays, keeps_on}

pub words_on : (Y Z : List ℕ) → words_of (Y ++ Z) ≡ words_of Y ++ words_of (unfinished Y ++ Z)
words_on [] Z = refl
words_on (a ∷ []) Z = refl
words_on (a ∷ b ∷ []) Z = refl
words_on (a ∷ b ∷ c ∷ []) Z = refl
words_on (a ∷ b ∷ c ∷ d ∷ Y) Z = ap (λ (l : List ℕ). from_be_bytes w32 (a ∷ b ∷ c ∷ d ∷ []) ∷ l) (words_on Y Z)

pub rest_on : (Y Z : List ℕ) → unfinished (Y ++ Z) ≡ unfinished (unfinished Y ++ Z)
rest_on [] Z = refl
rest_on (a ∷ []) Z = refl
rest_on (a ∷ b ∷ []) Z = refl
rest_on (a ∷ b ∷ c ∷ []) Z = refl
rest_on (a ∷ b ∷ c ∷ d ∷ Y) Z = rest_on Y Z

pub bytes_count : (Y : List ℕ) → length Y ≡ 4 * length (words_of Y) + length (unfinished Y)
bytes_count [] = refl
bytes_count (a ∷ []) = refl
bytes_count (a ∷ b ∷ []) = refl
bytes_count (a ∷ b ∷ c ∷ []) = refl
bytes_count (a ∷ b ∷ c ∷ d ∷ Y) = let e = bytes_count Y in omega arith

-- bytes are those of their words, and then what follows these
pub each_small : (Y : List ℕ) → All (λ b. b < 256) Y → (i : ℕ) → get_or Y i 0 < 256
each_small Y h i =
    elim (cases_lt i (length Y)) [
      | inl there ↦ h i 0 there
      | inr past ↦ subst (λ (n : ℕ). n < 256) (sym (get_or_past Y i 0 past)) (lit< tt)
    ]

pub bytes_split : (Y : List ℕ) → All (λ b. b < 256) Y → flat_map (to_be_bytes w32) (words_of Y) ++ unfinished Y ≡ Y
bytes_split [] h = refl
bytes_split (a ∷ []) h = refl
bytes_split (a ∷ b ∷ []) h = refl
bytes_split (a ∷ b ∷ c ∷ []) h = refl
bytes_split (a ∷ b ∷ c ∷ d ∷ Y) h =
    let four = a ∷ b ∷ c ∷ d ∷ [] in
    ap₂ (λ (x y : List ℕ). x ++ y)
    (be_bytes_4 four (from_be_bytes w32 four) refl (each_small four (All-take (λ x. x < 256) 4 (four ++ Y) h)) refl)
    (bytes_split Y (All-drop (λ x. x < 256) 4 (four ++ Y) h))

pub none_in_few : (Y : List ℕ) → length Y < 4 → words_of Y ≡ []
none_in_few Y h = nil_from_length (words_of Y) (let l = words_long Y in omega arith)

pub unfinished_short : (Y : List ℕ) → length (unfinished Y) < 4
unfinished_short Y = let n = bytes_count Y in let m = words_long Y in omega arith

-- as many bytes as the decoder's count
pub size_is : (b : Body) (Y : List ℕ) → HoldsOf b Y → size_of b.place b.partial ≡ length Y
size_is b Y s =
    let e = bytes_count Y in
    let n = s.read.count in
    let l = ap length s.partial in
    omega arith

pub bad_on : (Y Z : List ℕ) (f : DecodeFault) → HasBadWord (words_of Y) f → HasBadWord (words_of (Y ++ Z)) f
bad_on Y Z f b = subst (λ (ws : List ℕ). HasBadWord ws f) (sym (words_on Y Z)) (bad_stays (words_of Y) (words_of (unfinished Y ++ Z)) f b)

-- a byte that makes no word whole
pub byte_more : (b : Body) (old new : PartialWord) (Y : List ℕ) (x : ℕ) → b.partial ≡ old → words_of (partial_bytes old ++ x ∷ []) ≡ []
    → unfinished (partial_bytes old ++ x ∷ []) ≡ partial_bytes new
    → HoldsOf b Y → HoldsOf (record b { partial = new }) (Y ++ x ∷ [])
byte_more b old new Y x is none one s =
    let left : unfinished Y ≡ partial_bytes old = sym s.partial ∙ ap partial_bytes is in
    record {
      read = rw (words_on Y (x ∷ []), left, none, append-nil (words_of Y)) s.read;
      partial = sym (rest_on Y (x ∷ []) ∙ (ap (λ (l : List ℕ). unfinished (l ++ x ∷ [])) left ∙ one));
    }

words_le : (Y Z : List ℕ) → length Y ≤ length Z → length (words_of Y) ≤ length (words_of Z)
words_le Y Z h = let p = words_long Y in let q = words_long Z in omega arith

wanting_on : (Y Z : List ℕ) (f : DecodeFault) (n m : ℕ) → m ≤ n → IsWantingOrBad n (words_of Y) f → IsWantingOrBad m (words_of (Y ++ Z)) f
wanting_on Y Z f n m h (inl w) =
    let kept : KeepsFrom (words_of (Y ++ Z)) m = rw (words_on Y Z) (keeps_on (words_of Y) (words_of (unfinished Y ++ Z)) n m h w.1) in
    inl (w.0, kept)
wanting_on Y Z f n m h (inr b) = inr (bad_on Y Z f b)

-- four bytes
four_words : (l : List ℕ) → length l ≡ 4 → words_of l ≡ from_be_bytes w32 l ∷ []
four_words l e = ap words_of (sym (append-nil l)) ∙ first_word l [] e

four_left : (l : List ℕ) → length l ≡ 4 → unfinished l ≡ []
four_left l e = nil_from_length (unfinished l) (let n = bytes_count l in let m = words_long l in omega arith)

-- bytes that make a word whole
module _ (b : Body) (Y Z : List ℕ) (w : ℕ) (s : HoldsOf b Y)
    (e : length (partial_bytes b.partial ++ Z) ≡ 4) (is : w ≡ from_be_bytes w32 (partial_bytes b.partial ++ Z)) where
  words_are : words_of (Y ++ Z) ≡ words_of Y ++ w ∷ []
  words_are =
      words_on Y Z
      ∙ ap (λ (l : List ℕ). words_of Y ++ l)
      (ap (λ (l : List ℕ). words_of (l ++ Z)) (sym s.partial) ∙ (four_words _ e ∙ ap (λ (x : ℕ). x ∷ []) (sym is)))

  pub word_more : (new : Body) → HasRead new.place new.growing (words_of Y ++ w ∷ []) → partial_bytes new.partial ≡ [] → HoldsOf new (Y ++ Z)
  word_more new r none = record {
    read = rw words_are r;
    partial = none ∙ sym (rest_on Y Z ∙ (ap (λ (l : List ℕ). unfinished (l ++ Z)) (sym s.partial) ∙ four_left _ e));
  }

  pub refused_more : (f : DecodeFault) → IsWantingOrBad (length (words_of Y)) (words_of Y ++ w ∷ []) f
      → IsWantingOrBad (length (words_of Y)) (words_of (Y ++ Z)) f
  refused_more f h = rw words_are h

-- a part of the bytes more
module _ (first now : Body) (bytes rest front back : List ℕ) (t : IsTaking first now bytes rest) (e : rest ≡ front ++ back) where
  pub taken : (new : Body) → size_of new.place new.partial ≡ size_of now.place now.partial + length front
      → ((Y : List ℕ) → HoldsOf now Y → HoldsOf new (Y ++ front)) → IsTaking first new bytes back
  taken new size stands = record {
    size = let s = t.size in let l = length-append front back in let r = ap length e in omega arith;
    less = let s = t.less in let l = length-append front back in let r = ap length e in omega arith;
    before = λ Y h.
        let s = t.before Y h in
        record {
          eaten = s.eaten ++ front;
          all = append_assoc s.eaten front back ∙ (ap (λ (l : List ℕ). s.eaten ++ l) (sym e) ∙ s.all);
          stands = stands s.eaten s.stands;
        };
  }

  pub not_taken : (f : DecodeFault)
      → ((Y : List ℕ) → HoldsOf now Y → IsWantingOrBad (length (words_of Y)) (words_of (Y ++ front)) f)
      → (Y : List ℕ) → HoldsOf first Y
      → IsWantingOrBad (length (words_of Y)) (words_of (Y ++ bytes)) f
  not_taken f bad Y h =
      let s = t.before Y h in
      let all : (s.eaten ++ front) ++ back ≡ Y ++ bytes =
      append_assoc s.eaten front back ∙ (ap (λ (l : List ℕ). s.eaten ++ l) (sym e) ∙ s.all) in
      let more : length Y ≤ length s.eaten =
      let a = size_is first Y h in let b = size_is now s.eaten s.stands in let c = t.size in let d = t.less in omega arith in
      subst (λ (l : List ℕ). IsWantingOrBad (length (words_of Y)) (words_of l) f) all
      (wanting_on (s.eaten ++ front) back f _ _ (words_le Y s.eaten more) (bad s.eaten s.stands))

pub split_is : (n : ℕ) (l front back : List ℕ) → front ≡ take n l → back ≡ drop n l → l ≡ front ++ back
split_is n l front back p q = sym (take-append-drop n l) ∙ ap₂ (λ (x y : List ℕ). x ++ y) (sym p) (sym q)

-- the first element of a list, and the first four
pub first_one : (l : List ℕ) → 1 ≤ length l → get_or l 0 0 ∷ [] ≡ take 1 l
first_one [] h = absurd (omega arith)
first_one (a ∷ l) h = refl

pub first_four : (l : List ℕ) → 4 ≤ length l → get_or l 0 0 ∷ get_or l 1 0 ∷ get_or l 2 0 ∷ get_or l 3 0 ∷ [] ≡ take 4 l
first_four [] h = absurd (omega arith)
first_four (a ∷ []) h = absurd (omega arith)
first_four (a ∷ b ∷ []) h = absurd (omega arith)
first_four (a ∷ b ∷ c ∷ []) h = absurd (omega arith)
first_four (a ∷ b ∷ c ∷ d ∷ l) h = refl

-- a list is its front and what is behind it
pub front_and_tail : (n : ℕ) (l front : List ℕ) → front ≡ take n l → l ≡ front ++ take (length l - n) (drop n l)
front_and_tail n l front is = split_is n l front _ is (take_all (length l - n) (drop n l) (omega (arith, length-drop n l)))

pub is_nil : (l : List ℕ) → true ≡ (length l == 0) → l ≡ []
is_nil [] e = refl
is_nil (x ∷ l) e = absurd (let n = eqb-true (length (x ∷ l)) 0 (sym e) in omega arith)

pub not_nil : (l : List ℕ) → false ≡ (length l == 0) → l ≢ []
not_nil l e z = false≢true (e ∙ ap (λ (m : List ℕ). length m == 0) z)

pub taking_last : (first now : Body) (bytes rest : List ℕ) → rest ≡ [] → IsTaking first now bytes rest → (Y : List ℕ) → HoldsOf first Y
    → HoldsOf now (Y ++ bytes)
taking_last first now bytes rest e t Y h =
    let s = t.before Y h in
    subst (HoldsOf now) (sym (append-nil s.eaten) ∙ (ap (λ (l : List ℕ). s.eaten ++ l) (sym e) ∙ s.all)) s.stands
