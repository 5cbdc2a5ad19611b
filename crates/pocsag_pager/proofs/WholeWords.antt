-- The words of bytes, taken four bytes at a time.
use Rattle.pocsag_pager.proofs.Prelude.{◌≡◌, ℕ, zero, suc, ◌+◌, ◌-◌, ◌*◌, ◌/◌, ◌^◌, ◌<◌, ◌≤◌, All, drop, List, [], ◌∷◌, ◌++◌, length, get_or, take, map, refl, sym, ap, ap₂, subst, ◌∙◌, arith, append_assoc, Option, Some, None, from_be_bytes, w32, map-append, All-cons, All-nil, Page, words_of, AreShown, HaveEnded, take-add, take_more, length-drop, length-take, take-append-drop}
use Rattle.std.specs.Simd.{first_chunks}

pub chunk_words : (n : ℕ) (xs : List ℕ) → n ≡ length xs / 4 → map (from_be_bytes w32) (first_chunks 4 n xs) ≡ words_of xs
chunk_words zero [] e = refl
chunk_words zero (a ∷ []) e = refl
chunk_words zero (a ∷ b ∷ []) e = refl
chunk_words zero (a ∷ b ∷ c ∷ []) e = refl
chunk_words zero (a ∷ b ∷ c ∷ d ∷ xs) e = absurd (omega arith)
chunk_words (suc n) [] e = absurd (omega arith)
chunk_words (suc n) (a ∷ []) e = absurd (omega arith)
chunk_words (suc n) (a ∷ b ∷ []) e = absurd (omega arith)
chunk_words (suc n) (a ∷ b ∷ c ∷ []) e = absurd (omega arith)
chunk_words (suc n) (a ∷ b ∷ c ∷ d ∷ xs) e = ap (λ ws. from_be_bytes w32 (a ∷ b ∷ c ∷ d ∷ []) ∷ ws) (chunk_words n xs (omega arith))

-- the numbers of the chunks so far, and of the chunk at the place i
pub one_more_word : (chunks : List (List ℕ)) (i w : ℕ) → i < length chunks → w ≡ from_be_bytes w32 (get_or chunks i [])
    → map (from_be_bytes w32) (take (i + 1) chunks) ≡ map (from_be_bytes w32) (take i chunks) ++ w ∷ []
one_more_word chunks i w within here =
    ap (map (from_be_bytes w32)) (take_more chunks i [] within)
    ∙ map-append (from_be_bytes w32) (take i chunks) (get_or chunks i [] ∷ [])
    ∙ ap (λ (v : ℕ). map (from_be_bytes w32) (take i chunks) ++ v ∷ []) (sym here)

-- the same pages at equal words, addresses and lists
pub ended_at : (ws vs : List ℕ) (a b : ℕ) (ps qs : List Page) → vs ≡ ws → b ≡ a → qs ≡ ps → HaveEnded ws a ps → HaveEnded vs b qs
ended_at ws vs a b ps qs words address pages have =
    subst (λ (xs : List ℕ). HaveEnded xs b qs) (sym words)
    (subst (λ (n : ℕ). HaveEnded ws n qs) (sym address) (subst (λ (rs : List Page). HaveEnded ws a rs) (sym pages) have))

pub shown_at : (ws vs : List ℕ) (a b : ℕ) (ps qs : List Page) → vs ≡ ws → b ≡ a → qs ≡ ps → AreShown ws a ps → AreShown vs b qs
shown_at ws vs a b ps qs words address pages shown =
    subst (λ (xs : List ℕ). AreShown xs b qs) (sym words)
    (subst (λ (n : ℕ). AreShown ws n qs) (sym address) (subst (λ (rs : List Page). AreShown ws a rs) (sym pages) shown))

pub not_both : {X : Type 0} (o : Option X) (x : X) → o ≡ None → o ≡ Some x → ⊥
not_both None x none some = cc
not_both (Some y) x none some = cc

-- ---- lists of bytes in parts

words_append : (k : ℕ) (xs ys : List ℕ) → length xs ≡ 4 * k → words_of (xs ++ ys) ≡ words_of xs ++ words_of ys
words_append k [] ys e = refl
words_append k (a ∷ []) ys e = absurd (omega arith)
words_append k (a ∷ b ∷ []) ys e = absurd (omega arith)
words_append k (a ∷ b ∷ c ∷ []) ys e = absurd (omega arith)
words_append k (a ∷ b ∷ c ∷ d ∷ xs) ys e = ap (λ ws. from_be_bytes w32 (a ∷ b ∷ c ∷ d ∷ []) ∷ ws) (words_append (k - 1) xs ys (omega arith))

pub words_split : (k n : ℕ) (xs : List ℕ) → n ≡ 4 * k → n ≤ length xs → words_of xs ≡ words_of (take n xs) ++ words_of (drop n xs)
words_split k n xs e within =
    ap words_of (sym (take-append-drop n xs)) ∙ words_append k (take n xs) (drop n xs) (omega (arith, length-take n xs))

word_small : (a b c d : ℕ) → a < 256 → b < 256 → c < 256 → d < 256 → from_be_bytes w32 (a ∷ b ∷ c ∷ d ∷ []) < 2 ^ 32
word_small a b c d h i j k = omega arith

pub words_small : (xs : List ℕ) → ((i : ℕ) → get_or xs i 0 < 256) → All (λ w. w < 2 ^ 32) (words_of xs)
words_small [] h = All-nil _
words_small (a ∷ []) h = All-nil _
words_small (a ∷ b ∷ []) h = All-nil _
words_small (a ∷ b ∷ c ∷ []) h = All-nil _
words_small (a ∷ b ∷ c ∷ d ∷ xs) h =
    All-cons (λ w. w < 2 ^ 32) (from_be_bytes w32 (a ∷ b ∷ c ∷ d ∷ [])) (words_of xs) (word_small a b c d (h 0) (h 1) (h 2) (h 3))
    (words_small xs (λ i. h (suc (suc (suc (suc i))))))

-- the words of a batch are those of its three parts, of which the one in the middle is frame i
pub three_parts : (i : ℕ) (words xs before rest frame after : List ℕ) → i < 8 → length xs ≡ 68 → before ≡ take (4 + 8 * i) xs
    → rest ≡ drop (4 + 8 * i) xs
    → frame ≡ take 8 rest → after ≡ drop 8 rest → ((words ++ words_of before) ++ words_of frame) ++ words_of after ≡ words ++ words_of xs
three_parts i words xs before rest frame after small long b r f a =
    let room : 8 ≤ length rest = rw r (omega (arith, length-drop (4 + 8 * i) xs)) in
    let both : List ℕ → List ℕ → List ℕ = λ ys zs. words_of ys ++ words_of zs in
    let second : words_of frame ++ words_of after ≡ words_of rest = ap₂ both f a ∙ sym (words_split 2 8 rest refl room) in
    let first : words_of before ++ words_of rest ≡ words_of xs =
    ap₂ both b r ∙ sym (words_split (1 + 2 * i) (4 + 8 * i) xs (omega arith) (omega arith)) in
    append_assoc (words ++ words_of before) (words_of frame) (words_of after)
    ∙ append_assoc words (words_of before) (words_of frame ++ words_of after)
    ∙ ap (λ ws. words ++ ws) (ap (λ ws. words_of before ++ ws) second ∙ first)

pub next_batch : (i : ℕ) (xs : List ℕ) → 68 * i + 68 ≤ length xs
    → words_of (take (68 * (i + 1)) xs) ≡ words_of (take (68 * i) xs) ++ words_of (take (68 * i + 68 - 68 * i) (drop (68 * i) xs))
next_batch i xs within =
    let next : 68 * (i + 1) ≡ 68 * i + (68 * i + 68 - 68 * i) = omega arith in
    let long : length (take (68 * i) xs) ≡ 4 * (17 * i) = omega (arith, length-take (68 * i) xs) in
    ap (λ (n : ℕ). words_of (take n xs)) next ∙ ap words_of (take-add (68 * i) (68 * i + 68 - 68 * i) xs)
    ∙ words_append (17 * i) (take (68 * i) xs) (take (68 * i + 68 - 68 * i) (drop (68 * i) xs)) long
