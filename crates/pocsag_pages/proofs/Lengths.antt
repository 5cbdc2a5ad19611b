-- How many codewords and bytes a body has.
use Rattle.pocsag_pages.proofs.Prelude.{◌≡◌, ◌≢◌, ℕ, lit<, ◌+◌, ◌*◌, ◌/◌, ◌%◌, ◌^◌, ◌<◌, List, [], ◌∷◌, ◌++◌, length, All, refl, ap, ap₂, ◌∙◌, inl, inr, arith, from_be_bytes, to_be_bytes, w32, flat_map, cases_eq, ne_eqb, All-nil, All-cons, All-head, All-tail, sync_word, synced, unsynced, words_of}
use Rattle.std.proofs.Common.{eq-eqb}
use Rattle.std.proofs.lemmas.Nat.{from_be_bytes-to_be_bytes_4}
use Rattle.pocsag_words.specs.Codeword.{IsCodeword}

pub synced_count : (i : ℕ) (T : List ℕ) → length (synced i T) + (i + 15) / 16 ≡ length T + (i + length T + 15) / 16
synced_count i [] = omega arith
synced_count i (w ∷ T) =
    let more = synced_count (i + 1) T in
    elim (cases_eq (i % 16) 0) [
      | inl e ↦ rw (eq-eqb _ _ e) (omega arith)
      | inr n ↦ rw (ne_eqb _ _ n) (omega arith)
    ]

-- how many they are
pub unsynced_count : (j : ℕ) (ws : List ℕ) → length (unsynced j ws) + (j + length ws + 16) / 17 ≡ length ws + (j + 16) / 17
unsynced_count j [] = omega arith
unsynced_count j (v ∷ ws) =
    let more = unsynced_count (j + 1) ws in
    elim (cases_eq (j % 17) 0) [
      | inl e ↦ rw (eq-eqb _ _ e) (omega arith)
      | inr n ↦ rw (ne_eqb _ _ n) (omega arith)
    ]

pub body_length : (ws : List ℕ) → length (flat_map (to_be_bytes w32) ws) ≡ 4 * length ws
body_length [] = refl
body_length (w ∷ ws) = let e = body_length ws in omega arith

-- the words in parts, and one word alone
pub unsynced_more : (j : ℕ) (ws zs : List ℕ) → unsynced j (ws ++ zs) ≡ unsynced j ws ++ unsynced (j + length ws) zs
unsynced_more j [] zs = ap (λ (n : ℕ). unsynced n zs) (omega arith)
unsynced_more j (v ∷ ws) zs =
    let e : j + 1 + length ws ≡ j + length (v ∷ ws) = omega arith in
    let more = unsynced_more (j + 1) ws zs ∙ ap (λ (n : ℕ). unsynced (j + 1) ws ++ unsynced n zs) e in
    elim (cases_eq (j % 17) 0) [
      | inl z ↦ rw (eq-eqb _ _ z) more
      | inr n ↦ rw (ne_eqb _ _ n) (ap (λ (l : List ℕ). v ∷ l) more)
    ]

pub unsynced_sync : (j w : ℕ) → j % 17 ≡ 0 → unsynced j (w ∷ []) ≡ []
unsynced_sync j w e = rw (eq-eqb _ _ e) refl

pub unsynced_codeword : (j w : ℕ) → j % 17 ≢ 0 → unsynced j (w ∷ []) ≡ w ∷ []
unsynced_codeword j w n = rw (ne_eqb _ _ n) refl

-- the words of bytes
pub words_long : (xs : List ℕ) → length (words_of xs) ≡ length xs / 4
words_long [] = refl
words_long (a ∷ []) = refl
words_long (a ∷ b ∷ []) = refl
words_long (a ∷ b ∷ c ∷ []) = refl
words_long (a ∷ b ∷ c ∷ d ∷ xs) = let rest = words_long xs in omega arith

pub first_word : (front back : List ℕ) → length front ≡ 4 → words_of (front ++ back) ≡ from_be_bytes w32 front ∷ words_of back
first_word [] back e = absurd (omega arith)
first_word (a ∷ []) back e = absurd (omega arith)
first_word (a ∷ b ∷ []) back e = absurd (omega arith)
first_word (a ∷ b ∷ c ∷ []) back e = absurd (omega arith)
first_word (a ∷ b ∷ c ∷ d ∷ []) back e = refl
first_word (a ∷ b ∷ c ∷ d ∷ x ∷ front) back e = absurd (omega arith)

-- words that fit are those of their bytes
pub words_again : (ws : List ℕ) → All (λ w. w < 2 ^ 32) ws → words_of (flat_map (to_be_bytes w32) ws) ≡ ws
words_again [] small = refl
words_again (w ∷ ws) small =
    ap₂ (λ (x : ℕ) (l : List ℕ). x ∷ l) (from_be_bytes-to_be_bytes_4 w (All-head (λ x. x < 2 ^ 32) w ws small))
    (words_again ws (All-tail (λ x. x < 2 ^ 32) w ws small))

pub synced_small : (i : ℕ) (T : List ℕ) → All IsCodeword T → All (λ w. w < 2 ^ 32) (synced i T)
synced_small i [] are = All-nil (λ w. w < 2 ^ 32)
synced_small i (w ∷ T) are =
    let small : w < 2 ^ 32 = (All-head IsCodeword w T are).fits in
    let rest = All-cons (λ x. x < 2 ^ 32) w (synced (i + 1) T) small (synced_small (i + 1) T (All-tail IsCodeword w T are)) in
    elim (cases_eq (i % 16) 0) [
      | inl e ↦ rw (eq-eqb _ _ e) (All-cons (λ x. x < 2 ^ 32) sync_word (w ∷ synced (i + 1) T) (lit< tt) rest)
      | inr n ↦ rw (ne_eqb _ _ n) rest
    ]
