-- What the last bytes of a transmission say, and how many batches it has.
use Rattle.pocsag_centre.proofs.Prelude.{◌≡◌, ℕ, ◌+◌, ◌*◌, ◌-◌, ◌/◌, ◌%◌, ◌^◌, ◌<◌, ◌≤◌, ◌≢◌, List, [], ◌∷◌, ◌++◌, length, map, take, drop, get_or, replicate, All, refl, sym, ap, ◌∙◌, subst, inl, inr, arith, eq-eqb, append_assoc, flat_map, cases_eq, cases_lt, le-ltb, lt-ltb, ne_eqb, drop_at, get_or-drop, length-append, length-take-le, take-append-drop, All-head, All-tail, idle_word, kind_of, BeginsNoMessage, EndsIdle, EndsWhole}
use Rattle.std.proofs.Common.{◌↔◌}
use Rattle.std.specs.Int.{from_be_bytes, to_be_bytes, w32}
use Rattle.std.proofs.lemmas.Nat.{from_be_bytes-to_be_bytes_4}
use Rattle.pocsag_words.specs.Codeword.{IsCodeword}
use Rattle.pocsag_words.specs.declared.codeword.Kind.TheVariants.{Idle}
use Rattle.pocsag_pages.specs.Bytes.{Sent, after_preamble, body_bytes, leading, sync_word, synced}
use Rattle.pocsag_pages.proofs.Lengths.{body_length, synced_count}
use Rattle.pocsag_decode.proofs.Preambles.{BeginsOther, after_is, count_is}

-- the last four bytes, and those of the idle codeword
abbrev pub last_four : List ℕ → List ℕ
last_four bytes = drop (length bytes - 4) bytes

abbrev pub idle_bytes : List ℕ
idle_bytes = 0x7a ∷ 0x89 ∷ 0xc1 ∷ 0x97 ∷ []

four_behind : (front back : List ℕ) → 4 ≤ length back → last_four (front ++ back) ≡ last_four back
four_behind front back long =
    let m : ℕ = length back - 4 in
    let n : ℕ = length (front ++ back) - 4 in
    let parts : front ++ back ≡ (front ++ take m back) ++ drop m back =
    ap (λ (ys : List ℕ). front ++ ys) (sym (take-append-drop m back)) ∙ sym (append_assoc front (take m back) (drop m back)) in
    let size : length (front ++ take m back) ≡ n =
    omega (arith, length-append front (take m back), length-append front back, length-take-le m back (omega arith)) in
    ap (drop n) parts ∙ drop_at (front ++ take m back) (drop m back) n size

-- a codeword whose first bit is 0 is no message codeword
no_message : (w : ℕ) → w < 2 ^ 31 → BeginsNoMessage (kind_of w ∷ [])
no_message w small =
    elim (cases_eq w 0x7a89c197) [
      | inl e ↦ rw (eq-eqb _ _ e) tt
      | inr n ↦ let low : w / 2048 < 2 ^ 20 = omega arith in rw (ne_eqb _ _ n, lt-ltb _ _ low) tt
    ]

-- and one whose first bit is 1 is one
no_first_bit : (w : ℕ) → BeginsNoMessage (kind_of w ∷ []) → w < 2 ^ 31
no_first_bit w begins =
    elim (cases_lt w 0x80000000) [
      | inl small ↦ small
      | inr large ↦
          let other : w ≢ 0x7a89c197 = omega arith in
          let high : 2 ^ 20 ≤ w / 2048 = omega arith in
          absurd (rw (ne_eqb _ _ other, le-ltb (w / 2048) (2 ^ 20) high) at begins)
    ]

-- the idle codeword alone is of its kind
idle_alone : (w : ℕ) → kind_of w ≡ Idle → w ≡ 0x7a89c197
idle_alone w is =
    elim (cases_eq w 0x7a89c197) [
      | inl e ↦ e
      | inr other ↦
          let by_bits = rw (ne_eqb _ _ other) at is in
          elim (cases_lt (w / 2048) (2 ^ 20)) [
            | inl low ↦ let address = rw (lt-ltb (w / 2048) (2 ^ 20) low) at by_bits in cc
            | inr high ↦ let message = rw (le-ltb (w / 2048) (2 ^ 20) high) at by_bits in cc
          ]
    ]

idle_from : (w : ℕ) → w < 2 ^ 32 → to_be_bytes w32 w ≡ idle_bytes → kind_of w ≡ Idle
idle_from w fits e =
    let same : w ≡ idle_word = sym (from_be_bytes-to_be_bytes_4 w fits) ∙ ap (from_be_bytes w32) e in
    ap kind_of same

-- the last codeword is in the last four bytes
abbrev last_word : ℕ → List ℕ → ℕ
last_word w [] = w
last_word w (v ∷ T) = last_word v T

abbrev bytes_from : ℕ → List ℕ → List ℕ
bytes_from i T = flat_map (to_be_bytes w32) (synced i T)

last_bytes : (i w : ℕ) (T : List ℕ) → last_four (bytes_from i (w ∷ T)) ≡ to_be_bytes w32 (last_word w T)
last_bytes i w [] = elim (cases_eq (i % 16) 0) [ inl first ↦ rw (eq-eqb _ _ first) refl | inr later ↦ rw (ne_eqb _ _ later) refl ]
last_bytes i w (v ∷ T) =
    let rest = bytes_from (i + 1) (v ∷ T) in
    let count = synced_count (i + 1) (v ∷ T) in
    let size = body_length (synced (i + 1) (v ∷ T)) in
    let long : 4 ≤ length rest = omega arith in
    let more = last_bytes (i + 1) v T in
    elim (cases_eq (i % 16) 0) [
      | inl first ↦
          let front = to_be_bytes w32 sync_word ++ to_be_bytes w32 w in
          rw (eq-eqb _ _ first) (four_behind front rest long ∙ more)
      | inr later ↦ rw (ne_eqb _ _ later) (four_behind (to_be_bytes w32 w) rest long ∙ more)
    ]

last_fits : (w : ℕ) (T : List ℕ) → All IsCodeword (w ∷ T) → last_word w T < 2 ^ 32
last_fits w [] are = (All-head IsCodeword w [] are).fits
last_fits w (v ∷ T) are = last_fits v T (All-tail IsCodeword w (v ∷ T) are)

ends_last : (w : ℕ) (T : List ℕ) → (EndsWhole (map kind_of (w ∷ T)) ↔ BeginsNoMessage (kind_of (last_word w T) ∷ []))
    × (EndsIdle (map kind_of (w ∷ T)) ↔ (kind_of (last_word w T) ≡ Idle))
ends_last w [] = ((λ ends. ends, λ ends. ends), (λ ends. ends, λ ends. ends))
ends_last w (v ∷ T) = ends_last v T

ends_whole : (T : List ℕ) → All IsCodeword T → 0 < length T → (get_or (last_four (body_bytes T)) 0 0 < 128) ↔ EndsWhole (map kind_of T)
ends_whole [] are some = absurd (omega arith)
ends_whole (w ∷ T) are some =
    let v = last_word w T in
    let fits : v < 2 ^ 32 = last_fits w T are in
    let is = last_bytes 0 w T in (
      λ low.
          let first : get_or (to_be_bytes w32 v) 0 0 < 128 = subst (λ (bs : List ℕ). get_or bs 0 0 < 128) is low in
          (ends_last w T).0.1 (no_message v (omega arith)),
      λ ends.
          let small : v < 2 ^ 31 = no_first_bit v ((ends_last w T).0.0 ends) in
          let first : get_or (to_be_bytes w32 v) 0 0 < 128 = omega arith in
          subst (λ (bs : List ℕ). get_or bs 0 0 < 128) (sym is) first,
    )

ends_idle : (T : List ℕ) → All IsCodeword T → 0 < length T → (last_four (body_bytes T) ≡ idle_bytes) ↔ EndsIdle (map kind_of T)
ends_idle [] are some = absurd (omega arith)
ends_idle (w ∷ T) are some = (
  λ e. (ends_last w T).1.1 (idle_from (last_word w T) (last_fits w T are) (sym (last_bytes 0 w T) ∙ e)),
  λ ends. last_bytes 0 w T ∙ ap (to_be_bytes w32) (idle_alone (last_word w T) ((ends_last w T).1.0 ends)),
)

module _ (X T : List ℕ) (s : Sent X T) where
  after_sent : after_preamble X ≡ body_bytes T
  after_sent =
      after_is X s.preamble (body_bytes T) (record {
        whole = s.bytes;
        other = elim T as (λ (ws : List ℕ). BeginsOther (body_bytes ws)) [ [] ↦ tt | w ∷ ws ↦ omega arith ];
      })

  body_of_batches : length (body_bytes T) ≡ 68 * s.batches
  body_of_batches =
      let whole = s.whole.1 in let count = synced_count 0 T in let size = body_length (synced 0 T) in omega arith

  pub batches_are : (length X - leading X) / 68 ≡ s.batches
  batches_are =
      let all = count_is X [] in let body = ap length after_sent in let size = body_of_batches in omega arith

  last_of : last_four X ≡ last_four (body_bytes T)
  last_of =
      let some = s.whole.0 in
      let size = body_of_batches in
      ap last_four s.bytes ∙ four_behind (replicate s.preamble 0xaa) (body_bytes T) (omega arith)

  some_words : 0 < length T
  some_words = let some = s.whole.0 in let whole = s.whole.1 in omega arith

  pub whole_end : (get_or X (length X - 4) 0 < 128) ↔ EndsWhole (map kind_of T)
  whole_end =
      let n : ℕ = length X - 4 in
      let same : get_or X n 0 ≡ get_or (last_four (body_bytes T)) 0 0 =
      ap (λ (k : ℕ). get_or X k 0) (omega arith) ∙ sym (get_or-drop n X 0 0) ∙ ap (λ (bs : List ℕ). get_or bs 0 0) last_of in
      rw same (ends_whole T s.codewords some_words)

  pub idle_end : (last_four X ≡ idle_bytes) ↔ EndsIdle (map kind_of T)
  idle_end = rw last_of (ends_idle T s.codewords some_words)
