-- The words in front of a run.
use Rattle.pocsag_capture.proofs.Prelude.{◌≡◌, ℕ, zero, suc, ◌+◌, ◌-◌, ◌*◌, ◌<◌, ◌≤◌, List, [], ◌∷◌, ◌++◌, map, Option, Some, None, refl, sym, ap, ap₂, subst, ◌∙◌, inl, inr, arith, AllZip, range_with_len, cases_eq, cases_lt, map-range_with_len_more, all_zipped_more, HasNoneNear, IsOnlyNear, IsMended, all_mended_same, lost_words, mended_errors, wrong_bits, AreInFront, HasInFront, SlipsInFront, count_read_in_front, in_front_of, sent_at, Polarity}
use Rattle.pocsag_capture.proofs.CorrectedWords.{errors_more, few_mended, lost_more}

-- the first words in front, as AreInFront has them
pub record IsFrontSoFar (bits : List ℕ) (held : ℕ) (p : Polarity) (bit count errors : ℕ) : Type 0 where
  pub room : 0 < count → held + 32 * count ≤ bit
  pub mended : List (Option ℕ)
  pub each : AllZip IsMended (in_front_of bits p bit count) mended
  pub kept : lost_words mended ≡ 0
  pub wrong : errors ≡ mended_errors (in_front_of bits p bit count) mended
  pub few : errors ≤ 2 * count

pub front_none : (bits : List ℕ) (held : ℕ) (p : Polarity) (bit : ℕ) → IsFrontSoFar bits held p bit 0 0
front_none bits held p bit = record { room = λ some. absurd (omega (arith, some)); mended = []; each = tt; kept = refl; wrong = refl; few = omega arith }

pub front_one_more : (bits : List ℕ) (held : ℕ) (p : Polarity) (bit count errors next w v more : ℕ) → IsFrontSoFar bits held p bit count errors
    → held + 32 * (count + 1) ≤ bit → w ≡ sent_at bits p (bit - 32 * (count + 1)) → IsOnlyNear w v → more ≡ errors + wrong_bits w (Some v) → next ≡ count + 1
    → IsFrontSoFar bits held p bit next more
front_one_more bits held p bit count errors next w v more f room is near added step =
    let front : ℕ → ℕ = λ j. sent_at bits p (bit - 32 * j) in
    let words : in_front_of bits p bit (count + 1) ≡ in_front_of bits p bit count ++ w ∷ [] =
    map-range_with_len_more front 1 count (count + 1) (omega arith) ∙ ap (λ (u : ℕ). in_front_of bits p bit count ++ u ∷ []) (sym is) in
    let each : AllZip IsMended (in_front_of bits p bit (count + 1)) (f.mended ++ Some v ∷ []) =
    subst (λ (l : List ℕ). AllZip IsMended l (f.mended ++ Some v ∷ [])) (sym words)
    (all_zipped_more IsMended (in_front_of bits p bit count) f.mended w (Some v) f.each near) in
    let wrong : errors + wrong_bits w (Some v) ≡ mended_errors (in_front_of bits p bit (count + 1)) (f.mended ++ Some v ∷ []) =
    ap (λ (n : ℕ). n + wrong_bits w (Some v)) f.wrong ∙ sym (errors_more (in_front_of bits p bit count) f.mended w (Some v) f.each)
    ∙ ap (λ (l : List ℕ). mended_errors l (f.mended ++ Some v ∷ [])) (sym words) in
    let all : IsFrontSoFar bits held p bit (count + 1) (errors + wrong_bits w (Some v)) = record {
      room = λ some. room;
      mended = f.mended ++ Some v ∷ [];
      each = each;
      kept = omega (arith, f.kept, lost_more f.mended (Some v));
      wrong = wrong;
      few = omega (arith, f.few, few_mended w (Some v) near);
    } in
    subst (λ (n : ℕ). IsFrontSoFar bits held p bit n more) (sym step) (subst (IsFrontSoFar bits held p bit (count + 1)) (sym added) all)

-- ---- one number of words

pub none_past_repair : (g : ℕ → ℕ) (a n : ℕ) (ms : List (Option ℕ)) → AllZip IsMended (map g (range_with_len a n)) ms → lost_words ms ≡ 0 → (j : ℕ) → a ≤ j
    → j < a + n → ¬ HasNoneNear (g j)
none_past_repair g a zero ms each kept j low high = absurd (omega arith)
none_past_repair g a (suc n) [] each kept j low high = absurd each
none_past_repair g a (suc n) (None ∷ ms) each kept j low high = absurd (omega (arith, kept))
none_past_repair g a (suc n) (Some v ∷ ms) each kept j low high =
    elim (cases_eq j a) [
      | inl same ↦ λ far. (subst (λ (i : ℕ). HasNoneNear (g i)) same far) v each.0.codeword each.0.near
      | inr other ↦ none_past_repair g (a + 1) n ms each.1 kept j (omega arith) (omega arith)
    ]

no_further_in_front : (bits : List ℕ) (held : ℕ) (p : Polarity) (bit m n d e : ℕ) → AreInFront bits held p bit m d → AreInFront bits held p bit n e → n ≤ m
no_further_in_front bits held p bit m n d e f g =
    elim (cases_lt m n) [
      | inl less ↦
          absurd (elim f.ends [
            | inl all ↦ omega (arith, all, less, g.most)
            | inr stops ↦
                elim stops [
                  | inl over ↦ omega (arith, over, less, g.room (omega arith))
                  | inr far ↦ none_past_repair (λ j. sent_at bits p (bit - 32 * j)) 1 n g.mended g.each g.kept (m + 1) (omega arith) (omega arith) far
                ]
          ])
      | inr more ↦ more
    ]

pub same_in_front : (bits : List ℕ) (held : ℕ) (p : Polarity) (bit m n : ℕ) → HasInFront bits held p bit m → HasInFront bits held p bit n → m ≡ n
same_in_front bits held p bit m n f g =
    let most = no_further_in_front bits held p bit f.count g.count f.errors g.errors f.are g.are in
    let least = no_further_in_front bits held p bit g.count f.count g.errors f.errors g.are f.are in
    let count : f.count ≡ g.count = omega arith in
    let other : AreInFront bits held p bit f.count g.errors = subst (λ (k : ℕ). AreInFront bits held p bit k g.errors) (sym count) g.are in
    let mended : f.are.mended ≡ other.mended = all_mended_same (in_front_of bits p bit f.count) f.are.mended other.mended f.are.each other.each in
    let errors : f.errors ≡ g.errors = f.are.wrong ∙ ap (mended_errors (in_front_of bits p bit f.count)) mended ∙ sym other.wrong in
    elim (cases_eq m n) [
      | inl same ↦ same
      | inr other ↦
          let here = λ (k : ℕ). SlipsInFront bits p bit k in
          let steady : ¬ SlipsInFront bits p bit f.count = λ slips. other (f.slipped slips ∙ sym (g.slipped (subst here count slips))) in
          absurd (other (f.reads steady ∙ ap₂ count_read_in_front count errors ∙ sym (g.reads (λ slips. steady (subst here (sym count) slips)))))
    ]
