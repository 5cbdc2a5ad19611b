-- Which words of a run are past repair.
use Rattle.pocsag_capture.proofs.Prelude.{◌≡◌, ℕ, ◌+◌, ◌-◌, ◌*◌, ◌^◌, ◌<◌, ◌≤◌, Bool, true, false, List, [], ◌∷◌, ◌++◌, map, Option, Some, None, not, refl, sym, ap, subst, ◌∙◌, inl, inr, arith, AllZip, range_with_len, map-range_with_len_more, HasNoneNear, numbers_are_repaired_lem, IsMended, all_mended_same, lost_words, HasFewLost, sent_at, is_lost, Run, all_zipped_more}
use Rattle.std.proofs.Common.{IsTrue}
use Rattle.pocsag_capture.proofs.CorrectedWords.{lost_more}

pub not_false : (b : Bool) → not b ≡ false → IsTrue b
not_false true e = refl
not_false false e = absurd (cc e)

-- the word at a place behind the first synchronisation codeword of a run
abbrev pub run_word : (bits : List ℕ) → Run → ℕ → ℕ
run_word bits u j = sent_at bits u.polarity (u.bit + 32 * j)

-- of the first words so many are past repair
pub record IsCounting (bits : List ℕ) (u : Run) (n lost : ℕ) : Type 0 where
  pub mended : List (Option ℕ)
  pub each : AllZip IsMended (map (run_word bits u) (range_with_len 1 n)) mended
  pub count : lost ≡ lost_words mended

counting_more : (bits : List ℕ) (u : Run) (n k lost w : ℕ) (m : Option ℕ) → k ≡ n + 1 → w ≡ run_word bits u k → IsMended w m
    → IsCounting bits u n lost → IsCounting bits u k (lost + is_lost m)
counting_more bits u n k lost w m next is mended f =
    let more : map (run_word bits u) (range_with_len 1 (n + 1)) ≡ map (run_word bits u) (range_with_len 1 n) ++ run_word bits u k ∷ [] =
    map-range_with_len_more (run_word bits u) 1 n k (omega arith) in
    record {
      mended = f.mended ++ m ∷ [];
      each = subst (λ (l : List ℕ). AllZip IsMended l (f.mended ++ m ∷ []))
          (sym more ∙ ap (λ (q : ℕ). map (run_word bits u) (range_with_len 1 q)) (sym next))
          (all_zipped_more IsMended (map (run_word bits u) (range_with_len 1 n)) f.mended (run_word bits u k) m f.each
          (subst (λ (v : ℕ). IsMended v m) is mended));
      count = ap (λ (q : ℕ). q + is_lost m) f.count ∙ sym (lost_more f.mended m);
    }

pub counting_lost : (bits : List ℕ) (u : Run) (k lost w : ℕ) → 0 < k → w ≡ run_word bits u k → HasNoneNear w → IsCounting bits u (k - 1) lost
    → IsCounting bits u (k + 1 - 1) (lost + 1)
counting_lost bits u k lost w some is far f =
    let e : k ≡ k + 1 - 1 = omega arith in
    subst (λ (n : ℕ). IsCounting bits u n (lost + 1)) e (counting_more bits u (k - 1) k lost w None (omega arith) is far f)

pub counting_kept : (bits : List ℕ) (u : Run) (k lost w : ℕ) → 0 < k → w < 2 ^ 32 → w ≡ run_word bits u k → (¬ HasNoneNear w)
    → IsCounting bits u (k - 1) lost → IsCounting bits u (k + 1 - 1) lost
counting_kept bits u k lost w some small is near f =
    let e : k ≡ k + 1 - 1 = omega arith in
    let zero : lost + 0 ≡ lost = omega arith in
    elim (numbers_are_repaired_lem w small) [
      | inl far ↦ absurd (near far)
      | inr only ↦
          subst (λ (n : ℕ). IsCounting bits u n lost) e
          (subst (λ (n : ℕ). IsCounting bits u k n) zero (counting_more bits u (k - 1) k lost w (Some only.0) (omega arith) is only.1 f))
    ]

pub few_counted : (bits : List ℕ) (u : Run) (lost : ℕ) → IsCounting bits u 16 lost → (lost ≤ 5 → HasFewLost bits u) × (HasFewLost bits u → lost ≤ 5)
few_counted bits u lost f = (
  λ few. record { mended = f.mended; each = f.each; few = omega (arith, f.count) },
  λ h.
      let same : f.mended ≡ h.mended = all_mended_same (map (run_word bits u) (range_with_len 1 16)) f.mended h.mended f.each h.each in
      omega (arith, f.count, ap lost_words same, h.few),
)
