-- The search for a synchronisation codeword, bit by bit or eight bits at once.
use Rattle.pocsag_capture.proofs.Prelude.{◌≡◌, ℕ, ◌+◌, ◌-◌, ◌*◌, ◌/◌, ◌%◌, ◌^◌, ◌<◌, ◌≤◌, List, [], ◌∷◌, ◌++◌, append_assoc, length, Option, Some, refl, sym, ap, subst, ◌∙◌, inl, inr, arith, cases_lt, append-nil, IsNear, sync_word, as_sent, capture_bits, word_on, AreFound, AreReceptions, HasInFront, IsOnAir, IsBridged, IsInStep, IsQuiet, IsReception, IsSyncRun, IsSynchronised, behind, counted, held_end, last_sync, nothing, passed, BeginsRun, Steps, HasOtherSync, IsBeforeIdle, Polarity, Reception, Run}
use Rattle.pocsag_capture.proofs.Windows.{bits_long}

-- more bits
pub quiet_more : (bits : List ℕ) (first bit next : ℕ) → IsQuiet bits first bit → IsQuiet bits bit next → IsQuiet bits first next
quiet_more bits first bit next before here = λ k low high polarity.
    elim (cases_lt k bit) [
      | inl less ↦ before k low less polarity
      | inr more ↦ here k more high polarity
    ]

-- a word that is known to be near in neither polarity, or in none but one
abbrev Answers : Option Polarity → ℕ → Type 0
Answers found word = (polarity : Polarity) → IsNear sync_word (as_sent polarity word) → found ≡ Some polarity

pub quiet_eight : (bytes : List ℕ) (at bit window : ℕ) → bit ≡ 8 * at →
    ((k : ℕ) → k < 8 → 8 * at + k + 32 ≤ 8 * length bytes → word_on (capture_bits bytes) (8 * at + k) ≡ window / 2 ^ (8 - k) % 2 ^ 32) →
    ((k : ℕ) (polarity : Polarity) → k < 8 → ¬ IsNear sync_word (as_sent polarity (window / 2 ^ (8 - k) % 2 ^ 32))) →
    IsQuiet (capture_bits bytes) bit (bit + 8)
quiet_eight bytes at bit window is words none = λ k low high polarity synchronised.
    let within : k + 32 ≤ 8 * length bytes = subst (λ (n : ℕ). k + 32 ≤ n) (bits_long bytes) synchronised.within in
    let same : k ≡ 8 * at + (k - bit) = omega arith in
    let here : word_on (capture_bits bytes) k ≡ window / 2 ^ (8 - (k - bit)) % 2 ^ 32 =
    ap (word_on (capture_bits bytes)) same ∙ words (k - bit) (omega arith) (omega arith) in
    none (k - bit) polarity (omega arith) (subst (λ (n : ℕ). IsNear sync_word (as_sent polarity n)) here synchronised.near)

-- fewer than 32 bits are left
pub quiet_end : (bits : List ℕ) (bit last : ℕ) → length bits < bit + 32 → IsQuiet bits bit last
quiet_end bits bit last few = λ k low high polarity synchronised. absurd (omega (arith, synchronised.within))

pub synchronised_at : (bytes : List ℕ) (bit word : ℕ) (polarity : Polarity) → word ≡ word_on (capture_bits bytes) bit → bit + 32 ≤ 8 * length bytes
    → IsNear sync_word (as_sent polarity word) → IsSynchronised (capture_bits bytes) bit polarity
synchronised_at bytes bit word polarity is within near =
    record {
      within = omega (arith, bits_long bytes);
      near = subst (λ (n : ℕ). IsNear sync_word (as_sent polarity n)) is near;
    }

-- ---- synchronisation codewords in step

pub record IsChain (bits : List ℕ) (bit : ℕ) (polarity : Polarity) (n : ℕ) : Type 0 where
  pub each : (k : ℕ) → k < n → IsInStep bits (bit + 544 * k) polarity
  pub last : IsSynchronised bits (bit + 544 * (n - 1)) polarity

pub chain_first : (bits : List ℕ) (bit : ℕ) (polarity : Polarity) → IsSynchronised bits bit polarity → IsChain bits bit polarity 1
chain_first bits bit polarity there =
    let e : bit ≡ bit + 544 * (1 - 1) = omega arith in
    record {
      each = λ k below.
          let same : bit ≡ bit + 544 * k = omega arith in
          inl (subst (λ (n : ℕ). IsSynchronised bits n polarity) same there);
      last = subst (λ (n : ℕ). IsSynchronised bits n polarity) e there;
    }

chain_one : (bits : List ℕ) (bit n : ℕ) (polarity : Polarity) → 0 < n → IsChain bits bit polarity n
    → IsSynchronised bits (bit + 544 * (n - 1) + 544) polarity → IsChain bits bit polarity (n + 1)
chain_one bits bit n polarity some f there =
    let e : bit + 544 * (n - 1) + 544 ≡ bit + 544 * n = omega arith in
    let here : IsSynchronised bits (bit + 544 * n) polarity = subst (λ (q : ℕ). IsSynchronised bits q polarity) e there in
    let last : bit + 544 * n ≡ bit + 544 * (n + 1 - 1) = omega arith in
    record {
      each = λ k below.
          elim (cases_lt k n) [
            | inl less ↦ f.each k less
            | inr more ↦
                let same : bit + 544 * n ≡ bit + 544 * k = omega arith in
                inl (subst (λ (q : ℕ). IsSynchronised bits q polarity) same here)
          ];
      last = subst (λ (q : ℕ). IsSynchronised bits q polarity) last here;
    }

chain_two : (bits : List ℕ) (bit n : ℕ) (polarity : Polarity) → 0 < n → IsChain bits bit polarity n
    → IsBridged bits (bit + 544 * (n - 1)) polarity → IsChain bits bit polarity (n + 2)
chain_two bits bit n polarity some f over =
    let last : bit + 544 * (n - 1) + 2 * 544 ≡ bit + 544 * (n + 2 - 1) = omega arith in
    record {
      each = λ k below.
          elim (cases_lt k n) [
            | inl less ↦ f.each k less
            | inr more ↦
                elim (cases_lt n k) [
                  | inl later ↦
                      let same : bit + 544 * (n - 1) + 2 * 544 ≡ bit + 544 * k = omega arith in
                      inl (subst (λ (q : ℕ). IsSynchronised bits q polarity) same over.there)
                  | inr here ↦
                      let same : bit + 544 * (n - 1) ≡ bit + 544 * k - 544 = omega arith in
                      inr (subst (λ (q : ℕ). IsBridged bits q polarity) same over)
                ]
          ];
      last = subst (λ (q : ℕ). IsSynchronised bits q polarity) last over.there;
    }

pub chain_on : (bits : List ℕ) (bit n steps : ℕ) (polarity : Polarity) → 0 < n → 0 < steps → IsChain bits bit polarity n
    → Steps bits (bit + 544 * (n - 1)) polarity steps → IsChain bits bit polarity (n + steps)
chain_on bits bit n steps polarity some more f s =
    elim (cases_lt steps 2) [
      | inl less ↦
          let one : steps ≡ 1 = omega arith in
          subst (λ (m : ℕ). IsChain bits bit polarity (n + m)) (sym one) (chain_one bits bit n polarity some f (s.one one))
      | inr other ↦
          let two : steps ≡ 2 = omega (arith, s.most) in
          subst (λ (m : ℕ). IsChain bits bit polarity (n + m)) (sym two) (chain_two bits bit n polarity some f (s.two two))
    ]

pub chain_ends : (bits : List ℕ) (bit n : ℕ) (polarity : Polarity) → 0 < n → IsChain bits bit polarity n
    → Steps bits (bit + 544 * (n - 1)) polarity 0 → BeginsRun bits bit polarity (record { bit = bit; polarity = polarity; batches = n })
chain_ends bits bit n polarity some f s =
    let e : bit + 544 * (n - 1) + 544 ≡ bit + 544 * n = omega arith in
    let over = s.none refl in
    record {
      same_bit = refl;
      same_polarity = refl;
      some = some;
      each = f.each;
      last = f.last;
      none = λ there. over.0 (subst (λ (q : ℕ). IsSynchronised bits q polarity) (sym e) there);
      over = over.1;
    }

-- a run that the first synchronisation codeword begins
pub run_begins : (bits : List ℕ) (first bit : ℕ) (polarity : Polarity) (u : Run) → first ≤ bit → IsQuiet bits first bit
    → IsSynchronised bits bit polarity → BeginsRun bits bit polarity u → IsSyncRun bits first u
run_begins bits first bit polarity u later quiet there f = record {
  later = omega (arith, f.same_bit);
  quiet = subst (IsQuiet bits first) (sym f.same_bit) quiet;
  some = f.some;
  begins = subst (λ (p : Polarity). IsSynchronised bits u.bit p) (sym f.same_polarity)
      (subst (λ (n : ℕ). IsSynchronised bits n polarity) (sym f.same_bit) there);
  each = f.each;
  last = f.last;
  none = f.none;
  over = f.over;
}

-- ---- the receptions so far

abbrev pub SoFar : (bits : List ℕ) → (first held : ℕ) → List Reception → Type 0
SoFar bits first held found = (rest : List Reception) → AreFound bits first held rest → AreFound bits 0 0 (found ++ rest)

pub found_all : (bits : List ℕ) (first held : ℕ) (found : List Reception) → SoFar bits first held found → IsQuiet bits first (length bits)
    → AreReceptions bits found
found_all bits first held found so_far quiet = subst (AreFound bits 0 0) (append-nil found) (so_far [] (nothing quiet))

pub found_more : (bits : List ℕ) (first held : ℕ) (found now : List Reception) (u : Run) (r : Reception) → SoFar bits first held found
    → IsSyncRun bits first u → IsOnAir bits held u → IsReception bits u r → HasInFront bits held u.polarity u.bit r.words_in_front → now ≡ found ++ r ∷ []
    → SoFar bits (last_sync u + 1) (held_end u r) now
found_more bits first held found now u r before run counts is front pushed = λ rest more.
    let all = before (r ∷ rest) (counted u r rest run counts is front more) in
    subst (AreFound bits 0 0) (sym (append_assoc found (r ∷ []) rest) ∙ ap (λ (l : List Reception). l ++ rest) (sym pushed)) all

pub found_same : (bits : List ℕ) (first held : ℕ) (found : List Reception) (u : Run) → SoFar bits first held found → IsSyncRun bits first u
    → (¬ IsOnAir bits held u) → SoFar bits (last_sync u + 1) held found
found_same bits first held found u before run not = λ rest more. before rest (passed u rest run not more)

-- ---- another synchronisation codeword in the last batch

-- from the first bit on, before the last, one begins only before an idle codeword in step
abbrev pub IsAlone : (bits : List ℕ) → Reception → (first last : ℕ) → Type 0
IsAlone bits r first last =
    (bit : ℕ) → first ≤ bit → bit < last → (polarity : Polarity) → IsSynchronised bits bit polarity → IsBeforeIdle bits r bit

pub alone_more : (bits : List ℕ) (r : Reception) (first next bit : ℕ) → IsAlone bits r first next → IsQuiet bits next bit →
    IsBeforeIdle bits r bit → IsAlone bits r first (bit + 1)
alone_more bits r first next bit before quiet idle = λ k low high polarity there.
    elim (cases_lt k next) [
      | inl less ↦ before k low less polarity there
      | inr more ↦
          elim (cases_lt k bit) [
            | inl between ↦ absurd (quiet k more between polarity there)
            | inr here ↦ subst (IsBeforeIdle bits r) (omega arith) idle
          ]
    ]

pub alone_to : (bits : List ℕ) (r : Reception) (first next : ℕ) → IsAlone bits r first next → IsQuiet bits next (behind r + 32) →
    first ≡ behind r - 543 → HasOtherSync bits r → ⊥
alone_to bits r first next before quiet e other =
    elim (cases_lt other.bit next) [
      | inl less ↦ other.alone (before other.bit (omega (arith, e, other.first)) less other.polarity other.begins)
      | inr more ↦ quiet other.bit more other.last other.polarity other.begins
    ]
