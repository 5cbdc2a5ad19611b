-- Words near the synchronisation codeword begin only where the tables have an entry.
use Rattle.pocsag_capture.proofs.Prelude.{◌≡◌, ℕ, zero, suc, ◌+◌, ◌-◌, ◌/◌, ◌%◌, ◌^◌, ◌<◌, Bool, true, not, nat_lt, nat_eq, ◌&&◌, slice_index, bit_and, bit_xor, subst, refl, ap, ◌∙◌, inl, inr, arith, lit<, nat_tests, and_parts, cases_lt, xor_comm, xor_lt, IsNear, xor_cancel, sync_word, as_sent, Polarity, Upright, Inverted}
use Rattle.pocsag_words.proofs.Sparse.{all_sparse, sparse}
use Rattle.pocsag_capture.proofs.SentBits.{sent_fits, sent_twice}
use Rattle.pocsag_capture.specs.declared.sync_table.TheConstants.{FOURTH, SECOND, THIRD}

-- the set that the tables have for three bytes
abbrev pub set_of : (second third fourth : ℕ) → ℕ
set_of x y z = bit_and (bit_and (slice_index SECOND x) (slice_index THIRD y)) (slice_index FOURTH z)

-- the same for the bytes of a word that begins at a bit of its first byte
abbrev set_at : (bit word : ℕ) → ℕ
set_at b w = set_of (w / 2 ^ (16 + b) % 256) (w / 2 ^ (8 + b) % 256) (w / 2 ^ b % 256)

-- the sets of a word with this error, at each bit below one, are not empty
abbrev has_all : (polarity : Polarity) (below error : ℕ) → Bool
has_all p zero e = true
has_all p (suc b) e = nat_lt 0 (set_at b (as_sent p (bit_xor sync_word e))) && has_all p b e

upright_all : all_sparse 32 2 (has_all Upright 8) ≡ true
upright_all = refl

inverted_all : all_sparse 32 2 (has_all Inverted 8) ≡ true
inverted_all = refl

all_of : (p : Polarity) → all_sparse 32 2 (has_all p 8) ≡ true
all_of Upright = upright_all
all_of Inverted = inverted_all

one_of : (p : Polarity) (n b e : ℕ) → b < n → has_all p n e ≡ true → nat_lt 0 (set_at b (as_sent p (bit_xor sync_word e))) ≡ true
one_of p zero b e below all = absurd (omega arith)
one_of p (suc n) b e below all =
    let parts = and_parts (nat_lt 0 (set_at n (as_sent p (bit_xor sync_word e)))) (has_all p n e) all in
    elim (cases_lt b n) [
      | inl less ↦ one_of p n b e less parts.1
      | inr more ↦
          let same : n ≡ b = omega arith in
          subst (λ (k : ℕ). nat_lt 0 (set_at k (as_sent p (bit_xor sync_word e))) ≡ true) same parts.0
    ]

xor_twice : (a b : ℕ) → bit_xor a (bit_xor a b) ≡ b
xor_twice a b = xor_comm a (bit_xor a b) ∙ ap (λ (n : ℕ). bit_xor n a) (xor_comm a b) ∙ xor_cancel b a

near_set : (p : Polarity) (b w : ℕ) → b < 8 → w < 2 ^ 32 → IsNear sync_word (as_sent p w) → nat_lt 0 (set_at b w) ≡ true
near_set p b w below small near =
    let e = bit_xor sync_word (as_sent p w) in
    let all = sparse 32 2 (has_all p 8) (all_of p) e (xor_lt 32 sync_word (as_sent p w) (lit< tt) (sent_fits p w small)) near in
    let word : as_sent p (bit_xor sync_word e) ≡ w = ap (as_sent p) (xor_twice sync_word (as_sent p w)) ∙ sent_twice p w small in
    subst (λ (n : ℕ). nat_lt 0 (set_at b n) ≡ true) word (one_of p 8 b e below all)

-- the bytes of a window that lie in each of its words
bytes_at : (b window x y z : ℕ) → x ≡ window / 16777216 % 256 → y ≡ window / 65536 % 256 → z ≡ window / 256 % 256 →
    window / 2 ^ (8 - b) % 2 ^ 32 / 2 ^ (16 + b) % 256 ≡ x → window / 2 ^ (8 - b) % 2 ^ 32 / 2 ^ (8 + b) % 256 ≡ y →
    window / 2 ^ (8 - b) % 2 ^ 32 / 2 ^ b % 256 ≡ z → set_at b (window / 2 ^ (8 - b) % 2 ^ 32) ≡ set_of x y z
bytes_at b window x y z ex ey ez second third fourth = rw (second, third, fourth) refl

same_set : (b window x y z : ℕ) → b < 8 → x ≡ window / 16777216 % 256 → y ≡ window / 65536 % 256 → z ≡ window / 256 % 256 →
    set_at b (window / 2 ^ (8 - b) % 2 ^ 32) ≡ set_of x y z
same_set zero window x y z below ex ey ez = bytes_at 0 window x y z ex ey ez (omega arith) (omega arith) (omega arith)
same_set (suc zero) window x y z below ex ey ez = bytes_at 1 window x y z ex ey ez (omega arith) (omega arith) (omega arith)
same_set (suc (suc zero)) window x y z below ex ey ez = bytes_at 2 window x y z ex ey ez (omega arith) (omega arith) (omega arith)
same_set (suc (suc (suc zero))) window x y z below ex ey ez = bytes_at 3 window x y z ex ey ez (omega arith) (omega arith) (omega arith)
same_set (suc (suc (suc (suc zero)))) window x y z below ex ey ez = bytes_at 4 window x y z ex ey ez (omega arith) (omega arith) (omega arith)
same_set (suc (suc (suc (suc (suc zero))))) window x y z below ex ey ez = bytes_at 5 window x y z ex ey ez (omega arith) (omega arith) (omega arith)
same_set (suc (suc (suc (suc (suc (suc zero)))))) window x y z below ex ey ez = bytes_at 6 window x y z ex ey ez (omega arith) (omega arith) (omega arith)
same_set (suc (suc (suc (suc (suc (suc (suc zero))))))) window x y z below ex ey ez = bytes_at 7 window x y z ex ey ez (omega arith) (omega arith) (omega arith)
same_set (suc (suc (suc (suc (suc (suc (suc (suc b)))))))) window x y z below ex ey ez = absurd (omega arith)

-- where some word of a window is near, the tables have a set for the window that is not empty
pub window_set : (p : Polarity) (b window x y z : ℕ) → b < 8 → IsNear sync_word (as_sent p (window / 2 ^ (8 - b) % 2 ^ 32)) →
    x ≡ window / 16777216 % 256 → y ≡ window / 65536 % 256 → z ≡ window / 256 % 256 → nat_lt 0 (set_of x y z) ≡ true
window_set p b window x y z below near ex ey ez =
    subst (λ (n : ℕ). nat_lt 0 n ≡ true) (same_set b window x y z below ex ey ez)
    (near_set p b (window / 2 ^ (8 - b) % 2 ^ 32) below (omega arith) near)

pub not_empty : (s n : ℕ) → n ≡ s → nat_lt 0 s ≡ true → not (nat_eq n 0) ≡ true
not_empty s n e some = grind (arith, nat_tests)
