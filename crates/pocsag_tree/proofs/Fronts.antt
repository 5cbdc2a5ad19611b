-- All but the last bytes of a list.
use Rattle.pocsag_tree.proofs.Prelude.{◌≡◌, ℕ, suc, ◌-◌, ◌≤◌, List, [], ◌∷◌, length, refl, arith, but_last, take_all}

pub but_last_cons : (k b : ℕ) (bytes : List ℕ) → k ≤ length bytes → but_last k (b ∷ bytes) ≡ b ∷ but_last k bytes
unfolding but_last
but_last_cons k b bytes le = let more : suc (length bytes) - k ≡ suc (length bytes - k) = omega arith in rw more refl

pub but_last_all : (k : ℕ) (bytes : List ℕ) → k ≡ length bytes → but_last k bytes ≡ []
unfolding but_last
but_last_all k bytes is = let nothing : length bytes - k ≡ 0 = omega arith in rw nothing refl

pub but_last_none : (bytes : List ℕ) → but_last 0 bytes ≡ bytes
unfolding but_last
but_last_none bytes = let whole : length bytes - 0 ≡ length bytes = omega arith in rw whole (take_all (length bytes) bytes (omega arith))
