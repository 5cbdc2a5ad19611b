-- Each word is mended in just one way.
use Rattle.pocsag_pager.proofs.Prelude.{◌≡◌, ℕ, ◌^◌, ◌<◌, ◌⊎◌, List, [], ◌∷◌, refl, sym, ap, ap₂, inl, inr, Option, Some, None, AllZip, IsCodeword, IsNear, Kind, IsMended, said, IsHeardAs, IsOnlyNear, HasNoneNear}

pub mended_same : (w : ℕ) (m n : Option ℕ) → IsMended w m → IsMended w n → m ≡ n
mended_same w None None is also = refl
mended_same w None (Some v) is also = absurd (is v also.codeword also.near)
mended_same w (Some v) None is also = absurd (also v is.codeword is.near)
mended_same w (Some v) (Some u) is also = ap Some (also.only v is.codeword is.near)

pub all_mended_same : (ws : List ℕ) (ms ns : List (Option ℕ)) → AllZip IsMended ws ms → AllZip IsMended ws ns → ms ≡ ns
all_mended_same [] [] [] is also = refl
all_mended_same [] [] (n ∷ ns) is also = absurd also
all_mended_same [] (m ∷ ms) ns is also = absurd is
all_mended_same (w ∷ ws) [] ns is also = absurd is
all_mended_same (w ∷ ws) (m ∷ ms) [] is also = absurd also
all_mended_same (w ∷ ws) (m ∷ ms) (n ∷ ns) is also = ap₂ ◌∷◌ (mended_same w m n is.0 also.0) (all_mended_same ws ms ns is.1 also.1)

-- a word with at most two wrong bits is mended to the codeword
pub mended_back : (t y : ℕ) (m : Option ℕ) → IsCodeword t → IsNear t y → IsMended y m → m ≡ Some t
mended_back t y None is near none = absurd (none t is near)
mended_back t y (Some v) is near only = ap Some (sym (only.only t is near))

-- some kind is heard at each word
pub record HeardAt (w : ℕ) : Type 0 where
  pub kind : Option Kind
  pub heard : IsHeardAs w kind

-- that each number has a repair, by the law of that name
abbrev pub AreRepaired : Type 0
AreRepaired = (n : ℕ) → n < 2 ^ 32 → HasNoneNear n ⊎ ((v : ℕ) × IsOnlyNear n v)

pub heard_at : AreRepaired → (w : ℕ) → w < 2 ^ 32 → HeardAt w
heard_at law w small =
    elim (law w small) [
      | inl none ↦ record { kind = None; heard = record { mended = None; is_mended = none; is = refl } }
      | inr only ↦ record { kind = said (Some only.0); heard = record { mended = Some only.0; is_mended = only.1; is = refl } }
    ]
