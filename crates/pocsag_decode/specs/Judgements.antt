-- Words that are judged one after the other.
use Rattle.std.specs.Prelude.{◌≡◌, ℕ, ◌+◌, Bool, List, ◌++◌, length, Result, MatchResult}
use Rattle.pocsag_decode.specs.declared.fault.DecodeFault.{DecodeFault}
use Rattle.pocsag_decode.specs.Places.{AllMayStand, HasBadWord, may_follow}

-- These words, so many, are none of them bad, and this is whether a message codeword may follow.
pub record AreFine (place : ℕ) (in_page : Bool) (ws : List ℕ) : Type 0 where
  pub count : place ≡ length ws
  pub good : AllMayStand ws
  pub follows : in_page ≡ may_follow ws (length ws)

-- Where the call answers, the words with these behind them are fine; where it does not, the least bad one among them is bad
-- in this way.
abbrev pub JudgesMore : Result Bool DecodeFault → (place : ℕ) → (in_page : Bool) → List ℕ → Type 0
JudgesMore result place in_page more =
    (ws : List ℕ) → AreFine place in_page ws
    → MatchResult result (λ now. AreFine (place + length more) now (ws ++ more)) (λ f. HasBadWord (ws ++ more) f)
