-- Sums and lists over the numbers below a number, and sets as numbers.
use Rattle.std.specs.Prelude.{◌≡◌, ◌≢◌, ℕ, zero, suc, ◌+◌, ◌/◌, ◌%◌, ◌^◌, ◌<◌, ◌≤◌, ◌==◌, Bool, true, false, cond, List, [], ◌++◌}
use Rattle.pocsag_slots.specs.Classes.{slot_count}

-- f 0 + .. + f (n - 1)
unfoldable pub sum_below : ℕ → (ℕ → ℕ) → ℕ
sum_below zero f = 0
sum_below (suc n) f = sum_below n f + f n

-- f 0, and then .. , and then f (n - 1)
unfoldable pub joined_below : {X : Type 0} → ℕ → (ℕ → List X) → List X
joined_below zero f = []
joined_below (suc n) f = joined_below n f ++ f n

-- Whether a set, of slots or of boundaries, has a member: bit i of the number stands for member i.
unfoldable pub holds : ℕ → ℕ → Bool
holds set i = set / 2 ^ i % 2 == 1

-- A set of slots or of boundaries that has a member.
abbrev pub IsSet : ℕ → Type 0
IsSet set = (1 ≤ set) × (set < 2 ^ 16)

-- The larger set is the set with one member more.
pub record AddsMember (set member larger : ℕ) : Type 0 where
  pub held : holds larger member ≡ true
  pub others : (i : ℕ) → i ≢ member → holds larger i ≡ holds set i
  pub alone : set ≡ 0 → (i : ℕ) → i ≢ member → holds larger i ≡ false
  pub grows : holds set member ≡ false → set < larger
  pub small : set < 2 ^ 16 → larger < 2 ^ 16

-- Each set can take each member.
abbrev pub SetsTakeMembers : Type 0
SetsTakeMembers = (set member : ℕ) → member < slot_count → (larger : ℕ) × AddsMember set member larger

-- The sum over the members of a set of slots.
unfoldable pub sum_over : ℕ → (ℕ → ℕ) → ℕ
sum_over set f = sum_below slot_count (λ slot. cond (holds set slot) (f slot) 0)
