-- Members of a set that takes one more.
use Rattle.pocsag_slots.proofs.Prelude.{◌≡◌, ◌≢◌, ◌∙◌, ℕ, ◌+◌, ◌*◌, ◌%◌, ◌^◌, ◌<◌, ◌≤◌, ◌==◌, true, false, ap, arith, inl, inr, bit_or, cases_eq, nat_tests, holds, w16, bit_and, or_lt, pow_pos, AddsMember, SetsTakeMembers}
use Rattle.std.proofs.lemmas.Nat.Bits.{bit_at_set_same, bit_at_set_other, bit_at-zero, and_pow, bit_at-lt}
use Rattle.std.proofs.Math.Pow.{pow-lt}
use Rattle.std.specs.Int.{bit_at}
use Rattle.std.specs.Int.Bits.{or_add_and}

holds_here : (set member : ℕ) → member < 16 → holds (bit_or set (1 * 2 ^ member % 65536)) member ≡ true
unfolding holds
holds_here set member h = ap (λ (n : ℕ). n == 1) (bit_at_set_same w16 set member h)

holds_other : (set member other : ℕ) → member < 16 → other ≢ member → holds (bit_or set (1 * 2 ^ member % 65536)) other ≡ holds set other
unfolding holds
holds_other set member other h ne = ap (λ (n : ℕ). n == 1) (bit_at_set_other w16 set member h other ne)

pub holds_none : (member : ℕ) → holds 0 member ≡ false
unfolding holds
holds_none member = ap (λ (n : ℕ). n == 1) (bit_at-zero member)

no_bit : (b : ℕ) → b < 2 → (b == 1) ≡ false → b ≡ 0
no_bit b h e = grind (arith, nat_tests)

bit_of : (member : ℕ) → member < 16 → 1 * 2 ^ member % 65536 ≡ 2 ^ member
bit_of member h = let low : 2 ^ member < 2 ^ 16 = pow-lt h in omega arith

holds_more : (set member : ℕ) → member < 16 → holds set member ≡ false → set < bit_or set (1 * 2 ^ member % 65536)
unfolding holds
holds_more set member h e =
    let none : bit_at set member ≡ 0 = no_bit (bit_at set member) (bit_at-lt set member) e in
    let sum : bit_or set (2 ^ member) + bit_and set (2 ^ member) ≡ set + 2 ^ member = or_add_and set (2 ^ member) in
    let both : bit_and set (2 ^ member) ≡ 0 * 2 ^ member = rw none at (and_pow set member) in
    rw (bit_of member h) (omega (arith, pow_pos member))

pub adds_member : (set member : ℕ) → member < 16 → AddsMember set member (bit_or set (1 * 2 ^ member % 65536))
adds_member set member h =
    record {
      held = holds_here set member h;
      others = λ i ne. holds_other set member i h ne;
      alone = λ none i ne. holds_other set member i h ne ∙ (ap (λ (s : ℕ). holds s i) none ∙ holds_none i);
      grows = holds_more set member h;
      small = λ low. or_lt 16 set (1 * 2 ^ member % 65536) low (omega arith);
    }

-- a set with a member is not empty
pub held_some : (set member : ℕ) → holds set member ≡ true → 1 ≤ set
held_some set member held =
    elim (cases_eq set 0) [
      | inl none ↦ absurd (let out : holds set member ≡ false = ap (λ (s : ℕ). holds s member) none ∙ holds_none member in cc)
      | inr some ↦ omega arith
    ]

pub set_taking : SetsTakeMembers
set_taking set member h = (bit_or set (1 * 2 ^ member % 65536), adds_member set member h)
