use Rattle.pocsag_pages.proofs.Prelude.{◌≡◌, ℕ, zero, suc, ◌<◌, List, [], ◌∷◌, length, sym, arith, Option, Some, None, IsSome, option_map, fields_of, field_at}
use Rattle.std.specs.Borrow.{Bor}
use Rattle.pocsag_pages.proofs.record.three_fields.Goals as goal

has_field : (rows : List (List ℕ)) (i : ℕ) → i < length rows → field_at rows i ≡ None → ⊥
unfolding field_at
has_field [] i h e = absurd (omega arith)
has_field (f ∷ rows) zero h e = cc
has_field (f ∷ rows) (suc i) h e = has_field rows i (omega arith) e

three_are : (rows : List (List ℕ)) (a b c : List ℕ) → length rows ≡ 3 → Some a ≡ field_at rows 0 → Some b ≡ field_at rows 1 →
    Some c ≡ field_at rows 2 → rows ≡ a ∷ b ∷ c ∷ []
unfolding field_at
three_are [] a b c n x y z = absurd (omega arith)
three_are (f ∷ []) a b c n x y z = absurd (omega arith)
three_are (f ∷ g ∷ []) a b c n x y z = absurd (omega arith)
three_are (f ∷ g ∷ h ∷ []) a b c n x y z = cc
three_are (f ∷ g ∷ h ∷ k ∷ rows) a b c n x y z = absurd (omega arith)

is_there : (rows : List (List ℕ)) (i : ℕ) (field : Option (Bor (List ℕ))) → i < length rows →
    option_map (λ f. f.now) field ≡ field_at rows i → IsSome field
is_there rows i None h e = absurd (has_field rows i h (sym e))
is_there rows i (Some f) h e = cc

pub unwrap-requires : goal.unwrap-requires
unwrap-requires c = is_there (fields_of c.args.row.now) 0 _ (omega arith) c.get.ensures.value

pub unwrap-requires-2 : goal.unwrap-requires-2
unwrap-requires-2 c = is_there (fields_of c.args.row.now) 1 _ (omega arith) c.get-2.ensures.value

pub unwrap-requires-3 : goal.unwrap-requires-3
unwrap-requires-3 c = is_there (fields_of c.args.row.now) 2 _ (omega arith) c.get-3.ensures.value

pub returns-clause-some : goal.returns-clause-some
returns-clause-some c =
    three_are (fields_of c.args.row.now) _ _ _ (omega arith) (rw c.unwrap.ensures at c.get.ensures.value)
    (rw c.unwrap-2.ensures at c.get-2.ensures.value) (rw c.unwrap-3.ensures at c.get-3.ensures.value)
