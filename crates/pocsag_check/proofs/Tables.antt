-- A round has one class table for an end.
use Rattle.pocsag_check.proofs.Prelude.{◌≡◌, ℕ, ◌<◌, List, sym, ap, subst, ◌∙◌, End, Page, Classes, AreClassesOf, ext_get_or}
use Rattle.std.proofs.Math.Bridge.{le_prop}
use Rattle.std.proofs.Math.Nat.{ℕ_set}
use Rattle.pocsag_slots.specs.Tables.{AreTables}

tables_prop : (count turns : List ℕ) → IsProp (AreTables count turns)
tables_prop count turns = hlevel (ℕ_set, le_prop)

same_tables : (k : Classes) (count turns : List ℕ) (tables : AreTables count turns) → k.count ≡ count → k.turns ≡ turns →
    k ≡ record { count = count; turns = turns; tables = tables }
same_tables k count turns tables e f =
    subst (λ (c : List ℕ). (t : AreTables c turns) → k ≡ record { count = c; turns = turns; tables = t }) e
    (subst (λ (d : List ℕ). (t : AreTables k.count d) → k ≡ record { count = k.count; turns = d; tables = t }) f
    (λ t. ap (λ (s : AreTables k.count k.turns). let r : Classes = record { count = k.count; turns = k.turns; tables = s } in r)
    (tables_prop k.count k.turns k.tables t)))
    tables

pub one_table : (k j : Classes) (end : End) (R : List Page) → AreClassesOf k end R → AreClassesOf j end R → k ≡ j
one_table k j end R a b =
    same_tables k j.count j.turns j.tables
    (ext_get_or 0 k.count j.count (k.tables.counts ∙ sym j.tables.counts)
    (λ i h. let small : i < 136 = subst (λ (n : ℕ). i < n) k.tables.counts h in a.count i small ∙ sym (b.count i small)))
    (ext_get_or 0 k.turns j.turns (k.tables.totals ∙ sym j.tables.totals)
    (λ i h. let small : i < 136 = subst (λ (n : ℕ). i < n) k.tables.totals h in a.turns i small ∙ sym (b.turns i small)))
