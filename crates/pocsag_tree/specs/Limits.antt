-- The limits of certificates (this project's own).
use Rattle.std.specs.Prelude.{ℕ, ◌-◌, ◌^◌}
use Rattle.pocsag_tree.specs.declared.limits.Ranges.{Ranges}

-- How deep a tree may be; the root alone has depth 1.
abbrev pub greatest_depth : ℕ
greatest_depth = 300

-- How many nodes a certificate may have, `Open` nodes counted.
abbrev pub most_nodes : ℕ
most_nodes = 1000000

-- The greatest set of 16 members, as a number, and the greatest number of batches.
abbrev pub greatest_set : ℕ
greatest_set = 2 ^ 16 - 1

abbrev pub most_batches : ℕ
most_batches = 2 ^ 32 - 1

-- The greatest class, number m of a `Split`, number of children of a `Cut`, and tag, in version PCB1 and in
-- versions PCB2 and PCB4.
abbrev pub first_ranges : Ranges
first_ranges = record { class = 127; m = 2000; children = 272; tag = 3 }

abbrev pub second_ranges : Ranges
second_ranges = record { class = 135; m = 20000; children = 288; tag = 4 }
