-- *Rules of nodes*: what a node states under its limits, and whether its own rule holds, whatever lies below it.
use Rattle.std.specs.Prelude.{ℕ, ◌^◌, ◌&&◌, ◌||◌, ◌==◌, nat_lt, leb, Bool, true, false, cond, List, [], ◌∷◌, length, map, slice_index}
use Rattle.std.specs.List.{range_with_len}
use Rattle.pocsag_words.specs.declared.ending.End.{End}
use Rattle.pocsag_words.specs.declared.ending.End.TheVariants as ends
use Rattle.pocsag_slots.specs.declared.class.Classes.{Classes}
use Rattle.pocsag_slots.specs.declared.limit.Limits.{Limits}
use Rattle.pocsag_slots.specs.Loads.{least_of_class}
use Rattle.pocsag_slots.specs.Classes.{class_count, slot_count}
use Rattle.pocsag_slots.specs.Sums.{holds, joined_below, sum_below, sum_over}
use Rattle.pocsag_slots.specs.Ways.{class_certain, ways_across, ways_to_close}
use Rattle.pocsag_tree.specs.BoundTrees.{BoundTree, overload, split, cut, close, unexamined, children_count}
use Rattle.pocsag_tree.specs.Limits.{greatest_set}
use Rattle.pocsag_findings.specs.declared.finding.Column.{Column}
use Rattle.pocsag_findings.specs.declared.finding.Fact.{Fact}
use Rattle.pocsag_findings.specs.declared.finding.Fact.TheVariants.{Overload, Split, Cut, Close, Open, Unjudged}
use Rattle.pocsag_findings.specs.declared.finding.Narrowed.{Narrowed}
use Rattle.pocsag_findings.specs.declared.finding.Share.{Share}

-- The room of a set of slots: how often pages may cover its slots, added up.
abbrev pub room_of : Limits → ℕ → ℕ
room_of l set = sum_over set (slice_index l.cap)

-- The least load of a set of slots: its least load by each class, added up.
abbrev pub least_of_set : Classes → Limits → ℕ → ℕ
least_of_set k l set = sum_below class_count (least_of_class k l set)

-- The share of a class in the least load of a set, where it has one.
abbrev pub share_of : Classes → Limits → ℕ → ℕ → List Share
share_of k l set c =
    cond (nat_lt 0 (least_of_class k l set c))
    (record { class = c; pages = slice_index k.count c; least = least_of_class k l set c } ∷ []) []

-- The shares of all classes in the least load of a set, classes in order.
abbrev pub shares_of : Classes → Limits → ℕ → List Share
shares_of k l set = joined_below class_count (share_of k l set)

-- How many pages of a class start early under the limits.
abbrev pub early_limits : Classes → Limits → ℕ → Narrowed
early_limits k l c = record { class = c; pages = slice_index k.count c; lo = slice_index l.lo c; hi = slice_index l.hi c }

-- Whether not each number of the pages may start early.
abbrev pub is_narrower : Narrowed → Bool
is_narrower early = nat_lt 0 early.lo || nat_lt early.hi early.pages

-- What the limits say of a class that they narrow, and else nothing.
abbrev pub narrowed_by : Classes → Limits → ℕ → List Narrowed
narrowed_by k l c = cond (is_narrower (early_limits k l c)) (early_limits k l c ∷ []) []

-- The classes that the limits narrow, in order.
abbrev pub narrowed_of : Classes → Limits → List Narrowed
narrowed_of k l = joined_below class_count (narrowed_by k l)

-- What a node states under its limits, for an end.
abbrev pub fact_of : Classes → End → Limits → BoundTree → Fact
fact_of k end l (overload set) = Overload set (least_of_set k l set) (room_of l set)
fact_of k end l (split c m below above) = Split c m (slice_index l.lo c) (slice_index l.hi c)
fact_of k end l (cut set c children) =
    Cut set c (nat_lt c class_count && class_certain k l set c) (length (ways_across k l set)) (children_count children)
fact_of k end l (close children) = Close (length (ways_to_close k end l)) (children_count children)
fact_of k end l unexamined = Open

-- The shares that a node states: those of an overload, and else none.
abbrev pub shares_at : Classes → Limits → BoundTree → List Share
shares_at k l (overload set) = shares_of k l set
shares_at k l (split c m below above) = []
shares_at k l (cut set c children) = []
shares_at k l (close children) = []
shares_at k l unexamined = []

-- What must stand in one slot at the least, by the least load of the set of that slot alone, and the room in it.
abbrev pub column_of : Classes → Limits → ℕ → Column
column_of k l slot = record { least = least_of_set k l (2 ^ slot); room = slice_index l.cap slot }

-- The columns that are found of a node below so many: those of the sixteen slots, in order, of the root, which has depth 1,
-- and of the nodes right below it, and else none.
abbrev pub columns_at : Classes → Limits → ℕ → List Column
columns_at k l above = cond (nat_lt above 2) (map (column_of k l) (range_with_len 0 slot_count)) []

-- Whether the end asks for something of the last codeword.
abbrev pub asks_for_last : End → Bool
asks_for_last ends.Open = false
asks_for_last ends.Closed = true
asks_for_last ends.Idle = true

-- Whether what a node states meets the rule of its kind, for an end and b batches: an overload's set is not empty and has
-- less room than its least load; a split's class is one, and its m parts what the limits allow; a cut's set holds boundary
-- 0, its class is certain, and it has a child for each way; a close stands for an end that asks for something of the last
-- codeword, and has a child for each way.
abbrev pub fact_holds : End → ℕ → Fact → Bool
fact_holds end b (Overload set least room) = nat_lt 0 set && leb set greatest_set && nat_lt room least
fact_holds end b (Split c m lo hi) = nat_lt c class_count && nat_lt lo m && leb m hi
fact_holds end b (Cut set c certain ways children) =
    nat_lt 0 b && leb set greatest_set && holds set 0 && certain && (ways == children)
fact_holds end b (Close ways children) = asks_for_last end && nat_lt 0 b && (ways == children)
fact_holds end b Open = false
fact_holds end b Unjudged = false
