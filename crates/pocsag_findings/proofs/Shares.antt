-- The shares of classes in the least load of a set, class by class.
use Rattle.pocsag_findings.proofs.Prelude.{◌≡◌, ℕ, ◌+◌, ◌++◌, ◌∷◌, [], List, refl, cond, nat_lt, slice_index, Classes, Limits, least_of_class, joined_below, joined_more, share_of}
use Rattle.pocsag_findings.specs.declared.finding.Share.{Share}

pub share_next : (k : Classes) (l : Limits) (set c least : ℕ) (found next : List Share) → least ≡ least_of_class k l set c →
    found ≡ joined_below c (share_of k l set) →
    next ≡ found ++ cond (nat_lt 0 least) (record { class = c; pages = slice_index k.count c; least = least } ∷ []) [] →
    next ≡ joined_below (c + 1) (share_of k l set)
share_next k l set c least found next is so_far added = rw (added, so_far, joined_more, is) refl
