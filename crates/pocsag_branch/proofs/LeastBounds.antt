-- The least number of batches: what a set of slots needs, and that a choice which is admitted needs no more.
use Rattle.pocsag_branch.proofs.Prelude.{◌≡◌, ℕ, ◌+◌, ◌-◌, ◌*◌, ◌/◌, ◌%◌, ◌<◌, ◌≤◌, ◌==◌, min, true, false, cond, ap, ◌∙◌, arith, slice_index, replicate, inl, inr, cases_eq, cases_lt, nat_tests, get_or-replicate, Classes, IsAdmitted, IsChoice, IsLeast, IsLeastLoad, IsWithin, Overloads, class_load, limits_of_all, load, class_rest, start_of, IsSet, holds, sum_over, covered_by, load_few, rest_below, sum_over-le, sum_over-same, sum_over-times, term-le-sum_below, start_below, RefusesOneLess, HasPage}
use Rattle.std.proofs.Math.Nat.{mul-le-mul_left}
use Rattle.std.proofs.lemmas.Grind.{div_ceil_times}
use Rattle.std.proofs.lemmas.Nat.Bits.{bit_at_ones}
use Rattle.pocsag_slots.specs.Cover.{covered}
use Rattle.pocsag_slots.proofs.LeastLemmas.{overload_is}

-- how many members a set has
abbrev members : ℕ → ℕ
members set = sum_over set (λ slot. 1)

sum_over-all : (set x : ℕ) → sum_over set (λ slot. x) ≡ x * members set
sum_over-all set x = sum_over-same set (λ slot. x) (λ slot. x * 1) (λ slot l. omega arith) ∙ sum_over-times set x (λ slot. 1)

caps_are : (k : Classes) (set b : ℕ) → sum_over set (slice_index (limits_of_all k b).cap) ≡ b * members set
caps_are k set b =
    sum_over-same set (slice_index (limits_of_all k b).cap) (λ slot. b) (λ slot l. get_or-replicate 16 slot b 0 l) ∙ sum_over-all set b

loads_most : (k : Classes) (set b : ℕ) (choice : ℕ → ℕ) → ((slot : ℕ) → slot < 16 → load k choice slot ≤ b) →
    sum_over set (load k choice) ≤ b * members set
loads_most k set b choice h = omega (arith, sum_over-le set (load k choice) (λ slot. b) h, sum_over-all set b)

within_all : (k : Classes) (a b : ℕ) (choice : ℕ → ℕ) → IsWithin (limits_of_all k a) choice → IsWithin (limits_of_all k b) choice
within_all k a b choice w = record { least = w.least; most = w.most }

-- the share of a set, rounded up
module _ (k : Classes) (batches set least share : ℕ) (over : Overloads k (limits_of_all k batches) set)
    (is_least : IsLeastLoad k (limits_of_all k batches) set least) where
  least_most : least ≤ 1760000 * members set
  least_most =
      let choice : ℕ → ℕ = is_least.met.0 in
      let among : IsChoice k choice = λ c h. is_least.met.1.most c h in
      let most = loads_most k set 1760000 choice (λ slot h. load_few k choice slot h among) in
      omega (arith, is_least.met.2)

  least_more : batches * members set < least
  least_more = omega (arith, (overload_is k (limits_of_all k batches) set least is_least).1 over, caps_are k set batches)

  pub has_members : 0 < members set
  has_members =
      elim (cases_eq (members set) 0) [
        | inl none ↦
            let most : 1760000 * members set ≡ 1760000 * 0 = ap (λ (n : ℕ). 1760000 * n) none in
            absurd (omega (arith, least_most, least_more))
        | inr some ↦ omega arith
      ]

  pub share_more : share ≡ least / members set + min 1 (least % members set) → batches < share
  share_more is =
      let ceil = div_ceil_times least (members set) has_members in
      let high : least ≤ share * members set = rw is ceil.0 in
      elim (cases_lt batches share) [
        | inl less ↦ less
        | inr low ↦
            let most : members set * share ≤ members set * batches = mul-le-mul_left (members set) low in
            absurd (omega (arith, least_more))
      ]

  pub share_most : share ≡ least / members set + min 1 (least % members set) → share ≤ 1760000
  share_most is =
      let ceil = div_ceil_times least (members set) has_members in
      let low : share * members set < least + members set = rw is ceil.1 in
      elim (cases_lt 1760000 share) [
        | inr less ↦ less
        | inl high ↦
            let up : 1760001 ≤ share = omega arith in
            let most : members set * 1760001 ≤ members set * share = mul-le-mul_left (members set) up in
            absurd (omega (arith, least_most))
      ]

  pub share_refuses : IsSet set → share ≡ least / members set + min 1 (least % members set) → RefusesOneLess k share set
  share_refuses is_set is =
      let more : batches < share = share_more is in
      let ceil = div_ceil_times least (members set) has_members in
      let low : share * members set < least + members set = rw is ceil.1 in
      let one : share ≡ (share - 1) + 1 = omega arith in
      let parts : share * members set ≡ (share - 1) * members set + members set =
      ap (λ (n : ℕ). n * members set) one ∙ add_one_times (share - 1) (members set) in
      record {
        some = omega arith;
        slots = is_set;
        over = λ choice within.
            let lower : least ≤ sum_over set (load k choice) = is_least.lower choice (within_all k (share - 1) batches choice within) in
            omega (arith, caps_are k set (share - 1));
      }
    where
      add_one_times : (q s : ℕ) → (q + 1) * s ≡ q * s + s
      add_one_times q s = omega arith

-- the least number of batches
pub least_is_least : (k : Classes) (b set : ℕ) (choice : ℕ → ℕ) → RefusesOneLess k b set → IsAdmitted k (limits_of_all k b) choice → IsLeast k b
least_is_least k b set choice refuses admitted =
    record {
      carried = record {
        choice = choice;
        among = λ c h. admitted.within.most c h;
        loads = λ slot h. omega (arith, admitted.capped slot h, get_or-replicate 16 slot b 0 h);
      };
      least = λ a carried.
          elim (cases_lt a b) [
            | inr high ↦ high
            | inl low ↦
                let within : IsWithin (limits_of_all k (b - 1)) carried.choice =
                record {
                  least = λ c h. let none : slice_index (replicate 136 0) c ≡ 0 = get_or-replicate 136 c 0 0 h in omega arith;
                  most = λ c h. carried.among c h;
                } in
                let over = refuses.over carried.choice within in
                let most = loads_most k set a carried.choice carried.loads in
                let down : a ≤ b - 1 = omega arith in
                let less : members set * a ≤ members set * (b - 1) = mul-le-mul_left (members set) down in
                absurd (omega (arith, caps_are k set (b - 1)))
          ];
    }

-- no batch at all carries a page
all_slots : (slot : ℕ) → slot < 16 → holds 65535 slot ≡ true
unfolding holds
all_slots slot h = ap (λ (n : ℕ). n == 1) (bit_at_ones 16 slot h)

one_of_all : (f : ℕ → ℕ) (slot : ℕ) → slot < 16 → f slot ≤ sum_over 65535 f
unfolding sum_over
one_of_all f slot h =
    let part = term-le-sum_below 16 slot (λ i. cond (holds 65535 i) (f i) 0) h in
    rw (all_slots slot h) at part

covers_start : (first n : ℕ) → first < 16 → 0 < n → n < 16 → covered first n first ≡ 1
covers_start first n h some few = covered_by first n first h (omega arith) h ∙ grind (arith, nat_tests)

some_load : (k : Classes) (choice : ℕ → ℕ) (c slot : ℕ) → c < 136 → 0 < class_load k slot c (choice c) → 0 < load k choice slot
unfolding load
some_load k choice c slot h some = omega (arith, term-le-sum_below 136 c (λ d. class_load k slot d (choice d)) h)

times_one : (n m x : ℕ) → 0 < n → x ≡ 1 → 0 < m + n * x
times_one n m x some is = rw is (omega arith)

page_loads : (k : Classes) (choice : ℕ → ℕ) (c : ℕ) → c < 136 → 0 < slice_index k.count c → (slot : ℕ) × (slot < 16)
    × (0 < class_load k slot c (choice c))
unfolding class_load
page_loads k choice c h some =
    elim (cases_eq (class_rest c) 0) [
      | inl none ↦
          let turns : slice_index k.count c ≤ slice_index k.turns c = k.tables.whole c h none in
          (0, omega arith, omega arith)
      | inr rest ↦
          let few : class_rest c < 16 = rest_below c in
          elim (cases_eq (choice c) 0) [
            | inr early ↦
                let one = covers_start (start_of c true) (class_rest c) (start_below c true h) (omega arith) few in (
                  start_of c true,
                  start_below c true h,
                  (let there = times_one (choice c) (slice_index k.turns c) _ (omega arith) one in omega arith),
                )
            | inl late ↦
                let one = covers_start (start_of c false) (class_rest c) (start_below c false h) (omega arith) few in
                let all : slice_index k.count c - choice c ≡ slice_index k.count c = omega arith in (
                  start_of c false,
                  start_below c false h,
                  (let there = times_one (slice_index k.count c - choice c) (slice_index k.turns c) _ (omega arith) one in omega arith),
                )
          ]
    ]

pub nothing_fits : (k : Classes) → HasPage k → Overloads k (limits_of_all k 0) 65535
nothing_fits k page choice within =
    let at = page_loads k choice page.class page.known page.some in
    let some = some_load k choice page.class at.0 page.known at.2 in
    omega (arith, caps_are k 65535 0, one_of_all (load k choice) at.0 at.1)
