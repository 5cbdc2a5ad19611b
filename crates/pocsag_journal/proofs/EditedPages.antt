-- What an edit keeps of all pages: that they may stand in one round, and what is so of each.
use Rattle.pocsag_journal.proofs.Prelude.{◌≡◌, ℕ, ◌≤◌, Bool, true, false, cond, not, List, [], ◌∷◌, length, nat_eq, All, sym, subst, arith, None, Ok, filter, AllByRecursion, length-drop, All-drop, All-filter, All-nil, All-push, page_of_fields, AreGood, addresses_of, page_fault_of, page_limit, Page, good_last, good_none, good_push, without, may_follow, IsAdded, IsCancelled, IsSent}
use Rattle.std.proofs.Common.{length-append}
use Rattle.std.specs.List.{IsDistinct}

-- pages that pass a test are as good as all of them
all_kept : (P : ℕ → Type 0) (stays : Page → Bool) (ps : List Page) → AllByRecursion P (addresses_of ps) →
    AllByRecursion P (addresses_of (filter stays ps))
all_kept P stays [] h = h
all_kept P stays (p ∷ ps) h =
    let rest = all_kept P stays ps h.1 in
    elim (stays p) as (λ b. AllByRecursion P (addresses_of (cond b (p ∷ filter stays ps) (filter stays ps)))) [
      | true ↦ (h.0, rest)
      | false ↦ rest
    ]

distinct_kept : (stays : Page → Bool) (ps : List Page) → IsDistinct nat_eq (addresses_of ps) →
    IsDistinct nat_eq (addresses_of (filter stays ps))
unfolding IsDistinct
distinct_kept stays [] h = h
distinct_kept stays (p ∷ ps) h =
    let rest = distinct_kept stays ps h.1 in
    elim (stays p) as (λ b. IsDistinct nat_eq (addresses_of (cond b (p ∷ filter stays ps) (filter stays ps)))) [
      | true ↦ (all_kept _ stays ps h.0, rest)
      | false ↦ rest
    ]

few_kept : (stays : Page → Bool) (ps : List Page) → length (filter stays ps) ≤ length ps
few_kept stays [] = omega arith
few_kept stays (p ∷ ps) =
    let rest = few_kept stays ps in
    elim (stays p) as (λ b. length (cond b (p ∷ filter stays ps) (filter stays ps)) ≤ length (p ∷ ps)) [
      | true ↦ omega arith
      | false ↦ omega arith
    ]

-- what may stand in a round, once there is a page
pub record MayStand (ps : List Page) : Type 0 where
  pub few : length ps ≤ page_limit
  pub good : AreGood ps

pub none_stand : MayStand []
none_stand = record { few = omega arith; good = good_none }

-- an edit keeps that, and what is so of each page
pub record Keeps (P : Page → Type 0) (before after : List Page) : Type 0 where
  pub stand : MayStand before → MayStand after
  pub each : All P before → All P after

pub same_keeps : (P : Page → Type 0) (before after : List Page) → after ≡ before → Keeps P before after
same_keeps P before after e = rw e (record { stand = λ was. was; each = λ all. all })

-- where it is so of the page that is added
pub added_keeps : (P : Page → Type 0) (address kind message : List ℕ) (before after : List Page) → IsAdded address kind message before after →
    ((page : Page) → page_of_fields address kind message ≡ Ok page → page_fault_of page ≡ None → P page) → Keeps P before after
added_keeps P address kind message before after d new =
    let may = may_follow before d.page d.free in
    rw d.behind (record {
      stand = λ was. record {
        few = omega (arith, may.room, length-append before (d.page ∷ []));
        good = good_push before d.page was.good may.good may.another;
      };
      each = λ all. All-push P before d.page all (new d.page d.spelled may.good);
    })

-- taking out the page of an address keeps that
without_keeps : (P : Page → Type 0) (before : List Page) (a : ℕ) → Keeps P before (without before a)
without_keeps P before a =
    let stays : Page → Bool = λ (p : Page). not (nat_eq a p.address) in
    record {
      stand = λ was. record {
        few = omega (arith, few_kept stays before, was.few);
        good = record {
          each = All-filter stays (λ p. page_fault_of p ≡ None) before was.good.each;
          apart = distinct_kept stays before was.good.apart;
        };
      };
      each = λ all. All-filter stays P before all;
    }

pub left_stand : (before : List Page) (a : ℕ) → MayStand before → MayStand (without before a)
left_stand before a was = (without_keeps (λ p. Unit {0}) before a).stand was

pub cancelled_keeps : (P : Page → Type 0) (spelling : List ℕ) (before after : List Page) → IsCancelled spelling before after → Keeps P before after
cancelled_keeps P spelling before after d = subst (Keeps P before) (sym d.rest) (without_keeps P before d.page.address)

pub sent_keeps : (P : Page → Type 0) (count : List ℕ) (before after : List Page) → IsSent count before after → Keeps P before after
sent_keeps P count before after d =
    rw d.rest (record {
      stand = λ was. let few = was.few in
          record { few = omega (arith, length-drop d.count before, few); good = good_last d.count before was.good };
      each = λ all. All-drop P d.count before all;
    })

pub cleared_keeps : (P : Page → Type 0) (before after : List Page) → after ≡ [] → Keeps P before after
cleared_keeps P before after e = rw e (record { stand = λ was. none_stand; each = λ all. All-nil P })
