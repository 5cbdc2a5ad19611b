-- When a page may be added, and the first reason where it may not.
use Rattle.pocsag_plan.proofs.Prelude.{◌≡◌, ℕ, ◌<◌, ◌≤◌, Bool, true, false, cond, List, length, nat_le, refl, sym, ap, ◌∙◌, arith, Option, Some, None, nat_tests, Page, page_limit, has_address, page_fault_of, add_fault, fault_beside}
use Rattle.pocsag_pages.specs.declared.fault.PageFault.{PageFault}
use Rattle.pocsag_plan.specs.declared.refusal.AddFault.{AddFault}
use Rattle.pocsag_plan.specs.declared.refusal.AddFault.TheVariants as fault

-- nothing stands against the page
pub record MayFollow (ps : List Page) (p : Page) : Type 0 where
  pub good : page_fault_of p ≡ None
  pub another : has_address ps p.address ≡ false
  pub room : length ps < page_limit

at_limit : (n : ℕ) → page_limit ≤ n → nat_le page_limit n ≡ true
at_limit n h = grind (arith, nat_tests)

below_limit : (n : ℕ) → n < page_limit → nat_le page_limit n ≡ false
below_limit n h = grind (arith, nat_tests)

room_from : (n : ℕ) → nat_le page_limit n ≡ false → n < page_limit
room_from n h = grind (arith, nat_tests)

-- the reasons beside the rules of a page alone
beside : Bool → Bool → Option AddFault
beside there full = cond there (Some fault.DuplicateAddress) (cond full (Some fault.Full) None)

module _ (ps : List Page) (p : Page) where
  beside_is : page_fault_of p ≡ None → add_fault ps p ≡ fault_beside ps p None
  unfolding add_fault
  beside_is none = ap (fault_beside ps p) none

  pub duplicate_fault : page_fault_of p ≡ None → has_address ps p.address ≡ true → Some fault.DuplicateAddress ≡ add_fault ps p
  unfolding beside
  duplicate_fault none there = sym (beside_is none ∙ ap (λ (b : Bool). beside b (nat_le page_limit (length ps))) there)

  pub full_fault : page_fault_of p ≡ None → has_address ps p.address ≡ false → page_limit ≤ length ps → Some fault.Full ≡ add_fault ps p
  unfolding beside
  full_fault none there full =
      sym (beside_is none ∙ (ap (λ (b : Bool). beside b (nat_le page_limit (length ps))) there ∙ ap (λ (b : Bool). beside false b)
      (at_limit (length ps) full)))

  pub no_fault : page_fault_of p ≡ None → has_address ps p.address ≡ false → length ps < page_limit → None ≡ add_fault ps p
  unfolding beside
  no_fault none there room =
      sym (beside_is none ∙ (ap (λ (b : Bool). beside b (nat_le page_limit (length ps))) there ∙ ap (λ (b : Bool). beside false b)
      (below_limit (length ps) room)))

-- neither test is true
neither_beside : (there full : Bool) → beside there full ≡ None → (there ≡ false) × (full ≡ false)
unfolding beside
neither_beside true full e = absurd (cc)
neither_beside false true e = absurd (cc)
neither_beside false false e = (refl, refl)

pub may_follow : (ps : List Page) (p : Page) → add_fault ps p ≡ None → MayFollow ps p
unfolding add_fault beside
may_follow ps p e = by (page_fault_of p) refl e
  where
    by : (broken : Option PageFault) → page_fault_of p ≡ broken → fault_beside ps p broken ≡ None → MayFollow ps p
    by (Some broken) is none = absurd (cc)
    by None is none =
        let tests = neither_beside (has_address ps p.address) (nat_le page_limit (length ps)) none in
        record { good = is; another = tests.0; room = room_from (length ps) tests.1 }
