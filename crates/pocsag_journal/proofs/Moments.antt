-- How what a crash may leave goes on from call to call.
use Rattle.pocsag_journal.proofs.Prelude.{inl, inr, ⊎_elim, ℕ, List, arith, Elapses, LeavesOnly}

module _ {D : Type 0} (moment : D → ℕ) (left_since : D → ℕ → List ℕ → Type 0) where
  -- before the first call
  pub started : (old : D) (Holds : List ℕ → Type 0) → ((left : List ℕ) → left_since old (moment old) left → Holds left) →
      LeavesOnly moment left_since old old Holds
  started old Holds here = record { later = omega arith; each = here; before = λ t left le since. inl since }

  -- one call of a disk more
  pub goes_on : (old mid new : D) (Holds may_leave : List ℕ → Type 0) → LeavesOnly moment left_since old mid Holds →
      Elapses (moment mid) (moment new) (left_since mid) (left_since new) may_leave → ((left : List ℕ) → may_leave left → Holds left) →
      LeavesOnly moment left_since old new Holds
  goes_on old mid new Holds may_leave so_far time here = record {
    later = omega (arith, so_far.later, time.later);
    each = λ left since. ⊎_elim (so_far.each left) (here left) (time.nothing_else (moment old) left so_far.later since);
    before = λ t left le since.
        ⊎_elim (so_far.before t left le) (λ now. inr (here left now)) (time.nothing_else t left (omega (arith, le, so_far.later)) since);
  }

  -- one run behind another
  pub then_on : (old mid new : D) (Holds More : List ℕ → Type 0) → LeavesOnly moment left_since old mid Holds →
      LeavesOnly moment left_since mid new More → ((left : List ℕ) → More left → Holds left) → LeavesOnly moment left_since old new Holds
  then_on old mid new Holds More so_far more here = record {
    later = omega (arith, so_far.later, more.later);
    each = λ left since. ⊎_elim (so_far.each left) (here left) (more.before (moment old) left so_far.later since);
    before = λ t left le since.
        ⊎_elim (so_far.before t left le) (λ now. inr (here left now)) (more.before t left (omega (arith, le, so_far.later)) since);
  }

  -- what is so of what is left is so by another name
  pub named : (old new : D) (Holds Other : List ℕ → Type 0) → LeavesOnly moment left_since old new Holds →
      ((left : List ℕ) → Holds left → Other left) → LeavesOnly moment left_since old new Other
  named old new Holds Other all here = record {
    later = all.later;
    each = λ left since. here left (all.each left since);
    before = λ t left le since. ⊎_elim (λ past. inl past) (λ now. inr (here left now)) (all.before t left le since);
  }
