-- A round that a journal keeps, from its start on.
use Rattle.pocsag_open.proofs.Prelude.{◌⊎◌, inl, inr, ⊎_elim, ℕ, List, [], refl, Option, HasFailed, Page, OnLimit, LeavesOnly, disk_of, named, then_on, ExplainsEnd, ExplainsKept, IsBeginning, ReadsBeginning, ReadsKept, ReadsAfterLines}
use Rattle.pocsag_journal.specs.Crashes.{RestartsAs}
use Rattle.pocsag_journal.specs.Faults.{ExplainsAnew}
use Rattle.pocsag_journal.specs.declared.disk.Disk.{Ghosts as Storing}
use Rattle.pocsag_journal.specs.declared.journal.Journal.{Journal}
use Rattle.pocsag_journal.specs.declared.fault.JournalFault.{JournalFault}
use Rattle.pocsag_journal.specs.declared.fault.JournalFault.TheVariants as journal
use Rattle.pocsag_open.specs.Faults.{fault_of_journal}
use Rattle.pocsag_open.proofs.Survival.{none_answered, read_now}

-- why it is not written anew
pub anew_explains : (bytes : List ℕ) (file : Option (List ℕ)) (file_failed I O K : Type 0) (before after : ℕ) (pages : List Page) (f : JournalFault) →
    IsBeginning bytes file pages → (HasFailed before after → K) → ExplainsAnew pages before after f →
    ExplainsKept bytes file file_failed (ExplainsEnd I O K) (fault_of_journal f)
anew_explains bytes file failed I O K before after pages journal.WriteFault begins k h = inr (k h)
anew_explains bytes file failed I O K before after pages journal.OutOfMemory begins k h = tt
anew_explains bytes file failed I O K before after pages (journal.NoLine n) begins k h = (pages, begins, h)
anew_explains bytes file failed I O K before after pages f begins k h = absurd h

-- what a crash leaves of a journal it leaves of its disk
pub of_disk : {D : Type 0} (moment : D → ℕ) (left_since : D → ℕ → List ℕ → Type 0) (old new : Journal D) (Holds : List ℕ → Type 0) →
    LeavesOnly (λ (journal : Journal D). moment (disk_of journal)) (λ (journal : Journal D). left_since (disk_of journal)) old new Holds →
    LeavesOnly moment left_since (disk_of old) (disk_of new) Holds
of_disk moment left_since old new Holds all = record { later = all.later; each = all.each; before = all.before }

module _ {S : Type 0} (D : Storing S) (known : D.is_known) {old mid : S} (so_far : LeavesOnly D.moment D.left_since old mid (D.may_leave old)) where
  -- what is left once the journal is read
  pub left_read : (left : List ℕ) → D.may_leave mid left → D.may_leave old left
  left_read left now = so_far.each left (D.counts_now mid (D.moment old) left known so_far.later now)

  -- once it is written anew
  module _ (bytes : List ℕ) (file : Option (List ℕ)) {before : List Page} {new : S} (begins : IsBeginning bytes file before)
      (more : LeavesOnly D.moment D.left_since mid new (λ left. D.may_leave mid left ⊎ RestartsAs left before)) where
    pub left_anew : (left : List ℕ) → D.may_leave new left → D.may_leave old left ⊎ ReadsBeginning bytes file left
    left_anew left now =
        ⊎_elim (λ was. inl (left_read left was)) (λ is. inr (before, begins, is)) (more.each left (D.counts_now new (D.moment mid) left known more.later now))

    module _ {IsKnown OutputFails : Type 0} {on_limit : OnLimit} {input : List ℕ} where
      pub only_anew : LeavesOnly D.moment D.left_since old new (ReadsKept IsKnown OutputFails on_limit input bytes file (D.may_leave old))
      only_anew = then_on D.moment D.left_since old mid new _ _ (named D.moment D.left_since old mid _ _ so_far (λ left is. inl is)) more
          (λ left is. ⊎_elim (λ was. inl (left_read left was)) (λ reads. inr (before, begins, read_now (none_answered {out = []} {placed = []} refl) reads)) is)

      -- and once lines were answered
      pub only_kept : {last : S} → LeavesOnly D.moment D.left_since new last (ReadsAfterLines IsKnown OutputFails on_limit input before RestartsAs) →
          LeavesOnly D.moment D.left_since old last (ReadsKept IsKnown OutputFails on_limit input bytes file (D.may_leave old))
      only_kept {last} lines = then_on D.moment D.left_since old new last _ _ only_anew lines (λ left is. inr (before, begins, is))
