-- What stands for pages is read as these: a law of the keeper that a journal is.
use Rattle.std.proofs.Common.{inl, ℕ, ◌≤◌, List, [], length, sym, ◌∙◌, subst, append-nil}
use Rattle.pocsag_pages.specs.declared.page.Page.{Page}
use Rattle.pocsag_journal.specs.Crashes.{RestartsAs}
use Rattle.pocsag_journal.specs.Journals.{Represents, journal_limit, journal_text}
use Rattle.pocsag_journal.specs.Views.{IsHeld}
use Rattle.pocsag_journal.specs.declared.journal.Journal.{Journal}

pub restarts : (bytes : List ℕ) (pages : List Page) → Represents bytes pages → length bytes ≤ journal_limit → RestartsAs bytes pages
restarts bytes pages stands few = record {
  rows = stands.rows;
  torn = [];
  read = record { parts = inl (stands.text ∙ sym (append-nil (journal_text stands.rows))); each = stands.each; end = tt };
  run = stands.run;
  few = few;
}

-- what is held is read as the pages that it stands for
pub held_restarts : {D : Type 0} (journal : Journal D) (held : List ℕ) (may_leave : List ℕ → Type 0) (pages : List Page) (left : List ℕ) →
    IsHeld journal held may_leave pages → may_leave left → RestartsAs left pages
held_restarts journal held may_leave pages left held_is now =
    subst (λ (l : List ℕ). RestartsAs l pages) (sym (held_is.safe left now)) (restarts held pages held_is.stands held_is.counted.readable)
