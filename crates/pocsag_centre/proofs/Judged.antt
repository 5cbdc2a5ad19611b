-- What is printed of a verdict.
use Rattle.pocsag_centre.proofs.Prelude.{◌≡◌, ℕ, Bool, List, false, true, refl, ◌↔◌, End, Page, verdict, BoundTree, IsText, NoneHasFewer, PrintsVerdict, verdict_status}
use Rattle.std.proofs.Common.{IsTrue, Ok}
use Rattle.pocsag_words.specs.declared.device.Source.{Ghosts as Reader}
use Rattle.pocsag_check.specs.Acceptance.{IsAcceptedFor}

module _ {P C : Type 0} (Pages : Reader P) (Cert : Reader C) (pages : P) (cert : C) (R : List Page) (end : End) (batches : ℕ) (tree : BoundTree)
    (read : Pages.is_known → verdict (Pages.held pages) ≡ Ok R) (spelled : Cert.is_known → IsText end batches tree (Cert.held cert))
    (Tells : (is_shown : Bool) → End → (batches : ℕ) → (text : List ℕ) → Type 0) (text : List ℕ) where
  pub shown_told : (e : End) (b : ℕ) → e ≡ end → b ≡ batches → Tells true e b text → IsAcceptedFor false end R batches tree →
      NoneHasFewer end R batches → PrintsVerdict Pages Cert Tells pages cert 0 text
  shown_told e b same_end same_batches told accepted bound = record {
    is_shown = true;
    end = end;
    batches = batches;
    told = rw (← same_end, ← same_batches) told;
    well = refl;
    spelled = λ u. (tree, spelled u);
    judged = λ k u. record { round = R; read = read k; tree = tree; text = spelled u; accepted = accepted; bound = bound };
  }

  pub not_shown_told : (e : End) (b : ℕ) → e ≡ end → b ≡ batches → Tells false e b text → (¬ IsAcceptedFor false end R batches tree) →
      PrintsVerdict Pages Cert Tells pages cert 1 text
  not_shown_told e b same_end same_batches told refused = record {
    is_shown = false;
    end = end;
    batches = batches;
    told = rw (← same_end, ← same_batches) told;
    well = refl;
    spelled = λ u. (tree, spelled u);
    judged = λ k u. record { round = R; read = read k; tree = tree; spelled = spelled u; refused = refused };
  }

  -- one verdict or the other
  pub verdict_told : (is_shown : Bool) → Tells is_shown end batches text → (IsTrue is_shown ↔ IsAcceptedFor false end R batches tree) →
      (IsTrue is_shown → NoneHasFewer end R batches) → PrintsVerdict Pages Cert Tells pages cert (verdict_status is_shown) text
  verdict_told true told accepted bound = shown_told end batches refl refl told (accepted.0 refl) (bound refl)
  verdict_told false told accepted bound = not_shown_told end batches refl refl told (λ a. let yes = accepted.1 a in cc)
