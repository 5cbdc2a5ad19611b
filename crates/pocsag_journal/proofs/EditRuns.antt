-- Runs of edits.
use Rattle.pocsag_journal.proofs.Prelude.{◌≡◌, inl, inr, ℕ, cond, List, [], ◌∷◌, ◌++◌, arith, drop, refl, sym, ap, ◌∙◌, subst, Option, Some, None, codes, bytes_eq, cases_Bool, decimal_injective, Row, Page, without, Asked, IsDone, IsEdit, IsRun, add, asked_of, cancel, clear, sent}
use Rattle.pocsag_journal.proofs.Fields.{edit_record, is_word}

-- an edit is that of a record of one of four kinds
pub record Edit (row : Row) (before after : List Page) : Type 0 where
  pub asked : Asked
  pub is : row ≡ edit_record asked
  pub done : IsDone (Some asked) before after

by_word : (row : Row) (word name : List ℕ) (asked : Asked) (others : Option Asked) (before after : List Page) → (word ≡ name → row ≡ edit_record asked) →
    (IsDone others before after → Edit row before after) → IsDone (cond (bytes_eq word name) (Some asked) others) before after → Edit row before after
by_word row word name asked others before after same more d = elim (cases_Bool (bytes_eq word name)) [
  | inl t ↦ record { asked = asked; is = same (is_word word name t); done = rw t at d }
  | inr f ↦ more (rw f at d)
]

pub edit_of : (row : Row) (before after : List Page) → IsEdit row before after → Edit row before after
unfolding asked_of
edit_of (w ∷ []) before after d = by_word _ w (codes "clear") clear None before after (λ e. rw e refl) (λ n. absurd n) d
edit_of (w ∷ a ∷ []) before after d =
    by_word _ w (codes "cancel") (cancel a) _ before after (λ e. rw e refl)
    (by_word _ w (codes "sent") (sent a) None before after (λ e. rw e refl) (λ n. absurd n)) d
edit_of (w ∷ a ∷ k ∷ m ∷ []) before after d = by_word _ w (codes "add") (add a k m) None before after (λ e. rw e refl) (λ n. absurd n) d
edit_of row before after d = absurd d

done_once : (asked : Option Asked) (before after other : List Page) → IsDone asked before after → IsDone asked before other → after ≡ other
done_once None before after other p q = absurd p
done_once (Some (add a k m)) before after other p q =
    let same : p.page ≡ q.page = cc (p.spelled, q.spelled) in
    p.behind ∙ ap (λ (page : Page). before ++ page ∷ []) same ∙ sym q.behind
done_once (Some (cancel a)) before after other p q =
    let same : p.page.address ≡ q.page.address = cc (p.spelled, q.spelled) in
    p.rest ∙ ap (λ (address : ℕ). without before address) same ∙ sym q.rest
done_once (Some (sent n)) before after other p q =
    let same = decimal_injective p.count q.count (omega (arith, p.spelled.small)) (omega (arith, q.spelled.small)) (sym p.spelled.spelled ∙ q.spelled.spelled) in
    p.rest ∙ ap (λ (k : ℕ). drop k before) same ∙ sym q.rest
done_once (Some clear) before after other p q = p ∙ sym q

-- an edit leads to one list
pub edit_once : (row : Row) (before after other : List Page) → IsEdit row before after → IsEdit row before other → after ≡ other
edit_once row before after other p q = done_once (asked_of row) before after other p q

-- and so does a run
pub run_once : (rows : List Row) (before after other : List Page) → IsRun rows before after → IsRun rows before other → after ≡ other
unfolding IsRun
run_once [] before after other p q = p ∙ sym q
run_once (row ∷ rows) before after other p q =
    let same = edit_once row before p.0 q.0 p.1 q.1 in
    run_once rows p.0 after other p.2 (subst (λ (mid : List Page). IsRun rows mid other) (sym same) q.2)

-- a run is cut in two
pub run_parts : (rows more : List Row) (before after : List Page) → IsRun (rows ++ more) before after →
    (between : List Page) × IsRun rows before between × IsRun more between after
unfolding IsRun
run_parts [] more before after p = (before, refl, p)
run_parts (r ∷ rows) more before after p =
    let h = run_parts rows more p.0 after p.2 in
    (h.0, (p.0, p.1, h.1), h.2)

-- a run and another behind it are one
pub runs_join : (rows more : List Row) (before between after : List Page) → IsRun rows before between → IsRun more between after →
    IsRun (rows ++ more) before after
unfolding IsRun
runs_join [] more before between after p q = subst (λ (mid : List Page). IsRun more mid after) p q
runs_join (r ∷ rows) more before between after p q = (p.0, p.1, runs_join rows more p.0 between after p.2 q)

-- a run goes on by one edit
pub run_on : (rows : List Row) (row : Row) (before between after : List Page) → IsRun rows before between → IsEdit row between after →
    IsRun (rows ++ row ∷ []) before after
unfolding IsRun
run_on rows row before between after p q = runs_join rows (row ∷ []) before between after p (after, q, refl)
