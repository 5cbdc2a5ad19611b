-- The pages of an open round may stand in a round, and are spellable.
use Rattle.pocsag_laws.proofs.Prelude.{◌≡◌, ◌⊎◌, inl, inr, ℕ, ◌<◌, false, List, [], ◌∷◌, length, All, sym, subst, Option, Some, None, Ok, All-nil, Row, verdict, IsRound, Page, page_spellable, pages_spellable, Asked, IsDone, IsEdit, IsRun, add, asked_of, cancel, clear}
use Rattle.pocsag_decode.specs.PageFiles.{IsSpellable}
use Rattle.pocsag_journal.specs.Runs.{sent}
use Rattle.pocsag_journal.proofs.EditedPages.{Keeps, MayStand, added_keeps, cancelled_keeps, cleared_keeps, none_stand, same_keeps, sent_keeps}
use Rattle.pocsag_laws.specs.OpenRounds.{IsOpenRound}
use Rattle.pocsag_laws.proofs.FileRounds.{file_round}

done_keeps : (asked : Option Asked) (before after : List Page) → IsDone asked before after → Keeps IsSpellable before after
done_keeps None before after d = absurd d
done_keeps (Some (add address kind message)) before after d =
    added_keeps IsSpellable address kind message before after d (λ page spelled fine. page_spellable address kind message page spelled)
done_keeps (Some (cancel address)) before after d = cancelled_keeps IsSpellable address before after d
done_keeps (Some (sent count)) before after d = sent_keeps IsSpellable count before after d
done_keeps (Some clear) before after d = cleared_keeps IsSpellable before after d

pub edit_spellable : (row : Row) (before after : List Page) → IsEdit row before after → All IsSpellable before → All IsSpellable after
edit_spellable row before after d = (done_keeps (asked_of row) before after d).each

run_keeps : (rows : List Row) (before after : List Page) → IsRun rows before after → Keeps IsSpellable before after
unfolding IsRun
run_keeps [] before after d = same_keeps IsSpellable before after d
run_keeps (row ∷ rows) before after d =
    let first = done_keeps (asked_of row) before d.0 d.1 in
    let rest = run_keeps rows d.0 after d.2 in
    record { stand = λ was. rest.stand (first.stand was); each = λ all. rest.each (first.each all) }

pub run_spellable : (rows : List Row) (before after : List Page) → IsRun rows before after → All IsSpellable before → All IsSpellable after
run_spellable rows before after d = (run_keeps rows before after d).each

-- with what a round begins
begun : (ps : List Page) → (ps ≡ []) ⊎ ((file : List ℕ) × (verdict file ≡ Ok ps)) → MayStand ps × All IsSpellable ps
begun ps (inl none) = (subst MayStand (sym none) none_stand, subst (All IsSpellable) (sym none) (All-nil IsSpellable))
begun ps (inr of) =
    let round = file_round of.0 ps of.1 in
    (record { few = round.few; good = round.good }, pages_spellable false of.0 ps of.1)

pub open_spellable : (ps : List Page) → IsOpenRound ps → All IsSpellable ps
open_spellable ps o = run_spellable o.rows o.first ps o.run (begun o.first o.begins).1

pub open_round : (ps : List Page) → IsOpenRound ps → 0 < length ps → IsRound ps
open_round ps o some =
    let may = (run_keeps o.rows o.first ps o.run).stand (begun o.first o.begins).0 in
    record { some = some; few = may.few; good = may.good }
