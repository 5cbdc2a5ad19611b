-- What is told of page files that are cut.
use Rattle.pocsag_centre.proofs.Prelude.{◌≡◌, ◌≢◌, ◌⊎◌, inl, inr, HasFailed, IsOfCut, RoundFault, StreamFault, FailedCut, IsUncut, fault_of_stream, MayBeToldOfCut, CentreFault}
use Rattle.pocsag_words.specs.declared.device.Source.{Ghosts as Reader}
use Rattle.pocsag_pages.specs.declared.fault.RoundFault.TheVariants as round
use Rattle.pocsag_plan.specs.declared.fault.PlanFault.TheVariants as planning
use Rattle.pocsag_plan.specs.declared.fault.StreamFault.TheVariants as stream
use Rattle.pocsag_centre.specs.declared.fault.CentreFault.TheVariants as fault

-- a fault of bytes that were read
pub unless_read : {A : Type 0} (e : RoundFault) → e ≢ round.ReadFault → (e ≡ round.OutOfMemory) ⊎ (e ≡ round.ReadFault) ⊎ A → (e ≡ round.OutOfMemory) ⊎ A
unless_read e other (inl same) = inl same
unless_read e other (inr (inl same)) = absurd (other same)
unless_read e other (inr (inr held)) = inr held

module _ {P : Type 0} (Pages : Reader P) (pages : P) where
  is_uncut : {E : Type 0} {e not_read too_large : E} → e ≢ not_read → e ≢ too_large →
      (Pages.is_known → IsOfCut not_read too_large (Pages.is_cut pages) e) → IsUncut Pages pages
  is_uncut other small said = λ k. elim (said k).whole [ inl same ↦ absurd (other same) | inr (inl same) ↦ absurd (small same) | inr (inr whole) ↦ whole ]

  pub told_of_round : (e : RoundFault) → (Pages.is_known → IsOfCut round.ReadFault round.TooLarge (Pages.is_cut pages) e) →
      MayBeToldOfCut Pages pages (fault.Round e)
  told_of_round round.ReadFault said = tt
  told_of_round round.TooLarge said = tt
  told_of_round round.BadHeader said = is_uncut (λ e. cc (e)) (λ e. cc (e)) said
  told_of_round (round.Record n e) said = is_uncut (λ e. cc (e)) (λ e. cc (e)) said
  told_of_round round.NoPages said = is_uncut (λ e. cc (e)) (λ e. cc (e)) said
  told_of_round round.OutOfMemory said = is_uncut (λ e. cc (e)) (λ e. cc (e)) said

  -- of a page file that is whole each fault may be told
  pub told_of_whole : (f : CentreFault) → IsUncut Pages pages → MayBeToldOfCut Pages pages f
  told_of_whole fault.BadLimit whole = tt
  told_of_whole (fault.Round round.ReadFault) whole = tt
  told_of_whole (fault.Round round.TooLarge) whole = tt
  told_of_whole (fault.Round round.BadHeader) whole = whole
  told_of_whole (fault.Round (round.Record n e)) whole = whole
  told_of_whole (fault.Round round.NoPages) whole = whole
  told_of_whole (fault.Round round.OutOfMemory) whole = whole
  told_of_whole (fault.File e) whole = whole
  told_of_whole (fault.Quotes e) whole = whole
  told_of_whole (fault.Unexpected found expected) whole = whole
  told_of_whole (fault.SearchLimit least found) whole = whole
  told_of_whole (fault.FirstPage needed) whole = whole
  told_of_whole fault.BadRate whole = whole
  told_of_whole (fault.Certificate e) whole = whole
  told_of_whole (fault.Transmission e) whole = whole
  told_of_whole fault.NotThePages whole = whole
  told_of_whole fault.NotTheEnd whole = whole
  told_of_whole fault.NotTheBound whole = whole

  abbrev StreamsCut : StreamFault → Type 0
  StreamsCut e = (e ≡ stream.Plan planning.BadLimit) ⊎ IsOfCut (stream.Round round.ReadFault) (stream.Round round.TooLarge) (Pages.is_cut pages) e

  read_by : {e : StreamFault} → e ≢ stream.Plan planning.BadLimit → (Pages.is_known → StreamsCut e) →
      Pages.is_known → IsOfCut (stream.Round round.ReadFault) (stream.Round round.TooLarge) (Pages.is_cut pages) e
  read_by other said = λ k. elim (said k) [ inl same ↦ absurd (other same) | inr of ↦ of ]

  pub told_of_stream : (e : StreamFault) → (Pages.is_known → StreamsCut e) → MayBeToldOfCut Pages pages (fault_of_stream e)
  told_of_stream (stream.Plan planning.BadLimit) said = tt
  told_of_stream (stream.Plan (planning.SearchLimit stop)) said = is_uncut (λ e. cc (e)) (λ e. cc (e)) (read_by (λ e. cc (e)) said)
  told_of_stream (stream.Plan planning.OutOfMemory) said = is_uncut (λ e. cc (e)) (λ e. cc (e)) (read_by (λ e. cc (e)) said)
  told_of_stream (stream.Round round.ReadFault) said = tt
  told_of_stream (stream.Round round.TooLarge) said = tt
  told_of_stream (stream.Round round.BadHeader) said = is_uncut (λ e. cc (e)) (λ e. cc (e)) (read_by (λ e. cc (e)) said)
  told_of_stream (stream.Round (round.Record n e)) said = is_uncut (λ e. cc (e)) (λ e. cc (e)) (read_by (λ e. cc (e)) said)
  told_of_stream (stream.Round round.NoPages) said = is_uncut (λ e. cc (e)) (λ e. cc (e)) (read_by (λ e. cc (e)) said)
  told_of_stream (stream.Round round.OutOfMemory) said = is_uncut (λ e. cc (e)) (λ e. cc (e)) (read_by (λ e. cc (e)) said)
  told_of_stream (stream.Transmission e) said = is_uncut (λ e. cc (e)) (λ e. cc (e)) (read_by (λ e. cc (e)) said)
  told_of_stream (stream.Certificate e) said = is_uncut (λ e. cc (e)) (λ e. cc (e)) (read_by (λ e. cc (e)) said)

  pub failed_cut : {e : RoundFault} {pages' : P} → (e ≡ round.ReadFault → HasFailed (Pages.failures pages) (Pages.failures pages')) →
      (Pages.is_known → IsOfCut round.ReadFault round.TooLarge (Pages.is_cut pages) e) → e ≡ round.ReadFault → FailedCut Pages pages pages'
  failed_cut failed said same = record { failed = failed same; cut = λ k. (said k).cut same }

  pub stream_cut : {e : StreamFault} {pages' : P} →
      (e ≡ stream.Round round.ReadFault → HasFailed (Pages.failures pages) (Pages.failures pages')) →
      (Pages.is_known → StreamsCut e) → e ≡ stream.Round round.ReadFault → FailedCut Pages pages pages'
  stream_cut failed said same = record { failed = failed same; cut = λ k. (read_by (λ e. let never = rw same at e in cc) said k).cut same }
