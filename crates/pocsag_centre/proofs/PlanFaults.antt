-- Why `plan` prints nothing, by the fault of its stream.
use Rattle.pocsag_centre.proofs.Prelude.{◌≡◌, Some, inl, inr, refl, bound_tree_of, ExplainsStream, IsCertificate, IsTransmission, WritesCertificatePart, WritesInTurn, WritesPart, StreamFault, Search, FailedCut, fault_of_stream, ExplainsPlanFiles, PlanFiles}
use Rattle.pocsag_words.specs.declared.device.Sink.{Ghosts as Writer}
use Rattle.pocsag_words.specs.declared.device.Source.{Ghosts as Reader}
use Rattle.pocsag_pages.specs.declared.fault.RoundFault.TheVariants as round
use Rattle.pocsag_plan.specs.declared.fault.PlanFault.TheVariants as planning
use Rattle.pocsag_plan.specs.declared.fault.StreamFault.TheVariants as stream
use Rattle.pocsag_centre.proofs.CutFiles.{unless_read}

module _ {P T C : Type 0} (Pages : Reader P) (Tx : Writer T) (Cert : Writer C) (search : Search) (files files' : PlanFiles P T C) where
  pub why_unplanned : (f : StreamFault) →
      (Pages.is_known → ExplainsStream search.on_limit (Pages.held files.pages) search.end search.limit f) →
      WritesInTurn Tx.failures Cert.failures files.tx files'.tx files.cert files'.cert (Some f) →
      (Pages.is_known → Tx.is_known → IsTransmission f →
      WritesPart search.on_limit (Pages.held files.pages) search.end (Tx.taken files.tx) (Tx.taken files'.tx)) →
      (Pages.is_known → Tx.is_known → Cert.is_known → IsCertificate f →
      WritesCertificatePart search.on_limit (Pages.held files.pages) search.end (Tx.taken files.tx) (Tx.taken files'.tx)
      (Cert.taken files.cert) (Cert.taken files'.cert)) →
      (f ≡ stream.Round round.ReadFault → FailedCut Pages files.pages files'.pages) →
      ExplainsPlanFiles Pages Tx Cert search files files' (fault_of_stream f)
  why_unplanned (stream.Plan planning.BadLimit) why turns part whole read =
      ((turns.untouched tt).0, (turns.untouched tt).1, λ k. why k)
  why_unplanned (stream.Plan (planning.SearchLimit stop)) why turns part whole read =
      ((turns.untouched tt).0, (turns.untouched tt).1, λ k. ((why k).1, ((why k).0, (why k).1, (bound_tree_of stop.tree, (why k).2))))
  why_unplanned (stream.Plan planning.OutOfMemory) why turns part whole read =
      ((turns.untouched tt).0, (turns.untouched tt).1, λ k. ((why k).0, why k))
  why_unplanned (stream.Round round.ReadFault) why turns part whole read =
      ((turns.untouched tt).0, (turns.untouched tt).1, read refl)
  why_unplanned (stream.Round round.OutOfMemory) why turns part whole read =
      ((turns.untouched tt).0, (turns.untouched tt).1, λ k. ((why k).0, inl refl))
  why_unplanned (stream.Round round.TooLarge) why turns part whole read =
      ((turns.untouched tt).0, (turns.untouched tt).1, λ k. ((why k).0, unless_read round.TooLarge (λ e. cc (e)) (why k).1))
  why_unplanned (stream.Round round.BadHeader) why turns part whole read =
      ((turns.untouched tt).0, (turns.untouched tt).1, λ k. ((why k).0, unless_read round.BadHeader (λ e. cc (e)) (why k).1))
  why_unplanned (stream.Round (round.Record n e)) why turns part whole read =
      ((turns.untouched tt).0, (turns.untouched tt).1, λ k. ((why k).0, unless_read (round.Record n e) (λ e. cc (e)) (why k).1))
  why_unplanned (stream.Round round.NoPages) why turns part whole read =
      ((turns.untouched tt).0, (turns.untouched tt).1, λ k. ((why k).0, unless_read round.NoPages (λ e. cc (e)) (why k).1))
  why_unplanned (stream.Transmission f) why turns part whole read =
      inl (turns.write_failed tt, turns.not_begun tt, λ k t. part k t tt)
  why_unplanned (stream.Certificate f) why turns part whole read =
      inr (turns.certificate_failed tt, λ k t c. whole k t c tt)
