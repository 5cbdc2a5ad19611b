-- Why no front of a page file is planned, and what `plan --at-most` leaves of its files.
use Rattle.pocsag_centre.proofs.Prelude.{◌≡◌, ◌⊎◌, List, ℕ, length, refl, subst, sym, inl, Some, IsOk, Err, Ok, FailedCut, Page, RoundFault, firsts, held_pages, bound_tree_of, page_file, ExplainsFront, HeadlineOf, IsCertificate, IsTransmission, IsUnsent, WritesAllOf, WritesCertificatePartOf, WritesInTurn, WritesPartOf, StreamFault, FrontPlan, fault_of_front, IsExpected, aside_file, certificate_text, front_text, IsFrontRead, cert_failed, tx_failed, planned_of, FrontAsked}
use Rattle.pocsag_words.specs.declared.device.Sink.{Ghosts as Writer}
use Rattle.pocsag_words.specs.declared.device.Source.{Ghosts as Reader}
use Rattle.pocsag_pages.specs.declared.fault.RoundFault.TheVariants as round
use Rattle.pocsag_branch.specs.Found.{IsNodeLimit}
use Rattle.pocsag_plan.specs.declared.fault.NoFront.{NoFront}
use Rattle.pocsag_plan.specs.declared.fault.NoFront.TheVariants as front
use Rattle.pocsag_plan.specs.declared.fault.PlanFault.TheVariants as planning
use Rattle.pocsag_plan.specs.declared.fault.StreamFault.TheVariants as stream
use Rattle.pocsag_shell.specs.declared.fault.FileFault.TheVariants as file
use Rattle.pocsag_centre.specs.FrontWorks.{ExplainsFrontFiles, ExplainsUnplanned, IsFrontBegun, IsFrontDone, TookAll}
use Rattle.pocsag_centre.specs.declared.fault.CentreFault.TheVariants as fault
use Rattle.pocsag_centre.specs.declared.front.FrontFiles.{FrontFiles}
use Rattle.pocsag_centre.proofs.CutFiles.{unless_read}

-- why there is no front of the round says why none of its page file is written
module _ {P : Type 0} (Pages : Reader P) (asked : FrontAsked) (pages pages' : P) (Q : List Page)
    (read : Pages.is_known → held_pages asked.may_wait (Pages.held pages) ≡ Ok Q) (expected : IsExpected asked.expect (length Q)) where
  pub front_unwritten : (e : NoFront) → ExplainsFront asked.search (firsts (planned_of asked Q)) asked.batches e
      → ExplainsUnplanned Pages asked pages pages' (fault_of_front e)
  front_unwritten (front.Plan planning.BadLimit) said = λ k. said
  front_unwritten (front.Plan (planning.SearchLimit stop)) said =
      λ k. (said.0, said.1, record { queue = Q; read = read k; holds = (expected, (bound_tree_of stop.tree, said.2)) })
  front_unwritten (front.Plan planning.OutOfMemory) said = λ k. (said, subst IsOk (sym (read k)) refl)
  front_unwritten (front.FirstPage needed) said =
      λ k. (said.0, record { queue = Q; read = read k; holds = (expected, said.1) })

-- so does why its page file was not read
module _ {P : Type 0} (Pages : Reader P) (asked : FrontAsked) (pages pages' : P) (limit : IsNodeLimit asked.search.limit) where
  pub front_unread : (e : RoundFault) →
      (Pages.is_known → (e ≡ round.OutOfMemory) ⊎ (e ≡ round.ReadFault) ⊎ (held_pages asked.may_wait (Pages.held pages) ≡ Err e)) →
      (e ≡ round.ReadFault → FailedCut Pages pages pages') → ExplainsUnplanned Pages asked pages pages' (fault.Round e)
  front_unread round.ReadFault why failed = (limit, failed refl)
  front_unread round.OutOfMemory why failed = λ k. (limit, inl refl)
  front_unread round.TooLarge why failed = λ k. (limit, unless_read round.TooLarge (λ e. cc (e)) (why k))
  front_unread round.BadHeader why failed = λ k. (limit, unless_read round.BadHeader (λ e. cc (e)) (why k))
  front_unread (round.Record n e) why failed = λ k. (limit, unless_read (round.Record n e) (λ e. cc (e)) (why k))
  front_unread round.NoPages why failed = λ k. (limit, unless_read round.NoPages (λ e. cc (e)) (why k))

-- What `plan --at-most` leaves of its files, where REST, ASIDE and WHY took what they are due of the front.
module _ {P S : Type 0} (Pages : Reader P) (Out : Writer S) (asked : FrontAsked) (files files' : FrontFiles P S) (front : FrontPlan)
    (set_aside : List Page) (read : Pages.is_known → IsFrontRead (Pages.held files.pages) asked front set_aside)
    (counted : files'.count ≡ front.bounded.plan.pages) (rest : Out.is_known → TookAll Out files.rest files'.rest (page_file front.rest.items))
    (aside : Out.is_known → TookAll Out files.aside files'.aside (aside_file asked.sets_aside set_aside))
    (why : Out.is_known → TookAll Out files.why files'.why (certificate_text front.why)) where
  abbrev begun : Pages.is_known → Out.is_known → IsFrontBegun Pages Out asked files files'
  begun k u = record { front = front; set_aside = set_aside; read = read k; counted = counted; rest = rest u; aside = aside u; why = why u }

  pub unsent_told : (f : StreamFault) → IsUnsent f →
      WritesInTurn Out.failures Out.failures files.tx files'.tx files.cert files'.cert (Some f) →
      (Out.is_known → IsTransmission f → WritesPartOf (HeadlineOf front.round front.bounded) (Out.taken files.tx) (Out.taken files'.tx)) →
      (Out.is_known → IsCertificate f →
      WritesCertificatePartOf (HeadlineOf front.round front.bounded) (Out.taken files.tx) (Out.taken files'.tx) (Out.taken files.cert) (Out.taken files'.cert)) →
      ExplainsFrontFiles Pages Out asked files files' (fault.File file.Write)
  unsent_told (stream.Transmission f) unsent turns part whole =
      tx_failed refl (turns.write_failed tt) (turns.not_begun tt) (λ k u. (begun k u, part u tt))
  unsent_told (stream.Certificate f) unsent turns part whole = cert_failed refl (turns.certificate_failed tt) (λ k u. (begun k u, whole u tt))
  unsent_told (stream.Plan f) unsent turns part whole = absurd unsent
  unsent_told (stream.Round f) unsent turns part whole = absurd unsent

  pub front_done : (text : List ℕ) → text ≡ front_text asked front set_aside →
      (Out.is_known → WritesAllOf (HeadlineOf front.round front.bounded) (Out.taken files.tx) (Out.taken files'.tx) (Out.taken files.cert) (Out.taken files'.cert)) →
      Pages.is_known → Out.is_known → IsFrontDone Pages Out asked files files' text
  front_done text printed sends k u = record { begun = begun k u; sent = sends u; printed = printed }
