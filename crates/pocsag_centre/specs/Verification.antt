-- What `--verify` reads back where its exit status is 0, and what it finds where it is 1.
use Rattle.std.specs.Prelude.{◌≡◌, ◌≢◌, ◌⊎◌, ℕ, ◌+◌, false, List, [], ◌∷◌, ◌++◌, codes, length, map, All, Contains, Result, Ok, Err}
use Rattle.pocsag_words.specs.Devices.{HasFailed}
use Rattle.pocsag_words.specs.Kinds.{kind_of}
use Rattle.pocsag_words.specs.declared.device.Source.{Ghosts as Reader}
use Rattle.pocsag_words.specs.declared.ending.End.{End}
use Rattle.pocsag_pages.specs.declared.page.Page.{Page}
use Rattle.pocsag_pages.specs.declared.fault.RoundFault.{RoundFault}
use Rattle.pocsag_pages.specs.declared.fault.RoundFault.TheVariants as round_fault
use Rattle.pocsag_pages.specs.Bytes.{Sent}
use Rattle.pocsag_pages.specs.Reading.{EndsAs, IsLegalList}
use Rattle.pocsag_tree.specs.Answers.{given_before}
use Rattle.pocsag_tree.specs.BoundTrees.{BoundTree}
use Rattle.pocsag_tree.specs.CertificateText.{IsText}
use Rattle.pocsag_tree.specs.Parts.{HasFirst}
use Rattle.pocsag_tree.specs.declared.refusals.CertificateFault.{CertificateFault}
use Rattle.pocsag_tree.specs.declared.refusals.CertificateFault.TheVariants as certificate_fault
use Rattle.pocsag_check.specs.Acceptance.{IsAcceptedFor}
use Rattle.pocsag_decode.specs.Faults.{HasFault, ReadsAs}
use Rattle.pocsag_decode.specs.declared.fault.DecodeFault.TheVariants as decoding
use Rattle.pocsag_plan.specs.Plans.{NoneHasFewer}
use Rattle.pocsag_plan.specs.declared.search.OnLimit.{OnLimit}
use Rattle.pocsag_plan.specs.declared.search.OnLimit.TheVariants.{Fewest, Always}
use Rattle.pocsag_plan.specs.declared.search.Search.{Search}
use Rattle.pocsag_shell.specs.Readers.{FailedCut, IsSoOfHeld, WasNotRead}
use Rattle.pocsag_shell.specs.Runs.{Work}
use Rattle.pocsag_shell.specs.declared.fault.FileFault.{FileFault}
use Rattle.pocsag_centre.specs.Works.{answered, of_whole}
use Rattle.pocsag_centre.specs.declared.fault.CentreFault.{CentreFault}
use Rattle.pocsag_centre.specs.declared.fault.CentreFault.TheVariants as fault
use Rattle.pocsag_centre.specs.declared.plan.PlanFiles.{PlanFiles}

-- The pages are as many as the others, and each is among these.
pub record AreAmong (others pages : List Page) : Type 0 where
  pub as_many : length others ≡ length pages
  pub each : All (Contains others) pages

-- The bytes are sent from codewords that are legal for the round and the end, in so many batches.
pub record IsTransmissionOf (end : End) (round : List Page) (batches : ℕ) (bytes : List ℕ) : Type 0 where
  pub codewords : List ℕ
  pub sent : Sent bytes codewords
  pub legal : IsLegalList end codewords batches round

-- The bound that a certificate beside so many batches is for: that number, or, where one batch more than the bound is an
-- answer, one less too.
abbrev pub IsExpectedBound : OnLimit → (bound batches : ℕ) → Type 0
IsExpectedBound Fewest bound batches = bound ≡ batches
IsExpectedBound Always bound batches = (bound ≡ batches) ⊎ (bound + 1 ≡ batches)

-- The transmission is one of the round and the end, in so many batches, and the certificate is a text of the end, a bound and a tree
-- that the checker accepts for them, so that no transmission has fewer batches than the bound: the one that is due.
pub record Verified (round : List Page) (search : Search) (sent certificate : List ℕ) : Type 0 where
  pub bound : ℕ
  pub tree : BoundTree
  pub text : IsText search.end bound tree certificate
  pub accepted : IsAcceptedFor false search.end round bound tree
  pub none_fewer : NoneHasFewer search.end round bound
  pub batches : ℕ
  pub transmission : IsTransmissionOf search.end round batches sent
  pub due : IsExpectedBound search.on_limit bound batches

-- The bytes read as pages, of which there is at least one.
pub record HoldsSome (bytes : List ℕ) : Type 0 where
  pub pages : List Page
  pub reads : ReadsAs bytes pages
  pub some : pages ≢ []

-- The bytes read as pages that are not those of the round.
pub record HoldsOthers (round : List Page) (bytes : List ℕ) : Type 0 where
  pub pages : List Page
  pub reads : ReadsAs bytes pages
  pub others : ¬ AreAmong pages round

-- They read as pages, and do not end as was asked for.
pub record EndsOtherwise (end : End) (bytes : List ℕ) : Type 0 where
  pub pages : List Page
  pub reads : ReadsAs bytes pages
  pub ends : ¬ EndsAs end (map kind_of reads.codewords)

-- The certificate shows for the end a bound that is due beside so many batches of the round.
pub record ShowsExpected (search : Search) (round : List Page) (batches : ℕ) (end : End) (bound : ℕ) (tree : BoundTree) : Type 0 where
  pub same_end : end ≡ search.end
  pub due : IsExpectedBound search.on_limit bound batches
  pub accepted : IsAcceptedFor false search.end round bound tree

-- The bytes are a transmission of the round and the end, and the certificate beside them does not show such a bound.
pub record IsNotDue (search : Search) (round : List Page) (bytes certificate : List ℕ) : Type 0 where
  pub batches : ℕ
  pub transmission : IsTransmissionOf search.end round batches bytes
  pub end : End
  pub bound : ℕ
  pub tree : BoundTree
  pub text : IsText end bound tree certificate
  pub undue : ¬ ShowsExpected search round batches end bound tree

-- Why bytes are not taken for a transmission of the round and the end. Memory is wanted only for pages, behind every fault of the
-- transmission.
abbrev pub ExplainsReadback : (end : End) (round : List Page) (bytes : List ℕ) → CentreFault → Type 0
ExplainsReadback end round bytes (fault.Transmission f) = ((f ≡ decoding.OutOfMemory) × HoldsSome bytes) ⊎ HasFault bytes f
ExplainsReadback end round bytes fault.NotThePages = HoldsOthers round bytes
ExplainsReadback end round bytes fault.NotTheEnd = EndsOtherwise end bytes
ExplainsReadback end round bytes _ = ⊥

-- And why a reader is not taken for one of such a transmission: it was not read, or this is so of its bytes.
abbrev pub ExplainsUntaken : {T : Type 0} → Reader T → (end : End) (round : List Page) → (tx tx_after : T) → CentreFault → Type 0
ExplainsUntaken Tx end round tx tx_after f =
    ((e : FileFault) × (f ≡ fault.File e) × WasNotRead Tx tx tx_after e)
    ⊎ IsSoOfHeld Tx tx (λ bytes. ExplainsReadback end round bytes f)

-- Why a reader gives no round of the bytes, which are judged so, and no certificate: it failed, or this is so of its bytes. Memory
-- for a certificate is wanted only where a byte more is.
abbrev pub WasNoRound : {P : Type 0} → Reader P → (judge : List ℕ → Result (List Page) RoundFault) → (pages pages_after : P) → RoundFault → Type 0
WasNoRound Pages judge pages pages_after round_fault.ReadFault = FailedCut Pages pages pages_after
WasNoRound Pages judge pages pages_after f =
    Pages.is_known → (f ≡ round_fault.OutOfMemory) ⊎ (judge (Pages.held pages) ≡ Err f)

abbrev pub WasNoCertificate : {C : Type 0} → Reader C → (cert cert_after : C) → CertificateFault → Type 0
WasNoCertificate Cert cert cert_after certificate_fault.ReadFault = HasFailed (Cert.failures cert) (Cert.failures cert_after)
WasNoCertificate Cert cert cert_after certificate_fault.OutOfMemory =
    Cert.is_known → HasFirst certificate_fault.Truncated (given_before (Cert.held cert) (Cert.held cert_after))
WasNoCertificate Cert cert cert_after f = Cert.is_known → HasFirst f (Cert.held cert)

-- Why a transmission and a certificate are not verified for a round: the first fault of the transmission and of the certificate, and
-- last that this does not show the bound that is due.
pub data ExplainsUnverified {T C : Type 0} (Tx : Reader T) (Cert : Reader C) (search : Search) (round : List Page) (tx tx_after : T) (cert cert_after : C) (f : CentreFault) : Type 0 where
  not_taken : ExplainsUntaken Tx search.end round tx tx_after f
      → ExplainsUnverified Tx Cert search round tx tx_after cert cert_after f
  no_certificate : (e : CertificateFault) → f ≡ fault.Certificate e → WasNoCertificate Cert cert cert_after e
      → ((batches : ℕ) × IsSoOfHeld Tx tx (IsTransmissionOf search.end round batches))
      → ExplainsUnverified Tx Cert search round tx tx_after cert cert_after f
  not_due : f ≡ fault.NotTheBound
      → (Tx.is_known → Cert.is_known → IsNotDue search round (Tx.held tx) (Cert.held cert))
      → ExplainsUnverified Tx Cert search round tx tx_after cert cert_after f

-- The bytes that a reader holds are judged to be those of a round, of which this is so.
abbrev pub IsSoOfRound : {P : Type 0} → Reader P → (judge : List ℕ → Result (List Page) RoundFault) → (pages : P) → (List Page → Type 0) → Type 0
IsSoOfRound Pages judge pages Holds = (round : List Page) × (Pages.is_known → judge (Pages.held pages) ≡ Ok round) × Holds round

-- Why a transmission and a certificate are not verified for a page file, whose fault comes first.
pub data ExplainsVerifying {P T C : Type 0} (Pages : Reader P) (Tx : Reader T) (Cert : Reader C) (judge : List ℕ → Result (List Page) RoundFault) (search : Search) (files files_after : PlanFiles P T C) (f : CentreFault) : Type 0 where
  no_round : (e : RoundFault) → f ≡ fault.Round e → WasNoRound Pages judge files.pages files_after.pages e
      → ExplainsVerifying Pages Tx Cert judge search files files_after f
  unverified : IsSoOfRound Pages judge files.pages
      (λ round. ExplainsUnverified Tx Cert search round files.tx files_after.tx files.cert files_after.cert f)
      → ExplainsVerifying Pages Tx Cert judge search files files_after f

-- Reads a transmission and a certificate of a round back, and prints that they are verified.
abbrev pub verifies_round : {T C : Type 0} → Reader T → Reader C → Search → (round : List Page) → (tx tx_after : T) → (cert cert_after : C)
    → Work CentreFault
verifies_round Tx Cert search round tx tx_after cert cert_after = answered
    (λ status text. (status ≡ 0) × (text ≡ codes "verified" ++ (10 ∷ []))
    × (Tx.is_known → Cert.is_known → Verified round search (Tx.held tx) (Cert.held cert)))
    (ExplainsUnverified Tx Cert search round tx tx_after cert cert_after)

-- `--verify`: the same for the round that is sent of a page file, which is judged so.
abbrev pub verifies : {P T C : Type 0} → Reader P → Reader T → Reader C → (judge : List ℕ → Result (List Page) RoundFault) → Search
    → (files files_after : PlanFiles P T C) → Work CentreFault
verifies Pages Tx Cert judge search files files_after = of_whole Pages files.pages
    (λ status text. (status ≡ 0) × (text ≡ codes "verified" ++ (10 ∷ []))
    × (Tx.is_known → Cert.is_known →
    IsSoOfRound Pages judge files.pages (λ round. Verified round search (Tx.held files.tx) (Cert.held files.cert))))
    (ExplainsVerifying Pages Tx Cert judge search files files_after)
