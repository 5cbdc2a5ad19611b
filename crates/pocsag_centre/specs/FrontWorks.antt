-- `plan --at-most`: what it does over the bytes of a page file, and what its five other files take.
use Rattle.std.specs.Prelude.{◌≡◌, ℕ, List, ◌++◌}
use Rattle.pocsag_words.specs.Devices.{HasFailed, TookPrefix}
use Rattle.pocsag_words.specs.declared.device.Sink.{Ghosts as Writer}
use Rattle.pocsag_words.specs.declared.device.Source.{Ghosts as Reader}
use Rattle.pocsag_pages.specs.declared.page.Page.{Page}
use Rattle.pocsag_decode.specs.PageFiles.{page_file}
use Rattle.pocsag_branch.specs.Found.{IsNodeLimit}
use Rattle.pocsag_plan.specs.Streams.{HeadlineOf, WritesAllOf, WritesCertificatePartOf, WritesPartOf}
use Rattle.pocsag_plan.specs.declared.front.FrontPlan.{FrontPlan}
use Rattle.pocsag_shell.specs.Readers.{FailedCut}
use Rattle.pocsag_shell.specs.Runs.{Work}
use Rattle.pocsag_shell.specs.declared.fault.FileFault.TheVariants as file
use Rattle.pocsag_centre.specs.FrontFiles.{ExplainsNoFront, IsFrontRead, aside_file, certificate_text, front_text}
use Rattle.pocsag_centre.specs.Works.{OrFailed, of_whole}
use Rattle.pocsag_centre.specs.declared.fault.CentreFault.{CentreFault}
use Rattle.pocsag_centre.specs.declared.fault.CentreFault.TheVariants as fault
use Rattle.pocsag_centre.specs.declared.front.FrontAsked.{FrontAsked}
use Rattle.pocsag_centre.specs.declared.front.FrontFiles.{FrontFiles}

-- Why no front is planned: the reader failed, behind a limit that is one, or this is so of the bytes.
abbrev pub ExplainsUnplanned : {P : Type 0} → Reader P → FrontAsked → (pages pages_after : P) → CentreFault → Type 0
ExplainsUnplanned Pages asked pages pages_after =
    OrFailed (IsNodeLimit asked.search.limit × FailedCut Pages pages pages_after) ⊥ ⊥
    (λ f. Pages.is_known → ExplainsNoFront (Pages.held pages) asked f)

-- A writer took more: all that is due, or a prefix of it.
abbrev pub TookAll : {S : Type 0} → Writer S → (before after : S) → (due : List ℕ) → Type 0
TookAll Out before after due = Out.taken after ≡ Out.taken before ++ due

abbrev pub TookSome : {S : Type 0} → Writer S → (before after : S) → (due : List ℕ) → Type 0
TookSome Out before after due = TookPrefix (Out.taken before) (Out.taken after) due

-- Why REST, ASIDE and WHY, in this order, did not take what they are due, and what they took: one of them failed behind a prefix
-- of that, those before it took all, and those behind it are as they were.
pub data ExplainsOthers {S : Type 0} (Out : Writer S) (rest rest_after aside aside_after why why_after : S) (due_rest due_aside due_why : List ℕ) : Type 0 where
  rest_failed : HasFailed (Out.failures rest) (Out.failures rest_after) → (aside_after ≡ aside) × (why_after ≡ why)
      → (Out.is_known → TookSome Out rest rest_after due_rest)
      → ExplainsOthers Out rest rest_after aside aside_after why why_after due_rest due_aside due_why
  aside_failed : HasFailed (Out.failures aside) (Out.failures aside_after) → why_after ≡ why
      → (Out.is_known → TookAll Out rest rest_after due_rest × TookSome Out aside aside_after due_aside)
      → ExplainsOthers Out rest rest_after aside aside_after why why_after due_rest due_aside due_why
  why_failed : HasFailed (Out.failures why) (Out.failures why_after)
      → (Out.is_known → TookAll Out rest rest_after due_rest × TookAll Out aside aside_after due_aside × TookSome Out why why_after due_why)
      → ExplainsOthers Out rest rest_after aside aside_after why why_after due_rest due_aside due_why

-- The front of the page file, of which so many pages were planned, and the pages that are set aside. REST, ASIDE and WHY took all that
-- they are due of it.
pub record IsFrontBegun {P S : Type 0} (Pages : Reader P) (Out : Writer S) (asked : FrontAsked) (files files_after : FrontFiles P S) : Type 0 where
  pub front : FrontPlan
  pub set_aside : List Page
  pub read : IsFrontRead (Pages.held files.pages) asked front set_aside
  pub counted : files_after.count ≡ front.bounded.plan.pages
  pub rest : TookAll Out files.rest files_after.rest (page_file front.rest.items)
  pub aside : TookAll Out files.aside files_after.aside (aside_file asked.sets_aside set_aside)
  pub why : TookAll Out files.why files_after.why (certificate_text front.why)

-- Why nothing is printed of a front, and what its files took then.
pub data ExplainsFrontFiles {P S : Type 0} (Pages : Reader P) (Out : Writer S) (asked : FrontAsked) (files files_after : FrontFiles P S) (f : CentreFault) : Type 0 where
  -- No front is planned, or memory is refused behind the plan: nothing was written.
  unwritten : ExplainsUnplanned Pages asked files.pages files_after.pages f
      → (files_after.rest ≡ files.rest) × (files_after.aside ≡ files.aside) × (files_after.why ≡ files.why)
      × (files_after.tx ≡ files.tx) × (files_after.cert ≡ files.cert)
      → ExplainsFrontFiles Pages Out asked files files_after f
  -- REST, ASIDE or WHY failed, and TX and CERT are as they were.
  others_failed : f ≡ fault.File file.Write → (files_after.tx ≡ files.tx) × (files_after.cert ≡ files.cert)
      → ((front : FrontPlan) × (set_aside : List Page)
      × ExplainsOthers Out files.rest files_after.rest files.aside files_after.aside files.why files_after.why
      (page_file front.rest.items) (aside_file asked.sets_aside set_aside) (certificate_text front.why)
      × (files_after.count ≡ front.bounded.plan.pages)
      × (Pages.is_known → IsFrontRead (Pages.held files.pages) asked front set_aside))
      → ExplainsFrontFiles Pages Out asked files files_after f
  -- TX failed behind all of these and a prefix of what is due,
  tx_failed : f ≡ fault.File file.Write → HasFailed (Out.failures files.tx) (Out.failures files_after.tx) → files_after.cert ≡ files.cert
      → (Pages.is_known → Out.is_known → (begun : IsFrontBegun Pages Out asked files files_after)
      × WritesPartOf (HeadlineOf begun.front.round begun.front.bounded) (Out.taken files.tx) (Out.taken files_after.tx))
      → ExplainsFrontFiles Pages Out asked files files_after f
  -- and last CERT.
  cert_failed : f ≡ fault.File file.Write → HasFailed (Out.failures files.cert) (Out.failures files_after.cert)
      → (Pages.is_known → Out.is_known → (begun : IsFrontBegun Pages Out asked files files_after)
      × WritesCertificatePartOf (HeadlineOf begun.front.round begun.front.bounded) (Out.taken files.tx) (Out.taken files_after.tx)
      (Out.taken files.cert) (Out.taken files_after.cert))
      → ExplainsFrontFiles Pages Out asked files files_after f

-- Each of the five files took all that is due of the front, TX and CERT what the headline with its bound says of its pages, and the text
-- is the lines on it.
pub record IsFrontDone {P S : Type 0} (Pages : Reader P) (Out : Writer S) (asked : FrontAsked) (files files_after : FrontFiles P S) (text : List ℕ) : Type 0 where
  pub begun : IsFrontBegun Pages Out asked files files_after
  pub sent : WritesAllOf (HeadlineOf begun.front.round begun.front.bounded) (Out.taken files.tx) (Out.taken files_after.tx)
      (Out.taken files.cert) (Out.taken files_after.cert)
  pub printed : text ≡ front_text asked begun.front begun.set_aside

-- Writes the front of a page file into its files, and prints its counts.
abbrev pub fronts : {P S : Type 0} → Reader P → Writer S → FrontAsked → (files files_after : FrontFiles P S) → Work CentreFault
fronts Pages Out asked files files_after = of_whole Pages files.pages
    (λ status text. (status ≡ 0) × (Pages.is_known → Out.is_known → IsFrontDone Pages Out asked files files_after text))
    (ExplainsFrontFiles Pages Out asked files files_after)
