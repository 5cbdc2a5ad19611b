-- What was read back, and what was found in its place.
use Rattle.pocsag_centre.proofs.Prelude.{◌≡◌, ℕ, false, List, map, refl, sym, ap, ◌∙◌, subst, inl, inr, Err, IfErr, IfOk, Ok, OnOk, Result, length-map, RoundFault, Page, EndsAs, IsBatchList, BoundTree, IsText, NoneHasFewer, HasFailed, IsOfCut, kind_of, End, ReadsAs, Search, FailedCut, IsStreamOf, CentreFault, PlanFiles}
use Rattle.std.specs.Prelude.{◌⊎◌}
use Rattle.pocsag_pages.specs.declared.fault.RoundFault.TheVariants as round_fault
use Rattle.pocsag_tree.specs.Answers.{given_before, IsFault, IsRefusal}
use Rattle.pocsag_tree.specs.Parts.{HasFirst}
use Rattle.pocsag_tree.specs.declared.refusals.CertificateFault.{CertificateFault}
use Rattle.pocsag_tree.specs.declared.refusals.CertificateFault.TheVariants as tree_fault
use Rattle.pocsag_words.specs.declared.device.Sink.{Ghosts as Writer}
use Rattle.pocsag_words.specs.declared.device.Source.{Ghosts as Reader}
use Rattle.pocsag_centre.specs.Verification.{AreAmong, IsTransmissionOf, ShowsExpected, Verified, WasNoCertificate, WasNoRound, verifies, verifies_round}
use Rattle.pocsag_centre.specs.Verification.ExplainsVerifying.{no_round, unverified}
use Rattle.pocsag_centre.specs.declared.fault.CentreFault.TheVariants as fault
use Rattle.pocsag_centre.proofs.CutFiles.{failed_cut, told_of_round, told_of_whole, unless_read}

pub transmission : (end : End) (R : List Page) (X : List ℕ) (ps : List Page) (r : ReadsAs X ps) → AreAmong ps R →
    EndsAs end (map kind_of r.codewords) → (n : ℕ) → n ≡ r.sent.batches → IsTransmissionOf end R n X
transmission end R X ps r among ends n same =
    let whole : IsBatchList r.sent.batches (map kind_of r.codewords) =
    (r.sent.whole.0, length-map r.codewords kind_of ∙ r.sent.whole.1) in
    record {
      codewords = r.codewords;
      sent = r.sent;
      legal = (
        r.sent.codewords,
        (
          record {
            whole = subst (λ (b : ℕ). IsBatchList b (map kind_of r.codewords)) (sym same) whole;
            ps = ps;
            reads = r.reads;
            as_many = among.as_many;
            each = among.each;
          },
          ends,
        ),
      );
    }

-- the bound that is due was shown
pub verified : (search : Search) (sent certificate : List ℕ) (R : List Page) (batches : ℕ) (end : End) (bound : ℕ) (tree : BoundTree) →
    IsTransmissionOf search.end R batches sent → IsText end bound tree certificate →
    ShowsExpected search R batches end bound tree → NoneHasFewer search.end R bound → Verified R search sent certificate
verified search sent certificate R batches end bound tree is text due fewest = record {
  bound = bound;
  tree = tree;
  text = subst (λ (e : End). IsText e bound tree certificate) due.same_end text;
  accepted = due.accepted;
  none_fewer = fewest;
  batches = batches;
  transmission = is;
  due = due.due;
}

-- why a reader gave no round,
module _ {P : Type 0} (Pages : Reader P) (judge : List ℕ → Result (List Page) RoundFault) (pages pages' : P) where
  abbrev WhyNone : RoundFault → Type 0
  WhyNone e = (e ≡ round_fault.OutOfMemory) ⊎ (e ≡ round_fault.ReadFault) ⊎ (judge (Pages.held pages) ≡ Err e)

  pub not_round : (e : RoundFault) → (Pages.is_known → WhyNone e) →
      (e ≡ round_fault.ReadFault → FailedCut Pages pages pages') → WasNoRound Pages judge pages pages' e
  not_round round_fault.ReadFault why failed = failed refl
  not_round round_fault.OutOfMemory why failed = λ k. inl refl
  not_round round_fault.TooLarge why failed = λ k. unless_read round_fault.TooLarge (λ e. cc (e)) (why k)
  not_round round_fault.BadHeader why failed = λ k. unless_read round_fault.BadHeader (λ e. cc (e)) (why k)
  not_round (round_fault.Record n e) why failed = λ k. unless_read (round_fault.Record n e) (λ e. cc (e)) (why k)
  not_round round_fault.NoPages why failed = λ k. unless_read round_fault.NoPages (λ e. cc (e)) (why k)

-- and no certificate
module _ {C : Type 0} (Cert : Reader C) (cert cert' : C) where
  of_text : (e : CertificateFault) → ¬ IsRefusal e → IsFault e (Cert.held cert) → HasFirst e (Cert.held cert)
  of_text e other (inl refused) = absurd (other refused)
  of_text e other (inr first) = first

  pub not_certificate : (e : CertificateFault) → (Cert.is_known → IsFault e (Cert.held cert)) →
      (e ≡ tree_fault.ReadFault → HasFailed (Cert.failures cert) (Cert.failures cert')) →
      (Cert.is_known → e ≡ tree_fault.OutOfMemory → HasFirst tree_fault.Truncated (given_before (Cert.held cert) (Cert.held cert'))) →
      WasNoCertificate Cert cert cert' e
  not_certificate tree_fault.ReadFault why failed room = failed refl
  not_certificate tree_fault.OutOfMemory why failed room = λ k. room k refl
  not_certificate tree_fault.NotCertificate why failed room = λ k. of_text tree_fault.NotCertificate (λ never. never) (why k)
  not_certificate tree_fault.Version why failed room = λ k. of_text tree_fault.Version (λ never. never) (why k)
  not_certificate tree_fault.Truncated why failed room = λ k. of_text tree_fault.Truncated (λ never. never) (why k)
  not_certificate tree_fault.Trailing why failed room = λ k. of_text tree_fault.Trailing (λ never. never) (why k)
  not_certificate tree_fault.BadTag why failed room = λ k. of_text tree_fault.BadTag (λ never. never) (why k)
  not_certificate tree_fault.BadField why failed room = λ k. of_text tree_fault.BadField (λ never. never) (why k)
  not_certificate tree_fault.TooDeep why failed room = λ k. of_text tree_fault.TooDeep (λ never. never) (why k)
  not_certificate tree_fault.TooMany why failed room = λ k. of_text tree_fault.TooMany (λ never. never) (why k)

-- what reading a round's files back wrote is what reading back those of the page file does, whose round it is
module _ {P T C O : Type 0} (Pages : Reader P) (Tx : Reader T) (Cert : Reader C) (Out : Writer O) (judge : List ℕ → Result (List Page) RoundFault)
    (search : Search) (files files' : PlanFiles P T C) (out out' : O) where
  abbrev Streams : Result ℕ CentreFault → Type 0
  Streams result = IsStreamOf (verifies Pages Tx Cert judge search files files') Out out out' result

  abbrev RoundStreams : List Page → Result ℕ CentreFault → Type 0
  RoundStreams R result = IsStreamOf (verifies_round Tx Cert search R files.tx files'.tx files.cert files'.cert) Out out out' result

  of_round : (R : List Page) → (Pages.is_known → judge (Pages.held files.pages) ≡ Ok R) → (Pages.is_known → Pages.is_cut files.pages ≡ false) →
      (result : Result ℕ CentreFault) → RoundStreams R result → Streams result
  of_round R read whole (Ok s) stream =
      (λ t. let p = stream.0 t in (p.0, (whole, (p.1.0, p.1.1, λ u v. (R, read, p.1.2 u v))), p.2), tt)
  of_round R read whole (Err f) stream = (
    λ t. tt,
    elim stream.1 [
      | inl why ↦ inl ((told_of_whole Pages files.pages f whole, unverified (R, read, why.0)), why.1)
      | inr (inl why) ↦
          inr (inl (why.0, why.1, λ t. let p = why.2 t in (p.0, p.1, (whole, (p.2.0, p.2.1, λ u v. (R, read, p.2.2 u v))), p.3)))
      | inr (inr why) ↦ absurd why.0
    ],
  )

  pub streamed : (round : Result (List Page) RoundFault) (result : Result ℕ CentreFault) →
      (Pages.is_known → IfOk round (λ R. judge (Pages.held files.pages) ≡ Ok R)) →
      (Pages.is_known → IfErr round (WhyNone Pages judge files.pages files'.pages)) →
      (Pages.is_known → OnOk round (Pages.is_cut files.pages ≡ false)) →
      (Pages.is_known → IfErr round (IsOfCut round_fault.ReadFault round_fault.TooLarge (Pages.is_cut files.pages))) →
      (round ≡ Err round_fault.ReadFault → HasFailed (Pages.failures files.pages) (Pages.failures files'.pages)) →
      IfErr round (λ e. (result ≡ Err (fault.Round e)) × (out' ≡ out)) → IfOk round (λ R. RoundStreams R result) → Streams result
  streamed (Ok R) result ok err uncut cut failed none stream = of_round R ok uncut result stream
  streamed (Err e) result ok err uncut cut failed none stream =
      rw none.0 (
        λ t. tt,
        inl (
          (
            told_of_round Pages files.pages e cut,
            no_round e refl (not_round Pages judge files.pages files'.pages e err (failed_cut Pages files.pages (λ same. failed (ap Err same)) cut)),
          ),
          none.1,
        ),
      )
