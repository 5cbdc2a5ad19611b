-- What each call promises, in the numbers and the bytes that cross to the caller.
use Rattle.std.specs.Prelude.{◌≡◌, ◌≢◌, ◌⊎◌, ℕ, ◌<◌, ◌≤◌, List, length, ◌++◌, drop, IsOk}
use Rattle.pocsag_words.specs.declared.ending.End.{End}
use Rattle.pocsag_words.specs.declared.ending.End.TheVariants as ends
use Rattle.pocsag_pages.specs.PageFile.{verdict}
use Rattle.pocsag_plan.specs.Verdicts.{Checked, ExplainsCertificate, ExplainsRound, IsNotShown}
use Rattle.pocsag_c.specs.declared.check.CheckInfo.{CheckInfo}
use Rattle.pocsag_c.specs.declared.refusal.Place.{Place}
use Rattle.pocsag_c.specs.declared.refusal.StatusAt.{StatusAt}
use Rattle.pocsag_c.specs.Statuses.{certificate_refusal, round_refusal}

-- The number of an end.
abbrev pub number_of_end : End → ℕ
number_of_end ends.Open = 0
number_of_end ends.Closed = 1
number_of_end ends.Idle = 2

-- The number of no end.
abbrev pub IsNoEnd : ℕ → Type 0
IsNoEnd number = (number ≢ 0) × (number ≢ 1) × (number ≢ 2)

-- The status and the place are those of a fault of which this is said.
pub record PrintsFault {F : Type 0} (refusal : F → StatusAt) (Explains : F → Type 0) (status : ℕ) (place : Place) : Type 0 where
  pub fault : F
  pub why : Explains fault
  pub same_status : status ≡ (refusal fault).status
  pub same_place : place ≡ (refusal fault).place

-- What is reported beside the place where nothing was judged.
abbrev pub no_verdict : Place → CheckInfo
no_verdict place = record { end = 0; batches = 0; place = place }

-- This is so of the end of this number.
pub record IsSoOfEnd (number : ℕ) (P : End → Type 0) : Type 0 where
  pub end : End
  pub same_end : number ≡ number_of_end end
  pub holds : P end

-- The certificate shows its number of batches for its end and the page file's round.
abbrev pub IsShown : (file text : List ℕ) → CheckInfo → Type 0
IsShown file text info = IsSoOfEnd info.end (λ end. Checked file text end info.batches)

-- Both can be read, and the checker does not accept the certificate's tree.
abbrev pub IsNotAccepted : (file text : List ℕ) → CheckInfo → Type 0
IsNotAccepted file text info = IsSoOfEnd info.end (λ end. IsNotShown file text end info.batches)

-- The status and the place are those of the page file's fault; or it has none, and they are those of the certificate's.
abbrev pub IsUnjudged : (file text : List ℕ) (status : ℕ) → Place → Type 0
IsUnjudged file text status place =
    PrintsFault round_refusal (ExplainsRound file) status place
    ⊎ (IsOk (verdict file) × PrintsFault certificate_refusal (ExplainsCertificate text) status place)

-- The buffer begins with these bytes, whose length is reported, and is as it was behind them.
pub record IsDelivered (before after : List ℕ) (told : ℕ) (bytes : List ℕ) : Type 0 where
  pub all : told ≡ length bytes
  pub room : told ≤ length before
  pub bytes_then_rest : after ≡ bytes ++ drop told before

-- The buffer is too small for these bytes, whose length is reported, and is as it was.
pub record IsTooSmall (before after : List ℕ) (told : ℕ) (bytes : List ℕ) : Type 0 where
  pub all : told ≡ length bytes
  pub no_room : length before < told
  pub untouched : after ≡ before
