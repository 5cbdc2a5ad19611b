-- No call over bytes reports that a decoder or a pager has stopped, nor that bytes are too many to be counted.
use Rattle.pocsag_c.proofs.Prelude.{◌≡◌, ◌≢◌, ◌⊎◌, ℕ, ◌==◌, ◌%◌, Bool, not, List, Some, None, nat_lt, inl, inr, arith, if◌then◌else◌, after_preamble, leading, is_reserved, last_address}
use Rattle.std.specs.Prelude.{length}
use Rattle.std.specs.Option.{option_or}
use Rattle.pocsag_decode.specs.Faults.{HasFault, HasFaultOfEnd, HasFaultThere}
use Rattle.pocsag_decode.specs.Places.{IsBad}
use Rattle.pocsag_decode.specs.declared.fault.DecodeFault.{DecodeFault}
use Rattle.pocsag_decode.specs.declared.fault.DecodeFault.TheVariants as decoding
use Rattle.pocsag_pager.specs.Faults.{address_fault, bytes_fault, hearing_fault}
use Rattle.pocsag_pager.specs.declared.fault.PagerFault.{PagerFault}
use Rattle.pocsag_pager.specs.declared.fault.PagerFault.TheVariants as pager

-- the fault of a pager's address or bytes is none of a pager that has stopped
of_no_pager : (large reserved few none part : Bool) →
    option_or (if large then Some pager.BadAddress else if reserved then Some pager.ReservedAddress else None)
    (if few then Some pager.ShortPreamble else if none then Some pager.NoBatch else if part then Some pager.Truncated else None)
    ≡ Some pager.Failed → ⊥
of_no_pager large reserved few none part e = grind arith

never_stopped : (address : ℕ) (bytes : List ℕ) → hearing_fault address bytes ≡ Some pager.Failed → ⊥
unfolding address_fault bytes_fault
never_stopped address bytes e =
    of_no_pager (nat_lt last_address address) (is_reserved address) (nat_lt (leading bytes) 72) (length (after_preamble bytes) == 0)
    (not (length (after_preamble bytes) % 68 == 0)) e

pub never_failed : (address : ℕ) (bytes : List ℕ) (f : PagerFault) →
    (hearing_fault address bytes ≡ Some f) ⊎ ((hearing_fault address bytes ≡ None) × (f ≡ pager.OutOfMemory)) → f ≢ pager.Failed
never_failed address bytes f (inl is) same = let stopped : hearing_fault address bytes ≡ Some pager.Failed = cc in never_stopped address bytes stopped
never_failed address bytes f (inr memory) same = cc

-- nor is the fault of a transmission one of a decoder that has stopped or was given too much
bad_word_of_bytes : {ws : List ℕ} {j : ℕ} {f : DecodeFault} → IsBad ws j f → (f ≢ decoding.TooMuch) × (f ≢ decoding.Failed)
bad_word_of_bytes is = grind arith

pub fault_of_bytes : (X : List ℕ) (f : DecodeFault) → HasFault X f → (f ≢ decoding.TooMuch) × (f ≢ decoding.Failed)
fault_of_bytes X f (inl (HasFaultThere.short a b)) = (λ e. cc, λ e. cc)
fault_of_bytes X f (inl (HasFaultThere.bad a b)) = bad_word_of_bytes b.bad
fault_of_bytes X f (inr (HasFaultOfEnd.short a b)) = (λ e. cc, λ e. cc)
fault_of_bytes X f (inr (HasFaultOfEnd.no_batch a b)) = (λ e. cc, λ e. cc)
fault_of_bytes X f (inr (HasFaultOfEnd.cut a b c)) = (λ e. cc, λ e. cc)
