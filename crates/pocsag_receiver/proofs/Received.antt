-- What is received of bytes that were sent, and why a command does not answer.
use Rattle.pocsag_receiver.proofs.Prelude.{◌≡◌, ◌⊎◌, ℕ, ◌*◌, List, length, None, Some, Result, Ok, Err, refl, ap, subst, inl, inr, arith, Sent, after_preamble, body_bytes, synced, words_of, IsFaultless, body_begins, hearing_fault, receiver_status, ReceiverFault}
use Rattle.std.specs.Result.{IfOk, MatchResult, is_ok}
use Rattle.pocsag_pages.proofs.Lengths.{body_length, synced_count}
use Rattle.pocsag_decode.proofs.Preambles.{after_is}
use Rattle.pocsag_pager.specs.Shown.{ShowsSome}
use Rattle.pocsag_pager.specs.declared.fault.PagerFault.{PagerFault}
use Rattle.pocsag_pager.specs.declared.fault.PagerFault.TheVariants as hearing
use Rattle.pocsag_shell.specs.declared.fault.FileFault.TheVariants as file
use Rattle.pocsag_receiver.specs.Listings.{ExplainsDecoding, ExplainsHearing}
use Rattle.pocsag_receiver.specs.declared.fault.ReceiverFault.TheVariants as fault

-- what holds of a value holds of it behind `map_err`
pub passed_on : {T E D : Type 0} (P : T → Type 0) (Q : E → Type 0) (r : Result T E) (mapped : Result T D) (v : T)
    → MatchResult r (λ x. mapped ≡ Ok x) Q → is_ok mapped ≡ is_ok r → mapped ≡ Ok v → IfOk r P → P v
passed_on P Q (Ok x) mapped v same variant is p = let e : x ≡ v = cc in subst P e p
passed_on P Q (Err e) mapped v same variant is p = let ok = ap is_ok is in absurd (cc)

-- bytes of a reading are not refused
pub never_refused : (X : List ℕ) (e : ReceiverFault) → IsFaultless X → ExplainsDecoding X e → receiver_status e ≡ 3
never_refused X (fault.Transmission f) none said = absurd (none f said)
never_refused X (fault.File file.OutOfMemory) none said = refl
never_refused X _ none said = absurd said

pub why_unheard : (a : ℕ) (X : List ℕ) (f : PagerFault) →
    (hearing_fault a X ≡ Some f) ⊎ ((hearing_fault a X ≡ None) × (f ≡ hearing.OutOfMemory)) →
    (hearing_fault a X ≡ None → ShowsSome (words_of (after_preamble X)) a) → ExplainsHearing a X (fault.Pager f)
why_unheard a X f (inl is) some = inl is
why_unheard a X f (inr none) some = inr (none.1, none.0, some none.0)

-- how long the batches are
pub batches_long : (X T : List ℕ) (s : Sent X T) → length (after_preamble X) ≡ 68 * s.batches
batches_long X T s =
    let body : after_preamble X ≡ body_bytes T =
    after_is X s.preamble (body_bytes T) (record { whole = s.bytes; other = body_begins T }) in
    let whole = s.whole.1 in
    let count = synced_count 0 T in
    let size = body_length (synced 0 T) in
    omega (arith, ap length body)
