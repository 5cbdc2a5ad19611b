-- Texts that are written as they are made.
use Rattle.pocsag_show.proofs.Prelude.{◌≡◌, ℕ, ◌<◌, ◌≤◌, List, [], ◌++◌, length, refl, ap, sym, subst, inl, inr, ◌∙◌, append_assoc, arith, length-append, append-nil, some_left, took_on, took_so_far, of_list, HasEmitted, IsEmitting, StoppedEmitting}
use Rattle.pocsag_words.specs.Devices.{HasFailed, TookPrefix}
use Rattle.pocsag_words.specs.declared.device.Sink.{Ghosts as Writer}
use Rattle.pocsag_show.specs.declared.fault.ShowFault.TheVariants as fault
use Rattle.pocsag_decode.specs.declared.fault.ListFault.{ListFault}
use Rattle.pocsag_decode.specs.declared.fault.ListFault.TheVariants as list

module _ {S : Type 0} (Out : Writer S) (start now : S) (all : List ℕ) where
  -- the text begins with what waits
  pub begun : (waits rest : List ℕ) → all ≡ waits ++ rest → 0 < length waits → IsEmitting Out now now all waits rest
  begun waits rest e some = record {
    told = λ k. ap (λ (l : List ℕ). Out.taken now ++ l) e;
    grown = λ k. omega arith;
    some = some;
    failures = refl;
  }

  -- a piece more waits
  pub put_behind : (waits after piece rest : List ℕ) → IsEmitting Out start now all waits (piece ++ rest) → after ≡ waits ++ piece
      → IsEmitting Out start now all after rest
  put_behind waits after piece rest u e = record {
    told = λ k.
        u.told k ∙ ap (λ (l : List ℕ). Out.taken now ++ l) (sym (append_assoc waits piece rest) ∙ ap (λ (l : List ℕ). l ++ rest) (sym e));
    grown = u.grown;
    some = let s = u.some in omega (arith, ap length e, length-append waits piece);
    failures = u.failures;
  }

  -- the next piece of what is to be made waits
  pub next_put : {waits after due : List ℕ} (next rest piece : List ℕ) → due ≡ piece ++ next → IsEmitting Out start now all waits (due ++ rest)
      → after ≡ waits ++ piece → IsEmitting Out start now all after (next ++ rest)
  next_put {waits = waits} {after = after} next rest piece first u put =
      put_behind waits after piece (next ++ rest)
      (subst (IsEmitting Out start now all waits) (ap (λ (l : List ℕ). l ++ rest) first ∙ append_assoc piece next rest) u) put

  -- memory was refused
  pub refused : (waits rest : List ℕ) → IsEmitting Out start now all waits rest → StoppedEmitting Out start now all fault.OutOfMemory
  refused waits rest u = record {
    took = λ k. took_so_far (Out.taken start) (Out.taken now) (waits ++ rest) all (u.grown k) (u.told k);
    kind = inr refl;
    short = λ is k. some_left (Out.taken start) (Out.taken now) waits rest all (u.told k) u.some;
    failed = λ is. absurd (cc);
  }

  pub refused_first : 0 < length all → StoppedEmitting Out now now all fault.OutOfMemory
  refused_first some = record {
    took = λ k. took_so_far (Out.taken now) (Out.taken now) all all (omega arith) refl;
    kind = inr refl;
    short = λ is k. omega arith;
    failed = λ is. absurd (cc);
  }

  -- the writer failed within a piece
  pub cut : (after : S) (waits piece kept rest : List ℕ) → IsEmitting Out start now all waits rest → waits ≡ piece ++ kept
      → (Out.is_known → TookPrefix (Out.taken now) (Out.taken after) piece) → HasFailed (Out.failures now) (Out.failures after)
      → StoppedEmitting Out start after all fault.WriteFault
  cut after waits piece kept rest u e took failed = record {
    took = λ k.
        took_on (Out.taken start) (Out.taken now) (Out.taken after) piece (kept ++ rest) all (u.grown k)
        (u.told k ∙ ap (λ (l : List ℕ). Out.taken now ++ l) (ap (λ (l : List ℕ). l ++ rest) e ∙ append_assoc piece kept rest)) (took k);
    kind = inl refl;
    short = λ is. absurd (cc);
    failed = λ is. rw (← u.failures) failed;
  }

  -- it took a piece
  pub emitted : (after : S) (waits piece kept rest : List ℕ) → IsEmitting Out start now all waits rest → waits ≡ piece ++ kept → 0 < length kept
      → (Out.is_known → Out.taken after ≡ Out.taken now ++ piece) → Out.failures after ≡ Out.failures now
      → IsEmitting Out start after all kept rest
  emitted after waits piece kept rest u e some took failures = record {
    told = λ k.
        u.told k
        ∙ (ap (λ (l : List ℕ). Out.taken now ++ l) (ap (λ (l : List ℕ). l ++ rest) e ∙ append_assoc piece kept rest)
        ∙ (sym (append_assoc (Out.taken now) piece (kept ++ rest)) ∙ ap (λ (l : List ℕ). l ++ (kept ++ rest)) (sym (took k))));
    grown = λ k. let g = u.grown k in omega (arith, ap length (took k), length-append (Out.taken now) piece);
    some = some;
    failures = failures ∙ u.failures;
  }

  -- records, of which the writer took some
  pub emitted_records : (after : S) (waits kept rest : List ℕ) → IsEmitting Out start now all waits rest → 0 < length kept
      → (Out.is_known → Out.taken after ++ kept ≡ Out.taken now ++ waits)
      → (Out.is_known → length (Out.taken now) ≤ length (Out.taken after)) → Out.failures after ≡ Out.failures now
      → IsEmitting Out start after all kept rest
  emitted_records after waits kept rest u some told grown failures = record {
    told = λ k.
        u.told k
        ∙ (sym (append_assoc (Out.taken now) waits rest) ∙ (ap (λ (l : List ℕ). l ++ rest) (sym (told k)) ∙ append_assoc (Out.taken after) kept rest));
    grown = λ k. let g = u.grown k in let h = grown k in omega arith;
    some = some;
    failures = failures ∙ u.failures;
  }

  -- it took the rest
  pub emitted_all : (after : S) (waits : List ℕ) → IsEmitting Out start now all waits []
      → (Out.is_known → Out.taken after ≡ Out.taken now ++ waits) → Out.failures after ≡ Out.failures now → HasEmitted Out start after all
  emitted_all after waits u took failures = record {
    taken = λ k. took k ∙ (ap (λ (l : List ℕ). Out.taken now ++ l) (sym (append-nil waits)) ∙ sym (u.told k));
    failures = failures ∙ u.failures;
  }

-- the first was to be made, and this of it is left
abbrev pub StillEmits : {S : Type 0} → Writer S → (before now : S) → (waits waits_now made left : List ℕ) → Type 0
StillEmits {S = S} Out before now waits waits_now made left =
    (start : S) → (all rest : List ℕ) → IsEmitting Out start before all waits (made ++ rest)
    → IsEmitting Out start now all waits_now (left ++ rest)

-- records, of which the writer took none, or a part of what waits
pub records_stopped : {S : Type 0} (Out : Writer S) (start now after : S) (all waits rest : List ℕ) (f : ListFault)
    → IsEmitting Out start now all waits rest → (Out.is_known → TookPrefix (Out.taken now) (Out.taken after) waits)
    → (f ≡ list.OutOfMemory → after ≡ now) → (f ≡ list.WriteFault → HasFailed (Out.failures now) (Out.failures after))
    → StoppedEmitting Out start after all (of_list f)
records_stopped Out start now after all waits rest list.WriteFault u took same failed =
    cut Out start now all after waits waits [] rest u (sym (append-nil waits)) took (failed refl)
records_stopped Out start now after all waits rest list.OutOfMemory u took same failed =
    rw (same refl) (refused Out start now all waits rest u)
