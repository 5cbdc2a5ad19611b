-- What a command did over the bytes of a transmission.
use Rattle.pocsag_receiver.proofs.Prelude.{◌≡◌, ◌⊎◌, ◌+◌, ◌<◌, ◌≤◌, ℕ, Bool, true, false, List, ◌++◌, length, Err, Result, ap, sym, subst, inl, inr, refl, ◌∙◌, arith, IfNone, IfSome, HasFailed, TookPrefix, input_limit, Page, Sent, ReadsAs, ListFault, one_reading, printed_so, streams_as, told_so, printed_by, WasNotRead, over_bytes, over_reader, IsStreamOf, Ran, ErrorStream, Shows, view_text, View, fault_of_list, receiver_status, listed_in, decodes, repairs, shows, streamed, writing, ReceiverFault, ListForm}
use Rattle.pocsag_words.specs.declared.device.Sink.{Ghosts as Writer}
use Rattle.pocsag_words.specs.declared.device.Source.{Ghosts as Reader}
use Rattle.pocsag_pager.specs.Damage.{IsDamaged}
use Rattle.pocsag_decode.specs.Repairs.{Counts}
use Rattle.pocsag_decode.specs.declared.fault.ListFault.TheVariants as listing
use Rattle.pocsag_decode.proofs.Restoration.{no_fault_of_reading, restores}
use Rattle.pocsag_shell.specs.Faults.{file_status}
use Rattle.pocsag_shell.specs.Readers.{IsUncut, Task}
use Rattle.pocsag_shell.specs.declared.fault.FileFault.{FileFault}
use Rattle.pocsag_shell.specs.declared.fault.FileFault.TheVariants as file
use Rattle.pocsag_receiver.specs.Repair.{AreReadOf}
use Rattle.pocsag_receiver.specs.declared.fault.ReceiverFault.TheVariants as fault
use Rattle.pocsag_receiver.specs.declared.repair.Repairing.{Repairing}
use Rattle.pocsag_receiver.proofs.Received.{never_refused}

-- ---- a text that was not written whole

module _ {O : Type 0} (Out : Writer O) (out out' : O) (due : List ℕ) where
  pub unlisted : (e : ListFault) → (e ≡ listing.WriteFault → HasFailed (Out.failures out) (Out.failures out'))
      → (Out.is_known → TookPrefix (Out.taken out) (Out.taken out') due)
      → (e ≡ listing.OutOfMemory → (out' ≡ out) ⊎ (Out.is_known → length (Out.taken out') < length (Out.taken out) + length due))
      → IsStreamOf (writing due) Out out out' (Err (fault_of_list e))
  unlisted listing.WriteFault failed part short =
      (λ _. tt, inr (inl (refl, failed refl, λ _. (0, due, (refl, refl), part))))
  unlisted listing.OutOfMemory failed part short = (
    λ _. tt,
    elim (short refl) [
      | inl same ↦ inl (refl, same)
      | inr less ↦ inr (inr (refl, λ _. (0, due, (refl, refl), λ k. (part k, less k))))
    ],
  )

-- ---- what is so over bytes

module _ {O : Type 0} (Out : Writer O) (out out' : O) (result : Result ℕ ReceiverFault) where
  -- of a text that is due of them
  pub written : (Prints : (bytes text : List ℕ) → Type 0) (Explains : (bytes : List ℕ) → ReceiverFault → Type 0) (bytes due : List ℕ) → Prints bytes due
      → Explains bytes (fault.File file.OutOfMemory) → IsStreamOf (writing due) Out out out' result
      → IsStreamOf (over_bytes (streamed Prints Explains) Out bytes) Out out out' result
  written Prints Explains bytes due prints starved =
      streams_as (writing due) (over_bytes (streamed Prints Explains) Out bytes) Out out out' result (λ k. tt)
      (λ s text p. (p.0, subst (Prints bytes) (sym p.1) prints)) (λ f why. subst (Explains bytes) (sym why) starved) (λ f why. why) (λ f why. why)

  -- over those that are read of a file
  pub over_repaired : (task : Task ReceiverFault) (before after : Repairing) (held bytes : List ℕ) → AreReadOf held before.is_asked bytes
      → Counts after.corrected held bytes → IsStreamOf (over_bytes task Out bytes) Out out out' result
      → IsStreamOf (over_bytes (repairs before after task) Out held) Out out out' result
  over_repaired task before after held bytes read counted =
      streams_as (over_bytes task Out bytes) (over_bytes (repairs before after task) Out held) Out out out' result (λ k. k)
      (λ s text p. (p.0, record { bytes = bytes; read = read; holds = (counted, p.1) })) (λ f why. record { bytes = bytes; read = read; holds = why })
      (λ f why. why) (λ f why. why)

  -- over their reader
  pub over_read : {T : Type 0} (task : Task ReceiverFault) (Tx : Reader T) (tx tx' : T) (bytes items : List ℕ) → bytes ≡ items
      → (Tx.is_known → items ≡ Tx.held tx) → IsUncut Tx tx → (Tx.is_known → length items ≤ input_limit)
      → IsStreamOf (over_bytes task Out bytes) Out out out' result → IsStreamOf (over_reader task Tx Out tx tx') Out out out' result
  over_read task Tx tx tx' bytes items same held whole fits =
      streams_as (over_bytes task Out bytes) (over_reader task Tx Out tx tx') Out out out' result (λ k. k)
      (λ s text p. (p.0, record { bytes = bytes; held = λ k. same ∙ held k; whole = whole; fits = λ k. rw same (fits k); holds = p.1 }))
      (λ f why. inr (record { bytes = bytes; held = λ k. same ∙ held k; whole = whole; fits = λ k. rw same (fits k); holds = why }))
      (λ f why. why) (λ f why. why)

-- ---- bytes that are repaired

pub read_restored : (X T held bytes : List ℕ) (repair : Bool) → Sent X T → IsDamaged X held → repair ≡ true → AreReadOf held repair bytes → bytes ≡ X
read_restored X T held bytes false sent damaged on read = absurd cc
read_restored X T held bytes true sent damaged on read = restores X T sent held bytes damaged read

-- a file that is refused is larger than is read
unread_large : {T : Type 0} (Tx : Reader T) (tx tx' : T) (e : FileFault) → Tx.is_known → WasNotRead Tx tx tx' e → file_status e ≡ 1
    → input_limit < length (Tx.held tx)
unread_large Tx tx tx' file.TooLarge known why one = why known
unread_large Tx tx tx' file.Device known why one = absurd (omega arith)
unread_large Tx tx tx' file.OutOfMemory known why one = absurd (omega arith)
unread_large Tx tx tx' _ known why one = absurd why

module _ {T : Type 0} (Tx : Reader T) {tx tx' : T} where
  module _ {O E : Type 0} {Out : Writer O} {Err' : Writer E} {status : ℕ} {out out' : O} {err err' : ErrorStream ReceiverFault E}
      (before after : Repairing) where
    module _ (form : ListForm)
        (ran : Ran (over_reader (decodes form before after) Tx Out tx tx') Out Err' status out out' err err') where
      pub decoded_restored : Tx.is_known → Out.is_known → before.is_asked ≡ true → (X : List ℕ) (pages : List Page) → ReadsAs X pages
          → IsDamaged X (Tx.held tx) → IfNone (printed_by err') (Out.taken out' ≡ Out.taken out ++ listed_in form pages)
      decoded_restored known on asked X pages reads damaged =
          printed_so _ _ ran on on (λ s text prints taken.
          let h = prints.1 in
          let d = h.holds.holds.1 in
          let same = read_restored X reads.codewords h.bytes h.holds.bytes before.is_asked reads.sent (rw (h.held known) damaged) asked h.holds.read in
          let one : d.pages ≡ pages = one_reading X d.pages pages (rw (← same) d.reads) reads in
          taken ∙ ap (λ (l : List ℕ). Out.taken out ++ l) (d.listed ∙ ap (listed_in form) one))

      pub decoded_taken : Tx.is_known → before.is_asked ≡ true → (X : List ℕ) (pages : List Page) → ReadsAs X pages
          → IsDamaged X (Tx.held tx) → IfSome (printed_by err') (λ e. receiver_status e ≡ 1 → input_limit < length (Tx.held tx))
      decoded_taken known asked X pages reads damaged =
          let three : (e : ReceiverFault) → receiver_status e ≡ 3 → receiver_status e ≡ 1 → input_limit < length (Tx.held tx) =
          λ e three one. absurd (omega (arith, three, one)) in
          told_so _ _ ran (λ f why. elim why [
            | inl u ↦ λ one. unread_large Tx tx tx' u.0 known u.2 (rw u.1 at one)
            | inr h ↦
                let same = read_restored X reads.codewords h.bytes h.holds.bytes before.is_asked reads.sent (rw (h.held known) damaged) asked h.holds.read in
                three f (never_refused X f (no_fault_of_reading X pages reads) (rw same at h.holds.holds))
          ]) (λ f why. three f (rw why refl)) (λ f why. three f (rw why refl))

    module _ (view : View)
        (ran : Ran (over_reader (shows view before after) Tx Out tx tx') Out Err' status out out' err err') where
      pub shown_restored : Tx.is_known → Out.is_known → before.is_asked ≡ true → (X codewords : List ℕ) → Sent X codewords
          → IsDamaged X (Tx.held tx) → IfNone (printed_by err') (Shows (view_text view) X (Out.taken out) (Out.taken out'))
      shown_restored known on asked X codewords sent damaged =
          printed_so _ _ ran on on (λ s text prints taken.
          let h = prints.1 in
          let same = read_restored X codewords h.bytes h.holds.bytes before.is_asked sent (rw (h.held known) damaged) asked h.holds.read in
          record { shown = text; is_text = rw same at h.holds.holds.1.shown; taken = taken })
