-- Commands over the bytes that a reader holds.
use Rattle.pocsag_shell.proofs.Prelude.{◌≡◌, ℕ, ◌≤◌, List, ◌++◌, length, inl, inr, Result, Ok, Err, refl, ◌∙◌, IfNone, IfSome, EndedWell, EndedWith, printed_by, IsStreamOf, Ran, Work, done, lost, refused, stopped, ErrorStream}
use Rattle.std.specs.Prelude.{IfErr, IfOk}
use Rattle.pocsag_words.specs.Frame.{input_limit}
use Rattle.pocsag_words.specs.declared.device.Sink.{Ghosts as Writer}
use Rattle.pocsag_words.specs.declared.device.Source.{Ghosts as Reader}
use Rattle.pocsag_shell.proofs.Runs.{ran_streamed}
use Rattle.pocsag_shell.specs.Readers.{IsUncut, WasNotRead, Task, over_bytes, over_reader}
use Rattle.pocsag_shell.specs.declared.fault.FileFault.{FileFault}

-- one command did what another does, which prints and explains no less
pub streams_as : {F O : Type 0} (one other : Work F) (Out : Writer O) (out out' : O) (result : Result ℕ F)
    → (other.is_known → one.is_known) → ((s : ℕ) (text : List ℕ) → one.prints s text → other.prints s text)
    → ((f : F) → one.explains f → other.explains f) → ((f : F) → one.lost f → other.lost f) → ((f : F) → one.stops f → other.stops f)
    → IsStreamOf one Out out out' result → IsStreamOf other Out out out' result
streams_as one other Out out out' (Ok s) known prints explains by_writer by_memory is =
    (λ k. let p = is.0 (known k) in (p.0, prints s p.0 p.1, p.2), tt)
streams_as one other Out out out' (Err f) known prints explains by_writer by_memory is = (
  λ _. tt,
  elim is.1 [
    | inl why ↦ inl (explains f why.0, why.1)
    | inr (inl why) ↦ inr (inl (by_writer f why.0, why.1, λ k. let p = why.2 (known k) in (p.0, p.1, prints p.0 p.1 p.2, p.3)))
    | inr (inr why) ↦ inr (inr (by_memory f why.0, λ k. let p = why.1 (known k) in (p.0, p.1, prints p.0 p.1 p.2, p.3)))
  ],
)

module _ {F O E T : Type 0} (task : Task F) (Tx : Reader T) {Out : Writer O} {Err' : Writer E} {tx tx' : T} {out : O} {status : ℕ}
    {err err' : ErrorStream F E} where
  -- what is so over the bytes that were read is so over their reader
  pub ran_read : {bytes items : List ℕ} {out' : O} (result : Result ℕ F) → bytes ≡ items → (Tx.is_known → items ≡ Tx.held tx)
      → IsUncut Tx tx → (Tx.is_known → length items ≤ input_limit) → IsStreamOf (over_bytes task Out bytes) Out out out' result
      → IfOk result (λ s. (status ≡ s) × EndedWell err err') → IfErr result (EndedWith task.ends Err' err err' status)
      → Ran (over_reader task Tx Out tx tx') Out Err' status out out' err err'
  ran_read {bytes = bytes} {items = items} {out' = out'} result same held whole fits streams well with_fault =
      let by_reader : IsStreamOf (over_reader task Tx Out tx tx') Out out out' result =
      streams_as (over_bytes task Out bytes) (over_reader task Tx Out tx tx') Out out out' result (λ k. k)
      (λ s text p. (p.0, record { bytes = bytes; held = λ k. same ∙ held k; whole = whole; fits = λ k. rw same (fits k); holds = p.1 }))
      (λ f holds. inr (record { bytes = bytes; held = λ k. same ∙ held k; whole = whole; fits = λ k. rw same (fits k); holds = holds }))
      (λ f why. why) (λ f why. why) streams in
      ran_streamed (over_reader task Tx Out tx tx') result by_reader well with_fault

  -- what was not read is told
  pub ran_unread : (e : FileFault) → WasNotRead Tx tx tx' e → EndedWith task.ends Err' err err' status (task.as_fault e)
      → Ran (over_reader task Tx Out tx tx') Out Err' status out out err err'
  ran_unread e why ended = refused (task.as_fault e) ended (inl (e, refl, why)) refl

-- what the command printed, and which fault it told
module _ {F O E : Type 0} (work : Work F) {Out : Writer O} {Err' : Writer E} {status : ℕ} {out out' : O} {err err' : ErrorStream F E} where
  pub printed_so : (P : Type 0) → Ran work Out Err' status out out' err err' → work.is_known → Out.is_known
      → ((s : ℕ) (text : List ℕ) → work.prints s text → Out.taken out' ≡ Out.taken out ++ text → P) → IfNone (printed_by err') P
  printed_so P (done well printed) known on so = let p = printed known in rw well.0 (so status p.0 p.1 (p.2 on))
  printed_so P (refused f told why same) known on so = rw told.0 tt
  printed_so P (lost f told why failed part) known on so = rw told.0 tt
  printed_so P (stopped f told why part) known on so = rw told.0 tt

  pub told_so : (P : F → Type 0) → Ran work Out Err' status out out' err err' → ((f : F) → work.explains f → P f)
      → ((f : F) → work.lost f → P f) → ((f : F) → work.stops f → P f) → IfSome (printed_by err') P
  told_so P (done well printed) by_bytes by_writer by_memory = rw well.0 tt
  told_so P (refused f told why same) by_bytes by_writer by_memory = rw told.0 (by_bytes f why)
  told_so P (lost f told why failed part) by_bytes by_writer by_memory = rw told.0 (by_writer f why)
  told_so P (stopped f told why part) by_bytes by_writer by_memory = rw told.0 (by_memory f why)
