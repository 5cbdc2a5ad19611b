-- What a command is that was run over its devices: one whose answer is due was run as is required.
use Rattle.pocsag_shell.proofs.Prelude.{◌≡◌, ℕ, inl, inr, Result, Ok, Err, IfErr, IfOk, EndedWell, EndedWith, IsAnswerOf, IsStreamOf, Ran, Work, answering, done, lost, refused, stopped, ErrorStream}
use Rattle.pocsag_words.specs.declared.device.Sink.{Ghosts as Writer}
use Rattle.pocsag_shell.specs.declared.answer.CommandAnswer.{CommandAnswer}

module _ {F O E : Type 0} (work : Work F) {Out : Writer O} {Err' : Writer E} {status : ℕ} {out out' : O} {err err' : ErrorStream F E} where
  -- what `print_answer` printed of an answer
  pub ran_as : {answer : Result CommandAnswer F} → IsAnswerOf work answer →
      Ran (answering work.lost work.ends answer) Out Err' status out out' err err' → Ran work Out Err' status out out' err err'
  ran_as is_answer (done ended printed) =
      done ended (λ t.
      let p = printed tt in
      (p.0, rw (p.1.2, p.1.3) at (rw p.1.1 at is_answer.0 t), p.2))
  ran_as is_answer (refused f ended explained same) =
      refused f ended (rw explained at is_answer.1) same
  ran_as is_answer (lost f ended of failed part) =
      lost f ended of failed (λ t.
      let p = part tt in
      (p.0, p.1, rw (p.2.2, p.2.3) at (rw p.2.1 at is_answer.0 t), p.3))
  ran_as is_answer (stopped f ended never part) = absurd never

  -- what a command wrote while it worked, before it ended its standard error
  pub ran_streamed : (result : Result ℕ F) → IsStreamOf work Out out out' result →
      IfOk result (λ s. (status ≡ s) × EndedWell err err') → IfErr result (EndedWith work.ends Err' err err' status) →
      Ran work Out Err' status out out' err err'
  ran_streamed (Ok s) stream well with_fault = done well.1 (λ t. rw well.0 (stream.0 t))
  ran_streamed (Err f) stream well with_fault = elim stream.1 [
    | inl why ↦ refused f with_fault why.0 why.1
    | inr (inl why) ↦ lost f with_fault why.0 why.1 why.2
    | inr (inr why) ↦ stopped f with_fault why.0 why.1
  ]
