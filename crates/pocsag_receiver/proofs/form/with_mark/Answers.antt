use Rattle.pocsag_receiver.proofs.Prelude.{refl, append_assoc}
use Rattle.pocsag_receiver.proofs.form.with_mark.Goals as goal

pub returns-clause-marked : goal.returns-clause-marked
returns-clause-marked c =
    rw (
      c.in-Some.is,
      c.in_ok-u64-2.ensures.ok,
      c.in_ok-key-4.ensures.ok,
      c.in_ok-boolean.ensures.ok,
      c.in_ok-key-3.ensures.ok,
      c.in_ok-u64.ensures.ok,
      c.in_ok-key-2.ensures.ok,
      c.in_ok-string.ensures.ok,
      c.in_ok-key.ensures.ok,
      c.state_name.ensures,
    )
    (simp append_assoc refl)
