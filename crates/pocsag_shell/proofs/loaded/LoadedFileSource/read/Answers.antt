use Rattle.pocsag_shell.proofs.Prelude.{ℕ, List, ◌∙◌, ap, arith, length-take-le}
use Rattle.std.proofs.Math.ListN.{drop, take}
use Rattle.pocsag_shell.proofs.Loads.{one_read}
use Rattle.pocsag_shell.proofs.loaded.LoadedFileSource.read.Goals as goal

pub returns-clause-moved : goal.returns-clause-moved
returns-clause-moved c = λ t.
    one_read c.args.self.now.place c.min-count.result c.args.self.now.bytes.items c.copy_from_slice.new.self _
    (c.copy_from_slice.ensures.after ∙ ap (take c.min-count.result) c.split_at.ensures.back
    ∙ ap (λ (l : List ℕ). take c.min-count.result (drop c.args.self.now.place l)) c.as_slice.ensures.value)
    (c.copy_from_slice.ensures.len ∙ length-take-le c.min-count.result c.args.buffer.now (omega (arith, c.min-count.ensures)))
