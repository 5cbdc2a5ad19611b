use Rattle.pocsag_pager.proofs.Prelude.{◌+◌, ◌*◌, ◌≤◌, ℕ, List, length, take, sym, subst, ◌∙◌, arith, words_of, HasHeard, pager_address, err_from_is_err_and, ShowsSome}
use Rattle.pocsag_pager.proofs.WholeWords.{next_batch}
use Rattle.pocsag_pager.proofs.Memory.{shows_last, shows_whole}
use Rattle.pocsag_pager.proofs.shown.hear_batches.Goals as goal

pub loop-i-preserved : goal.loop-i-preserved
loop-i-preserved c =
    let loop = c.loop-i in
    let bytes = c.args.bytes.now in
    let within : 68 * loop.i + 68 ≤ length bytes = omega arith in
    record {
      heard =
          subst (λ (ws : List ℕ). HasHeard c.hear_batch.new.pager ws c.hear_batch.new.pages.items) (sym (next_batch loop.i bytes within))
          (c.in_ok-hear_batch.ensures.heard.heard (words_of (take (68 * loop.i) bytes)) loop.invariant.heard);
      address = c.hear_batch.ensures.heard.address ∙ loop.invariant.address;
    }

pub returns-in_err-hear_batch-clause-memory : goal.returns-in_err-hear_batch-clause-memory
returns-in_err-hear_batch-clause-memory c =
    let loop = c.loop-i in
    let bytes = c.args.bytes.now in
    let within : 68 * loop.i + 68 ≤ length bytes = omega arith in
    let p = err_from_is_err_and c.from_residual.result c.from_residual.ensures.1 in
    rw p.1
    (subst (λ (a : ℕ). ShowsSome (words_of bytes) a) loop.invariant.address
    (shows_whole (17 * (loop.i + 1)) (68 * (loop.i + 1)) bytes (pager_address loop.pager) (omega arith) (omega arith)
    (subst (λ (ws : List ℕ). ShowsSome ws (pager_address loop.pager)) (sym (next_batch loop.i bytes within))
    (c.in_err-hear_batch.ensures.memory (words_of (take (68 * loop.i) bytes)) loop.invariant.heard))))

pub returns-in_err-keep-clause-memory : goal.returns-in_err-keep-clause-memory
returns-in_err-keep-clause-memory c =
    let loop = c.loop-i in
    let bytes = c.args.bytes.now in
    let words = words_of (take (68 * loop.i) bytes) in
    let heard = loop.invariant.heard in
    let shown = c.in_ok-last.ensures.shown words loop.pages.items heard.stands heard.ended in
    let p = err_from_is_err_and c.from_residual-in_err-keep.result c.from_residual-in_err-keep.ensures.1 in
    rw p.1
    (subst (λ (a : ℕ). ShowsSome (words_of bytes) a) loop.invariant.address
    (shows_whole (17 * loop.i) (68 * loop.i) bytes (pager_address loop.pager) (omega arith) (omega arith)
    (shows_last words (pager_address loop.pager) loop.pages.items c.in_ok-last.last c.in_err-keep.ensures.memory shown)))
