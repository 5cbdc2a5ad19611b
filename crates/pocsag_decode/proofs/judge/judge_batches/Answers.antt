use Rattle.pocsag_decode.proofs.Prelude.{◌≡◌, ◌+◌, ◌-◌, ◌*◌, ◌/◌, ◌≤◌, ℕ, Bool, List, [], length, take, drop, sym, subst, arith, Result, take_rest, err_from_is_err_and, words_of, DecodeFault, JudgesMore}
use Rattle.std.proofs.Common.{Err, Ok}
use Rattle.pocsag_decode.proofs.Fine.{batch_bad, batch_then, none_fine}
use Rattle.pocsag_decode.proofs.judge.judge_batches.Goals as goal

pub loop-i-init : goal.loop-i-init
loop-i-init c = λ r h. h

pub returns-in_err-in_page : goal.returns-in_err-in_page
returns-in_err-in_page c =
    let loop = c.loop-i in
    let bytes = c.args.bytes.now in
    let p = err_from_is_err_and c.from_residual.result c.from_residual.ensures.1 in
    let within : 68 * loop.i + 68 ≤ length bytes = omega arith in
    let f = c.in_err-in_page.field-0.0 in
    rw (p.1, p.2) (loop.invariant (Err f) (batch_bad loop.i bytes within loop.in_page f c.in_err-in_page.ensures) [] none_fine)

pub loop-i-preserved : goal.loop-i-preserved
loop-i-preserved c =
    let loop = c.loop-i in
    let within : 68 * loop.i + 68 ≤ length c.args.bytes.now = omega arith in
    λ r h. loop.invariant r (batch_then loop.i c.args.bytes.now within loop.in_page c.in_ok-in_page.in_page r c.in_ok-in_page.ensures h)

-- what is judged behind the whole batches
behind : (i n : ℕ) (in_page : Bool) (bytes : List ℕ) (r : Result Bool DecodeFault) → i ≡ n
    → JudgesMore r (17 * n) in_page (words_of (take (length bytes - 68 * n) (drop (68 * n) bytes)))
    → JudgesMore r (17 * i) in_page (words_of (drop (68 * i) bytes))
behind i n in_page bytes r is h =
    subst (λ (k : ℕ). JudgesMore r (17 * k) in_page (words_of (drop (68 * k) bytes))) (sym is)
    (subst (λ (l : List ℕ). JudgesMore r (17 * n) in_page (words_of l)) (take_rest bytes (68 * n)) h)

pub returns-in_err-judge_words : goal.returns-in_err-judge_words
returns-in_err-judge_words c =
    let loop = c.loop-i in
    let p = err_from_is_err_and c.from_residual-in_err-judge_words.result c.from_residual-in_err-judge_words.ensures.1 in
    let f = c.in_err-judge_words.field-0.0 in
    rw (p.1, p.2)
    (loop.invariant (Err f)
    (behind loop.i (length c.args.bytes.now / 68) loop.in_page c.args.bytes.now (Err f) (omega arith) c.in_err-judge_words.ensures) [] none_fine)

pub returns : goal.returns
returns c =
    let loop = c.loop-i in
    let last = Ok c.in_ok-judge_words.field-0 in
    (loop.invariant last
    (behind loop.i (length c.args.bytes.now / 68) loop.in_page c.args.bytes.now last (omega arith) c.in_ok-judge_words.ensures) [] none_fine).good
