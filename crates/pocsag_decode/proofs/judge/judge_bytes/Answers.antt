use Rattle.pocsag_decode.proofs.Prelude.{◌≡◌, ◌%◌, ◌<◌, ◌≤◌, ◌==◌, ℕ, List, [], ◌∷◌, length, drop, map, refl, sym, ap, subst, ◌∙◌, inl, inr, arith, false, All-from_get_or, err_from_is_err_and, kind_of, pages_from, after_preamble, codewords_in, leading, words_of, HasFaultOfEnd, HasFaultThere, AllMayStand, HasBadWord}
use Rattle.pocsag_decode.proofs.Preambles.{nil_or}
use Rattle.pocsag_decode.proofs.Transmissions.{IsWhole, whole_reads}
use Rattle.pocsag_decode.proofs.Words.{is_nil}
use Rattle.pocsag_decode.proofs.judge.judge_bytes.Goals as goal

-- what is split off is what follows the preamble
behind : (bytes rest : List ℕ) (n : ℕ) → rest ≡ drop n bytes → n ≡ leading bytes → rest ≡ after_preamble bytes
behind bytes rest n back is = back ∙ ap (λ (k : ℕ). drop k bytes) is

some_left : (l : List ℕ) → false ≡ (length l == 0) → 0 < length l
some_left [] e = absurd (cc)
some_left (x ∷ l) e = omega arith

pub returns-then-count-lt-PREAMBLE_BYTES-clause-err : goal.returns-then-count-lt-PREAMBLE_BYTES-clause-err
returns-then-count-lt-PREAMBLE_BYTES-clause-err c =
    let value = c.preamble_len-count.ensures.value in
    let short : leading c.args.bytes.now < 72 = omega arith in
    elim (nil_or (after_preamble c.args.bytes.now)) [
      | inl e ↦ inr (HasFaultOfEnd.short short e)
      | inr n ↦ inl (HasFaultThere.short short n)
    ]

pub returns-then-is_empty-clause-err : goal.returns-then-is_empty-clause-err
returns-then-is_empty-clause-err c =
    let value = c.preamble_len-count.ensures.value in
    let long : 72 ≤ leading c.args.bytes.now = omega arith in
    let is = behind c.args.bytes.now c.split_at.result.1.now c.preamble_len-count.result c.split_at.ensures.back value in
    inr (HasFaultOfEnd.no_batch long (sym is ∙ is_nil c.split_at.result.1.now c.if-is_empty.ensures))

pub returns-in_err-judge_batches-clause-err : goal.returns-in_err-judge_batches-clause-err
returns-in_err-judge_batches-clause-err c =
    let value = c.preamble_len-count.ensures.value in
    let long : 72 ≤ leading c.args.bytes.now = omega arith in
    let is = behind c.args.bytes.now c.split_at.result.1.now c.preamble_len-count.result c.split_at.ensures.back value in
    let p = err_from_is_err_and c.from_residual.result c.from_residual.ensures.1 in
    let f = c.in_err-judge_batches.field-0.0 in
    rw (p.1, p.2)
    (inl (HasFaultThere.bad long (subst (λ (l : List ℕ). HasBadWord (words_of l) f) is c.in_err-judge_batches.ensures)))

pub returns-then-rest-ne0-clause-err : goal.returns-then-rest-ne0-clause-err
returns-then-rest-ne0-clause-err c =
    let value = c.preamble_len-count.ensures.value in
    let long : 72 ≤ leading c.args.bytes.now = omega arith in
    let is = behind c.args.bytes.now c.split_at.result.1.now c.preamble_len-count.result c.split_at.ensures.back value in
    inr (HasFaultOfEnd.cut long (subst (λ (l : List ℕ). AllMayStand (words_of l)) is c.in_ok-judge_batches.ensures)
    (λ e. c.if-rest-ne0.true (ap (λ (l : List ℕ). length l % 68) is ∙ e)))

pub returns-clause-ok : goal.returns-clause-ok
returns-clause-ok c =
    let bytes = c.args.bytes.now in
    let value = c.preamble_len-count.ensures.value in
    let is = behind bytes c.split_at.result.1.now c.preamble_len-count.result c.split_at.ensures.back value in
    let whole : IsWhole bytes = record {
      small = All-from_get_or (λ b. b < 256) bytes 0 (λ i h. omega (arith, (c.type_inv.bytes i).fits));
      long = omega arith;
      some = subst (λ (l : List ℕ). 0 < length l) is (some_left c.split_at.result.1.now c.if-is_empty.ensures);
      good = subst (λ (l : List ℕ). AllMayStand (words_of l)) is c.in_ok-judge_batches.ensures;
      batches = sym (ap (λ (l : List ℕ). length l % 68) is) ∙ c.if-rest-ne0.false;
    } in
    (pages_from 0 (map kind_of (codewords_in bytes)), whole_reads bytes whole _ refl)
