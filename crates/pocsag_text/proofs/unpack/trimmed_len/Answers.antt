use Rattle.pocsag_text.proofs.Prelude.{◌≡◌, sym, ◌∙◌, arith}
use Rattle.pocsag_text.proofs.Trims.{trim_end-wanted, trim_end-unwanted, trim_end-nil}
use Rattle.pocsag_text.proofs.unpack.trimmed_len.Goals as goal

pub returns-then-text-len-clause-trimmed : goal.returns-then-text-len-clause-trimmed
returns-then-text-len-clause-trimmed c =
    sym (trim_end-wanted c.args.unwanted c.loop-len.len c.args.text.now c.loop-len-test.true c.loop-len.invariant.0 c.if-text-len.true)
    ∙ c.loop-len.invariant.1

pub loop-len-preserved : goal.loop-len-preserved
loop-len-preserved c = (
  omega arith,
  trim_end-unwanted c.args.unwanted c.loop-len.len c.args.text.now c.loop-len-test.true c.loop-len.invariant.0
      c.if-text-len.false ∙ c.loop-len.invariant.1,
)

pub returns-clause-trimmed : goal.returns-clause-trimmed
returns-clause-trimmed c =
    let z : c.loop-len.len ≡ 0 = omega arith in
    let whole = c.loop-len.invariant.1 in
    sym (trim_end-nil c.args.unwanted) ∙ (rw z at whole)
