use Rattle.pocsag_findings.proofs.Prelude.{◌≡◌, ℕ, ◌∙◌, arith, sym, ◌*◌, ◌%◌, ◌^◌, rules, column_of}
use Rattle.std.proofs.lemmas.List.FromFn.{map-range_with_len_more}
use Rattle.pocsag_findings.specs.declared.finding.Column.{Column}
use Rattle.pocsag_findings.proofs.judgement.columns_at.Goals as goal

pub loop-slot-preserved : goal.loop-slot-preserved
loop-slot-preserved c =
    let column : ℕ → Column = column_of c.args.context.now.classes.now c.args.limits.now in
    let power : 1 * 2 ^ c.loop-slot.slot % 65536 ≡ 2 ^ c.loop-slot.slot = search rules in
    c.in_ok-push.ensures.items
    ∙ rw (c.loop-slot.invariant, c.least_of_set.ensures, power)
    (sym (map-range_with_len_more column 0 c.loop-slot.slot c.loop-slot.slot (omega arith)))
